use Rattle.std.proofs.Common.{◌++◌, Some, Ok, codes}
use Rattle.std.specs.Fmt.{DisplaysOnOk, ◌++?◌}
use Rattle.report.specs.Outcomes.{missed_text, values_text}
use Rattle.report.proofs.outcome.OutcomeDisplay.fmt.Given as goal

abbrev pub invariant-loop-i : goal.invariant-loop-i
invariant-loop-i g l =
    DisplaysOnOk g.W.Write.write_str_gives l.fn.f (Ok tt)
    (Some (codes "done" ++ missed_text l.fn.self.logged.missed) ++? values_text g.E.Display.output g.E.Element.unpacked l.fn.self.logged l.i) l.f
