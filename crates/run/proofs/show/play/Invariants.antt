use Rattle.std.proofs.Common.{◌≡◌}
use Rattle.std.specs.Iterator.Adapters.{enumerate_source, enumerate_count}
use Rattle.showfile.specs.Opening.{rest}
use Rattle.run.proofs.Going.{Going}
use Rattle.run.proofs.show.play.Given as goal

abbrev pub invariant-loop-n : goal.invariant-loop-n
invariant-loop-n g l =
    (goal.iterator-loop-n g).can_next l.n-iterator
    × (goal.iterator-loop-n g).is_finite l.n-iterator
    × ((enumerate_source l.n-iterator).bytes.now ≡ (enumerate_source l.initial.n-iterator).bytes.now)
    × Going g.S.Store g.S.Item.Element g.I.InstructionSet (enumerate_source l.initial.n-iterator).bytes.now (rest (enumerate_source l.initial.n-iterator)) l.initial.host l.initial.log l.initial.args l.initial.results
    (rest (enumerate_source l.n-iterator)) (enumerate_count l.n-iterator) l.host l.log l.args l.results
