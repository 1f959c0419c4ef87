use Rattle.std.proofs.Common.{◌≡◌, ◌++◌, take}
use Rattle.std.specs.Fmt.{HasWritten, IsPlainFormatter}
use Rattle.std.specs.List.{flat_map}
use Rattle.cells.specs.Cells.{cell_list}
use Rattle.report.specs.Asks.{number_text}
use Rattle.report.proofs.asks.CellsDisplay.fmt.Given as goal

abbrev pub invariant-loop-n : goal.invariant-loop-n
invariant-loop-n g l =
    (IsPlainFormatter l.fn.f → HasWritten g.W.Write.write_str_gives l.fn.f (l.fn.self.word.now ++ flat_map number_text l.yielded) l.f)
    × (l.yielded ++ take l.n-iterator.n (cell_list l.n-iterator.iter.bytes.now) ≡ take 8 (cell_list l.fn.self.bytes.now))
