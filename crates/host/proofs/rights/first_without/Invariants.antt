use Rattle.std.proofs.Common.{◌≡◌, ◌+◌, ◌≤◌, length}
use Rattle.std.specs.Iterator.Adapters.{enumerate_source, enumerate_count}
use Rattle.cells.specs.Cells.{cell_list}
use Rattle.sheet.specs.Rows.{touchable}
use Rattle.sheet.specs.View.{rows_of}
use Rattle.isolation.specs.Check.{Verdict, each}
use Rattle.host.proofs.rights.first_without.Given as goal

abbrev pub invariant-loop-i : goal.invariant-loop-i
invariant-loop-i l =
    goal.iterator-loop-i.can_next l.i-iterator
    × goal.iterator-loop-i.is_finite l.i-iterator
    × (enumerate_count l.i-iterator + length (cell_list (enumerate_source l.i-iterator).bytes.now) ≤ 8)
    × ((v : Verdict) → each (touchable (rows_of l.sheet) l.writing l.part.number) l.from (cell_list l.cells) v
    ≡ each (touchable (rows_of l.sheet) l.writing l.part.number) (l.from + enumerate_count l.i-iterator) (cell_list (enumerate_source l.i-iterator).bytes.now) v)
