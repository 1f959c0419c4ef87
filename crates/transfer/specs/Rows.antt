-- Save rows. Assumes nothing.
use Rattle.std.specs.Prelude.{◌≡◌, ℕ, ◌-◌, cond, List, ◌++◌, map, length, replicate, slice_index_or}
use Rattle.element.specs.Pairs.{pair}
use Rattle.element.specs.declared.element.Element.{Ghosts as Elements}
use Rattle.element.specs.declared.words.Words.{Words}
use Rattle.transfer.specs.declared.row.SaveRow.{SaveRow}
use Rattle.cells.specs.Cells.{member, beside}
use Rattle.transfer.specs.Lists.{elements_at}

-- the elements of a row
abbrev pub row_of : {E : Type 0} → (Words → E) → SaveRow → List E
row_of u r = map u r.words

-- Row r has the elements of the swapped cells of xs, packed, and two zeros in each place that is left.
-- So what stands in it beside a swapped cell is that cell's element.
pub record Saved {E : Type 0} (el : Elements E) (xs : List E) (swaps : List ℕ) (r : SaveRow) : Type 0 where
  pub words : r.words ≡ map el.packed (elements_at el.blank xs swaps) ++ replicate (16 - length swaps) (pair 0 0)
  pub each : (n : ℕ) → beside el.blank swaps (row_of el.unpacked r) n ≡ cond (member swaps n) (slice_index_or xs n el.blank) el.blank
