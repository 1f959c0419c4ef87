-- What the parts of a host's memory mean. Assumes nothing.
use Rattle.std.specs.Prelude.{ℕ, Bool, true, false, List, [], length, replicate, Some, None, Option, slice_index_or}
use Rattle.element.specs.declared.words.Words.{Words}
use Rattle.transfer.specs.declared.row.SaveRow.{SaveRow}
use Rattle.cells.specs.Cells.{beside}
use Rattle.transfer.specs.Rows.{row_of}
use Rattle.isolation.specs.Machine.{Turn, closed, opened}
use Rattle.isolation.specs.Request.{Request}

abbrev pub turn_of : Option ℕ → Turn
turn_of None = closed
turn_of (Some p) = opened p

abbrev pub no_row : SaveRow
no_row = record { words = [] }

-- what part p left in cell n, of the swapped cells
abbrev pub saves_of : {E : Type 0} → (Words → E) → E → List ℕ → List SaveRow → ℕ → ℕ → E
saves_of u z swaps rows p n = beside z swaps (row_of u (slice_index_or rows p no_row)) n

-- the request that these bytes make at a place, with these scratch lists
abbrev pub request_of : {E : Type 0} → ℕ → List ℕ → List E → List E → Request
request_of place bytes args results = record { place = place; bytes = bytes; arg_room = length args; result_room = length results }

-- a scratch list afterwards: full of null elements, or as it was where one was too short
abbrev pub left_null : {E : Type 0} → Bool → E → List E → List E
left_null true z xs = replicate (length xs) z
left_null false z xs = xs
