-- The two rows of a cell: the set of parts that may read it, and the set of those that may write it. Nothing here
-- depends on how many parts there are. Assumes nothing.
use Rattle.std.specs.Prelude.{◌≡◌, ℕ, ◌≤◌, Bool, true, false, ◌||◌, ◌≢◌, bit_or, count_ones, nat_le}
use Rattle.part.specs.Sets.{bit}

-- the ones in both rows taken together number at most one
abbrev pub exclusive : ℕ → ℕ → Bool
exclusive read write = nat_le (count_ones (bit_or read write)) 1

-- part p has a bit in one of the rows
abbrev pub holds : ℕ → ℕ → ℕ → Bool
holds read write p = bit p read || bit p write

-- parts that have a bit in a row with at most one 1 are the same part
abbrev pub OnePart : Type 0
OnePart = (row p q : ℕ) → count_ones row ≤ 1 → bit p row ≡ true → bit q row ≡ true → p ≡ q

-- what a part may write no other part may touch
abbrev pub Apart : ℕ → ℕ → Type 0
Apart read write = (p q : ℕ) → bit p write ≡ true → holds read write q ≡ true → q ≡ p

-- another part than p has a bit
abbrev pub Another : ℕ → ℕ → ℕ → Type 0
Another read write p = (q : ℕ) × (holds read write q ≡ true) × (q ≢ p)

-- rows that are exclusive stay so with a bit of part p more, in whichever row, exactly where no other part has a bit
pub record OneMore (read write p read' write' : ℕ) : Type 0 where
  pub taken : exclusive read' write' ≡ false → Another read write p
  pub refused : Another read write p → exclusive read' write' ≡ false
