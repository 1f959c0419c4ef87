-- What holds of every sheet, and what refusal 16 means. Assumes nothing.
use Rattle.std.specs.Prelude.{◌≡◌, ℕ, ◌<◌, ◌≤◌, true, false, ◌||◌, ◌⊎◌, length}
use Rattle.part.specs.Rows.{Another}
use Rattle.cells.specs.Cells.{member, Within, Distinct}
use Rattle.sheet.specs.Rows.{Rows, read_row, write_row, touchable}

-- what holds of every sheet
pub record Kept (s : Rows) : Type 0 where
  -- what a part may write no other part may touch, swapped cells aside
  pub apart : (c p q : ℕ) → member s.swaps c ≡ false → touchable s true p c ≡ true → (touchable s false q c || touchable s true q c) ≡ true → q ≡ p
  -- a swapped cell has no bits
  pub bare : (c : ℕ) → member s.swaps c ≡ true → (read_row s c ≡ 0) × (write_row s c ≡ 0)
  -- at most sixteen cells are swapped, all within the sheet and none twice
  pub few : length s.swaps ≤ 16
  pub within : Within s.size s.swaps
  pub distinct : Distinct s.swaps

-- a cell that a grant to part p finds taken: it is swapped, or another part has a bit
abbrev pub TakenFor : Rows → ℕ → ℕ → Type 0
TakenFor s c p = (member s.swaps c ≡ true) ⊎ Another (read_row s c) (write_row s c) p

-- the number of a grant among n parts is 16 exactly for a taken cell, where cell, part and mode are in range
pub record TakenIs16 (n : ℕ) (s : Rows) (c p m number : ℕ) : Type 0 where
  pub taken : number ≡ 16 → TakenFor s c p
  pub refused : c < s.size → p < n → m < 4 → TakenFor s c p → number ≡ 16
