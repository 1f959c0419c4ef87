-- What the code's sheet and refusals mean. Assumes nothing.
use Rattle.std.specs.Prelude.{◌≡◌, ℕ, ◌<◌, false, length, take, bit_or, Ok, Err, Result}
use Rattle.cells.specs.Cells.{member}
use Rattle.sheet.specs.declared.refusal.Refusal.{Refusal}
use Rattle.sheet.specs.declared.refusal.Refusal.TheVariants.{Part, Size, Cell, Taken, Full, Mode}
use Rattle.sheet.specs.declared.sheet.Sheet.{Sheet}
use Rattle.sheet.specs.declared.sheet.Refused.{Refused}
use Rattle.sheet.specs.declared.rights.Rights.{Rights}
use Rattle.sheet.specs.Rows.{Rows, Outcome, read_row, write_row, granted_read, granted_write, grant_number, swap_number}
use Rattle.sheet.specs.Sound.{reads, writes}

-- the number of a refusal
abbrev pub number_of : Refusal → ℕ
number_of Part = 9
number_of Size = 14
number_of Cell = 15
number_of Taken = 16
number_of Full = 17
number_of Mode = 18

-- what a sheet says
abbrev pub rows_of : Sheet → Rows
rows_of s = record { read = reads s.rights; write = writes s.rights; size = s.size; swaps = take s.count s.swapped }

-- the sheet that comes back, changed or as it was
abbrev pub outcome : Result Sheet Refused → Outcome
outcome (Ok s) = record { rows = rows_of s; number = 0 }
outcome (Err e) = record { rows = rows_of e.sheet; number = number_of e.why }

-- a grant among n parts that is allowed, and the rights that it gives on its cell; or the number of its refusal
pub record Gives (n : ℕ) (s : Rows) (c p m : ℕ) (r : Rights) : Type 0 where
  pub free : member s.swaps c ≡ false
  pub number : grant_number n s c p m ≡ 0
  pub read : r.read ≡ granted_read s c p m
  pub write : r.write ≡ granted_write s c p m

abbrev pub Granting : ℕ → Rows → ℕ → ℕ → ℕ → Result Rights Refusal → Type 0
Granting n s c p m (Ok r) = Gives n s c p m r
Granting n s c p m (Err why) = number_of why ≡ grant_number n s c p m

-- a swap that is allowed; or the number of its refusal
pub record Free (s : Rows) (c : ℕ) : Type 0 where
  pub within : c < s.size
  pub free : member s.swaps c ≡ false
  pub bare : bit_or (read_row s c) (write_row s c) ≡ 0
  pub room : length s.swaps < 16

abbrev pub Swapping : Rows → ℕ → Result (Unit {0}) Refusal → Type 0
Swapping s c (Ok _) = Free s c
Swapping s c (Err why) = number_of why ≡ swap_number s c
