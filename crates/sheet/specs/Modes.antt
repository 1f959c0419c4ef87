-- The modes of a grant, and what it makes of the rights on a cell. Assumes nothing.
use Rattle.std.specs.Prelude.{◌≡◌, ℕ, ◌^◌, false, cond, ◌==◌, bit_or, nat_lt, Ok, Err, Result}
use Rattle.part.specs.Rows.{exclusive}
use Rattle.sheet.specs.declared.mode.Mode.{Mode}
use Rattle.sheet.specs.declared.mode.Mode.TheVariants.{Both, Read, Write}
use Rattle.sheet.specs.declared.refusal.Refusal.{Refusal}
use Rattle.sheet.specs.declared.refusal.Refusal.TheVariants as refusal
use Rattle.sheet.specs.declared.rights.Rights.{Rights}

-- the mode of a number: 1 reads, 2 writes, 0 and 3 do both
abbrev pub mode_of : ℕ → Result Mode Refusal
mode_of m = cond (m == 1) (Ok Read) (cond (m == 2) (Ok Write) (cond (nat_lt m 4) (Ok Both) (Err refusal.Mode)))

-- a cell's rows with a bit of part p more, where the mode reads, and where it writes
abbrev pub more_read : Mode → ℕ → ℕ → ℕ
more_read Both row p = bit_or row (2 ^ p)
more_read Read row p = bit_or row (2 ^ p)
more_read Write row p = row

abbrev pub more_write : Mode → ℕ → ℕ → ℕ
more_write Both row p = bit_or row (2 ^ p)
more_write Read row p = row
more_write Write row p = bit_or row (2 ^ p)

-- rights that have the bits of part p more
pub record Widened (from : Rights) (p : ℕ) (mode : Mode) (to : Rights) : Type 0 where
  pub read : to.read ≡ more_read mode from.read p
  pub write : to.write ≡ more_write mode from.write p

-- with them the rows would not be exclusive
abbrev pub Blocked : Rights → ℕ → Mode → Type 0
Blocked r p mode = exclusive (more_read mode r.read p) (more_write mode r.write p) ≡ false
