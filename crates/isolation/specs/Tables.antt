-- Tables: a value for each number. Assumes nothing.
use Rattle.std.specs.Prelude.{ℕ, zero, suc, Bool, false, cond, ◌||◌, List, ◌==◌, slice_index_or}

-- the table that a list stands for, with z beyond its end
abbrev pub at : {V : Type 0} → V → List V → ℕ → V
at z l n = slice_index_or l n z

-- a table with the value at n replaced
abbrev pub replace : {V : Type 0} → (ℕ → V) → ℕ → V → ℕ → V
replace f n v i = cond (i == n) v (f i)

-- a table with the value at n changed by a function
abbrev pub change : {V : Type 0} → (ℕ → V) → ℕ → (V → V) → ℕ → V
change f n g i = cond (i == n) (g (f i)) (f i)

-- whether some number below n passes a test
abbrev pub any : ℕ → (ℕ → Bool) → Bool
any zero f = false
any (suc n) f = f n || any n f
