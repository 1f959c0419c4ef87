-- No code gives more than four elements. Assumes nothing.
use Rattle.std.specs.Prelude.{◌≡◌, ℕ, ◌≤◌, Bool, true, false, cond, List, [], ◌∷◌, length, Ok, Err, Result, ◌==◌, nat_lt, refl}
use Rattle.std.proofs.Common.{arith, ltb-false}
use Rattle.instruction.specs.declared.fault.SetFault.{SetFault}
use Rattle.instruction.specs.declared.fault.SetFault.TheVariants.{WrongCount}
use Rattle.sets.specs.Takes.{all_of, single, meaning_of}

-- no more than four elements
abbrev pub Few : {E : Type 0} → Result (List E) SetFault → Type 0
Few {E} m = (vs : List E) → m ≡ Ok vs → length vs ≤ 4

all_few : {E : Type 0} (b : Bool) (xs : List E) → nat_lt 4 (length xs) ≡ b → Few (cond b (Err WrongCount) (Ok xs))
all_few true xs t vs e = cc
all_few {E} false xs t vs e = let o : xs ≡ vs = cc in rw (← o) (ltb-false 4 (length xs) t)

single_few : {E : Type 0} (r : Result E SetFault) → Few (single r)
single_few {E} (Ok v) vs e = let o : ◌≡◌ {A = List E} (v ∷ []) vs = cc in rw (← o) (omega arith)
single_few (Err f) vs e = cc

pub meaning_few : {E : Type 0} (value : ℕ → List E → Result E SetFault) (code : ℕ) (xs : List E) → Few (meaning_of value code xs)
meaning_few value code xs =
    elim (code == 1) as (λ b. Few (cond b (all_of xs) (single (value code xs)))) [ true ↦ all_few _ xs refl | false ↦ single_few (value code xs) ]
