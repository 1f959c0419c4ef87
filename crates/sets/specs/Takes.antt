-- How many elements an instruction takes. Assumes nothing.
use Rattle.std.specs.Prelude.{ℕ, cond, List, [], ◌∷◌, length, Ok, Err, Result, ◌==◌, nat_lt}
use Rattle.instruction.specs.declared.fault.SetFault.{SetFault}
use Rattle.instruction.specs.declared.fault.SetFault.TheVariants.{WrongCount}

-- at most four elements, as they are
abbrev pub all_of : {E : Type 0} → List E → Result (List E) SetFault
all_of xs = cond (nat_lt 4 (length xs)) (Err WrongCount) (Ok xs)

-- exactly one, two or three elements; a definition each, since one by a number would give a list that each meaning takes apart again
abbrev pub one_of : {E : Type 0} → List E → Result E SetFault
one_of [] = Err WrongCount
one_of (a ∷ []) = Ok a
one_of (a ∷ (b ∷ xs)) = Err WrongCount

abbrev pub two_of : {E : Type 0} → List E → Result (E × E) SetFault
two_of [] = Err WrongCount
two_of (a ∷ []) = Err WrongCount
two_of (a ∷ (b ∷ [])) = Ok (a, b)
two_of (a ∷ (b ∷ (c ∷ xs))) = Err WrongCount

abbrev pub three_of : {E : Type 0} → List E → Result (E × E × E) SetFault
three_of [] = Err WrongCount
three_of (a ∷ []) = Err WrongCount
three_of (a ∷ (b ∷ [])) = Err WrongCount
three_of (a ∷ (b ∷ (c ∷ []))) = Ok (a, b, c)
three_of (a ∷ (b ∷ (c ∷ (d ∷ xs)))) = Err WrongCount

-- f of a value; a fault stays
abbrev pub onto : {V W : Type 0} → (V → W) → Result V SetFault → Result W SetFault
onto f (Ok v) = Ok (f v)
onto f (Err e) = Err e

-- one element as a list
abbrev pub single : {E : Type 0} → Result E SetFault → Result (List E) SetFault
single r = onto (λ v. v ∷ []) r

-- code 1 gives its elements back, each other code the one element that value says
abbrev pub meaning_of : {E : Type 0} → (ℕ → List E → Result E SetFault) → ℕ → List E → Result (List E) SetFault
meaning_of value code xs = cond (code == 1) (all_of xs) (single (value code xs))
