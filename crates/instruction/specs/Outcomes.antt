-- What a call of an instruction set answers, and what it leaves in the lent places. Assumes nothing.
use Rattle.std.specs.Prelude.{◌≡◌, ℕ, ◌<◌, ◌≤◌, cond, List, ◌++◌, length, take, drop, Ok, Err, Result, nat_lt}
use Rattle.instruction.specs.declared.fault.SetFault.{SetFault}
use Rattle.instruction.specs.declared.fault.SetFault.TheVariants.{UnknownCode, WrongCount, FewPlaces}

abbrev pub fault_number : SetFault → ℕ
fault_number UnknownCode = 1
fault_number WrongCount = 2
fault_number FewPlaces = 3

-- what comes of a meaning with these places: there must be four, whatever the code
abbrev pub lent : {E : Type 0} → List E → Result (List E) SetFault → Result (List E) SetFault
lent places m = cond (nat_lt (length places) 4) (Err FewPlaces) m

-- how many elements there are, or the fault
abbrev pub counted : {E : Type 0} → Result (List E) SetFault → Result ℕ SetFault
counted (Ok vs) = Ok (length vs)
counted (Err f) = Err f

-- the elements take the first places; a fault leaves them all
abbrev pub laid : {E : Type 0} → List E → Result (List E) SetFault → List E
laid places (Ok vs) = vs ++ drop (length vs) places
laid places (Err f) = places

-- a call whose code means m, on places that were before and are after
pub record Called {E : Type 0} (m : Result (List E) SetFault) (before after : List E) (r : Result ℕ SetFault) : Type 0 where
  pub answer : r ≡ counted (lent before m)
  pub places : after ≡ laid before (lent before m)

-- with places enough: the meaning is read off the first places, and the others are as they were; or it is this fault, and none changed
abbrev pub Stands : {E : Type 0} → Result (List E) SetFault → List E → List E → Result ℕ SetFault → Type 0
Stands m before after (Ok n) = (m ≡ Ok (take n after)) × (n ≤ 4) × (drop n after ≡ drop n before)
Stands m before after (Err f) = (m ≡ Err f) × (after ≡ before)

-- a call case by case
pub record Applied {E : Type 0} (m : Result (List E) SetFault) (before after : List E) (r : Result ℕ SetFault) : Type 0 where
  pub lacking : length before < 4 → (r ≡ Err FewPlaces) × (after ≡ before)
  pub enough : 4 ≤ length before → Stands m before after r
