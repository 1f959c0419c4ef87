-- Laws of the head set. Assumes nothing.
use Rattle.std.specs.Prelude.{◌≡◌, ℕ, ◌+◌, ◌-◌, ◌%◌, List, [], ◌∷◌, map, length, Ok, Result}
use Rattle.element.specs.declared.colour.Colour.{Colour}
use Rattle.element.specs.declared.colour.Colour.TheVariants.{Open}
use Rattle.element.specs.declared.head.Head.{Head}
use Rattle.element.specs.Heads.{head}
use Rattle.instruction.specs.declared.fault.SetFault.{SetFault}
use Rattle.sets.specs.Takes.{onto}
use Rattle.sets.specs.Counts.{head_takes, fault_at, fault_in}
use Rattle.sets.specs.HeadMeaning.{shifted, flipped, head_meaning}

-- the heads of a meaning as pan, tilt and colour
abbrev pub parts : Result (List Head) SetFault → Result (List (ℕ × ℕ × Colour)) SetFault
parts m = onto (map (λ h. (h.pan, h.tilt, h.colour))) m

pub record HeadLaws : Type 0 where
  -- a fault comes exactly by the table of counts
  pub faults : (code : ℕ) (xs : List Head) → fault_in (head_meaning code xs) ≡ fault_at (head_takes code) (length xs)
  -- what codes 2 to 4 give, part by part
  pub tints : (a b : Head) → parts (head_meaning 2 (a ∷ b ∷ [])) ≡ Ok ((a.pan, a.tilt, b.colour) ∷ [])
  pub shifts : (a b : Head) →
      parts (head_meaning 3 (a ∷ b ∷ [])) ≡ Ok (((a.pan + b.pan) % 65536, (a.tilt + b.tilt) % 65536, a.colour) ∷ [])
  pub flips : (a : Head) → parts (head_meaning 4 (a ∷ [])) ≡ Ok (((a.pan + 32768) % 65536, 65535 - a.tilt, a.colour) ∷ [])
  -- a shift by nothing leaves a head; two flips give it back
  pub still : (a : Head) → shifted a (head 0 0 Open) ≡ a
  pub twice : (a : Head) → flipped (flipped a) ≡ a
