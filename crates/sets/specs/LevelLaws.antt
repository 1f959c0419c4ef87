-- Laws of the level set. Assumes nothing.
use Rattle.std.specs.Prelude.{◌≡◌, ℕ, ◌+◌, ◌-◌, ◌*◌, ◌/◌, ◌≤◌, min, max, ◌⊎◌, List, [], ◌∷◌, map, length, Ok, Result}
use Rattle.element.specs.declared.level.Level.{Level}
use Rattle.element.specs.Levels.{level}
use Rattle.instruction.specs.declared.fault.SetFault.{SetFault}
use Rattle.sets.specs.Takes.{onto}
use Rattle.sets.specs.Counts.{level_takes, fault_at, fault_in}
use Rattle.sets.specs.LevelMeaning.{scaled, curved, faded, level_meaning}

-- the levels of a meaning as numbers
abbrev pub numbers : Result (List Level) SetFault → Result (List ℕ) SetFault
numbers m = onto (map (λ l. l.value)) m

-- v is one of these levels
abbrev pub Among : Level → List Level → Type 0
Among v [] = ⊥
Among v (x ∷ xs) = (v ≡ x) ⊎ Among v xs

-- none of these levels is higher than v
abbrev pub NoneOver : Level → List Level → Type 0
NoneOver v [] = Unit {0}
NoneOver v (x ∷ xs) = (x.value ≤ v.value) × NoneOver v xs

pub record LevelLaws : Type 0 where
  -- a fault comes exactly by the table of counts
  pub faults : (code : ℕ) (xs : List Level) → fault_in (level_meaning code xs) ≡ fault_at (level_takes code) (length xs)
  -- what codes 3 to 6 give, in numbers: none is cut to its low bits
  pub scales : (a b : Level) → numbers (level_meaning 3 (a ∷ b ∷ [])) ≡ Ok (((a.value * b.value + 127) / 255) ∷ [])
  pub curves : (v : Level) → numbers (level_meaning 4 (v ∷ [])) ≡ Ok (((v.value * v.value + 127) / 255) ∷ [])
  pub fades : (a b t : Level) →
      numbers (level_meaning 5 (a ∷ b ∷ t ∷ [])) ≡ Ok (((a.value * (255 - t.value) + b.value * t.value + 127) / 255) ∷ [])
  pub raises : (v : Level) → numbers (level_meaning 6 (v ∷ [])) ≡ Ok (min (v.value + 1) 255 ∷ [])
  -- what code 2 gives is one of its levels, and none of them is higher
  pub tops : (xs : List Level) (v : Level) → level_meaning 2 xs ≡ Ok (v ∷ []) → Among v xs × NoneOver v xs
  -- scaling exceeds neither level, and by full changes nothing
  pub dims : (a b : Level) → ((scaled a b).value ≤ a.value) × ((scaled a b).value ≤ b.value)
  pub full : (a : Level) → scaled a (level 255) ≡ a
  -- the curve never lifts a level
  pub sags : (v : Level) → (curved v).value ≤ v.value
  -- a fade runs from the first level to the second, and stays between them
  pub starts : (a b : Level) → faded a b (level 0) ≡ a
  pub ends : (a b : Level) → faded a b (level 255) ≡ b
  pub between : (a b t : Level) → (min a.value b.value ≤ (faded a b t).value) × ((faded a b t).value ≤ max a.value b.value)
