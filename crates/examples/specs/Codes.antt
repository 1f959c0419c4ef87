-- Worked examples of the two sets. Assumes nothing.
use Rattle.std.specs.Prelude.{◌≡◌, ℕ, List, [], ◌∷◌, map, Ok, Result}
use Rattle.element.specs.declared.colour.Colour.TheVariants.{Open}
use Rattle.element.specs.declared.head.Head.{Head}
use Rattle.element.specs.Levels.{level}
use Rattle.element.specs.Heads.{head}
use Rattle.instruction.specs.declared.fault.SetFault.{SetFault}
use Rattle.sets.specs.Takes.{onto}
use Rattle.sets.specs.LevelMeaning.{level_meaning}
use Rattle.sets.specs.HeadMeaning.{head_meaning}
use Rattle.sets.specs.LevelLaws.{numbers}

-- pan and tilt of each head
abbrev pub aims : List Head → List ℕ
aims [] = []
aims (h ∷ hs) = h.pan ∷ h.tilt ∷ aims hs

-- a code of the level set at these levels
abbrev pub lights : ℕ → List ℕ → Result (List ℕ) SetFault
lights code ns = numbers (level_meaning code (map level ns))

-- a code of the head set at open heads of this pan and tilt
abbrev pub points : ℕ → List (ℕ × ℕ) → Result (List ℕ) SetFault
points code ps = onto aims (head_meaning code (map (λ p. head p.0 p.1 Open) ps))

-- what is computed, and what it should be
abbrev pub codes : List (Result (List ℕ) SetFault × Result (List ℕ) SetFault)
codes =
    (lights 3 (128 ∷ 128 ∷ []), Ok (64 ∷ []))
    ∷ (lights 4 (11 ∷ []), Ok (0 ∷ []))
    ∷ (lights 4 (12 ∷ []), Ok (1 ∷ []))
    ∷ (lights 5 (0 ∷ 255 ∷ 128 ∷ []), Ok (128 ∷ []))
    ∷ (points 4 ((40000, 1000) ∷ []), Ok (7232 ∷ 64535 ∷ []))
    ∷ []

-- both sides of each are equal
abbrev pub Each : {E : Type 0} → List (E × E) → Type 0
Each [] = Unit {0}
Each (p ∷ ps) = (p.0 ≡ p.1) × Each ps
