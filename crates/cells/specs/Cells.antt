-- Lists of cell numbers. Assumes nothing.
use Rattle.std.specs.Prelude.{◌≡◌, ℕ, ◌+◌, ◌*◌, ◌<◌, Bool, false, cond, ◌||◌, List, [], ◌∷◌, ◌==◌}

-- the cell numbers that a run of bytes holds, two bytes each and the low byte first; an odd last byte is none
abbrev pub cell_list : List ℕ → List ℕ
cell_list [] = []
cell_list (a ∷ []) = []
cell_list (a ∷ (b ∷ bs)) = (a + 256 * b) ∷ cell_list bs

-- whether cell n is in the list
abbrev pub member : List ℕ → ℕ → Bool
member [] n = false
member (m ∷ ns) n = n == m || member ns n

-- no cell is named twice
abbrev pub Distinct : List ℕ → Type 0
Distinct [] = Unit {0}
Distinct (m ∷ ns) = (member ns m ≡ false) × Distinct ns

-- every cell is below s
abbrev pub Within : ℕ → List ℕ → Type 0
Within s [] = Unit {0}
Within s (m ∷ ns) = (m < s) × Within s ns

-- what stands beside the first mention of cell n, of values that stand beside cells; z where the values run short
abbrev pub beside : {E : Type 0} → E → List ℕ → List E → ℕ → E
beside z [] vs n = z
beside z (m ∷ ns) [] n = z
beside z (m ∷ ns) (v ∷ vs) n = cond (n == m) v (beside z ns vs n)
