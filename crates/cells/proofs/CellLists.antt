-- Cell numbers of two bytes each. Assumes nothing.
use Rattle.std.proofs.Common.{◌≡◌, ℕ, zero, suc, ◌+◌, ◌*◌, ◌/◌, ◌<◌, List, [], ◌∷◌, length, get_or, refl, arith}
use Rattle.cells.specs.Cells.{cell_list}

pub length-cells : (bs : List ℕ) → length (cell_list bs) ≡ length bs / 2
length-cells [] = omega arith
length-cells (a ∷ []) = omega arith
length-cells (a ∷ (b ∷ bs)) = omega (arith, length-cells bs)

pub cell_at : (bs : List ℕ) (i j : ℕ) → j ≡ 2 * i → suc j < length bs → get_or (cell_list bs) i 0 ≡ get_or bs j 0 + 256 * get_or bs (suc j) 0
cell_at [] i j e h = absurd (omega arith)
cell_at (a ∷ []) i j e h = absurd (omega arith)
cell_at (a ∷ (b ∷ bs)) zero zero e h = refl
cell_at (a ∷ (b ∷ bs)) zero (suc j) e h = absurd (omega arith)
cell_at (a ∷ (b ∷ bs)) (suc i) zero e h = absurd (omega arith)
cell_at (a ∷ (b ∷ bs)) (suc i) (suc zero) e h = absurd (omega arith)
cell_at (a ∷ (b ∷ bs)) (suc i) (suc (suc j)) e h = cell_at bs i j (omega arith) (omega arith)
