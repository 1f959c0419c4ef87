-- How many lines a setup text has. Assumes nothing.
use Rattle.std.proofs.Common.{ℕ, suc, ◌≤◌, true, false, cond, eqb, List, [], ◌∷◌, length, arith}
use Rattle.setup.specs.Pieces.{joined, lines_of}

joined_count : (c : ℕ) (ls : List (List ℕ)) → length (joined c ls) ≤ suc (length ls)
joined_count c [] = omega arith
joined_count c (l ∷ ls) = omega arith

-- no more than it has characters
pub line_count : (t : List ℕ) → length (lines_of t) ≤ length t
line_count [] = omega arith
line_count (c ∷ cs) =
    let h = line_count cs in
    let j = joined_count c (lines_of cs) in
    elim (eqb c 10) as (λ b. length (cond b ([] ∷ lines_of cs) (joined c (lines_of cs))) ≤ suc (length cs)) [ true ↦ omega arith | false ↦ omega arith ]
