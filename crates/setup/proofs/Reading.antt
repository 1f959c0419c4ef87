-- Numbers that are read with a cap. Assumes nothing.
use Rattle.std.proofs.Common.{◌≡◌, ℕ, ◌+◌, ◌*◌, ◌<◌, ◌≤◌, true, false, cond, eqb, ltb, List, [], ◌∷◌, length, get_or, drop, Some, None, sym, refl, ap, ◌∙◌, ⊎_elim, le-mul_of_pos_right, arith}
use Rattle.std.specs.Char.{digit_value}
use Rattle.std.specs.Option.{option_map}
use Rattle.std.proofs.lemmas.List.{at_drop_more}
use Rattle.std.proofs.lemmas.Bool.{cases_lt, lt-ltb}
use Rattle.std.proofs.lemmas.Bool.Decides.{nat_tests}
use Rattle.setup.specs.Numbers.{digit_of, written_after, capped}

-- a digit of a base up to 16, as the library reads it
pub digit_told : (b c : ℕ) → b ≤ 16 → digit_value c < b → (digit_of c < b) × (digit_value c ≡ digit_of c)
digit_told b c h e = (grind (arith, nat_tests), grind (arith, nat_tests))

-- equal below the cap, one more digit leaves them so
capped_more : (b n m d : ℕ) → 0 < b → capped n ≡ capped m → capped (n * b + d) ≡ capped (m * b + d)
capped_more b n m d h e =
    let p : n ≤ n * b = le-mul_of_pos_right n h in
    let q : m ≤ m * b = le-mul_of_pos_right m h in
    ⊎_elim
    (λ (l : n < 4294967296). let s : n ≡ m = omega arith in ap (λ x. capped (x * b + d)) s)
    (λ (g : 4294967296 ≤ n). omega arith)
    (cases_lt n 4294967296)

pub capped_same : (b n m : ℕ) (cs : List ℕ) → 0 < b → capped n ≡ capped m → option_map capped (written_after b n cs) ≡ option_map capped (written_after b m cs)
capped_same b n m [] h e = ap (λ (x : ℕ). Some x) e
capped_same b n m (c ∷ cs) h e =
    let r : option_map capped (written_after b (n * b + digit_of c) cs) ≡ option_map capped (written_after b (m * b + digit_of c) cs) = capped_same b (n * b + digit_of c) (m * b + digit_of c) cs h (capped_more b n m (digit_of c) h e) in
    elim (ltb (digit_of c) b) as (λ t. option_map capped (cond t (written_after b (n * b + digit_of c) cs) None) ≡ option_map capped (cond t (written_after b (m * b + digit_of c) cs) None)) [ true ↦ r | false ↦ refl ]

pub capped_twice : (n : ℕ) → capped (capped n) ≡ capped n
capped_twice n = omega arith

pub read_more : (b v u i : ℕ) (w : List ℕ) → 0 < b → i < length w → digit_of (get_or w i 0) < b → u ≡ capped (v * b + digit_of (get_or w i 0)) → option_map capped (written_after b v (drop i w)) ≡ option_map capped (written_after b 0 w) → option_map capped (written_after b u (drop (i + 1) w)) ≡ option_map capped (written_after b 0 w)
read_more b v u i w p h e s inv =
    let d = digit_of (get_or w i 0) in
    let m : option_map capped (written_after b v (drop i w)) ≡ option_map capped (cond (ltb (digit_of (get_or w i 0)) b) (written_after b (v * b + digit_of (get_or w i 0)) (drop (i + 1) w)) None) = at_drop_more (λ cs. option_map capped (written_after b v cs)) w i 0 h in
    let z : option_map capped (written_after b v (drop i w)) ≡ option_map capped (written_after b (v * b + d) (drop (i + 1) w)) = m ∙ ap (λ t. option_map capped (cond t (written_after b (v * b + d) (drop (i + 1) w)) None)) (lt-ltb d b e) in
    capped_same b u (v * b + d) (drop (i + 1) w) p (ap capped s ∙ capped_twice (v * b + d)) ∙ sym z ∙ inv

pub filled : (w : List ℕ) → false ≡ eqb (length w) 0 → 0 < length w
filled [] e = cc
filled (c ∷ cs) e = omega arith
