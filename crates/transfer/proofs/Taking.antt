-- Loops that read cells into places.
use Rattle.std.proofs.Common.{◌≡◌, ℕ, ◌+◌, ◌-◌, ◌<◌, ◌≤◌, min, cond, List, [], ◌∷◌, ◌++◌, map, length, get_or, take, drop, set, replicate, sym, refl, ap, ◌∙◌, ap₂, inl, inr, arith, length-drop}
use Rattle.std.proofs.lemmas.List.{take-append-drop, take_more_set, take_all, take-map, map_more, map-append, drop-set-lt, drop-drop, drop_all, drop_more, drop-replicate, length-map}
use Rattle.std.proofs.lemmas.Bool.{cases_lt, cases_eq, eq-eqb, ne_eqb}
use Rattle.cells.specs.Cells.{member, beside}

-- what is left of a list after its first i, when one more is taken, and when none is left
pub drawn : {X : Type 0} (ns rest : List X) (i : ℕ) (n d : X) → drop i ns ≡ n ∷ rest → (i < length ns) × (n ≡ get_or ns i d) × (rest ≡ drop (i + 1) ns)
drawn ns rest i n d e =
    let h : i < length ns = omega (arith, ap length e, length-drop i ns) in
    let q : n ∷ rest ≡ get_or ns i d ∷ drop (i + 1) ns = sym e ∙ drop_more ns i d h in
    (h, cc, cc)

pub drawn_out : {X : Type 0} (ns : List X) (i : ℕ) → drop i ns ≡ [] → length ns ≤ i
drawn_out ns i e = omega (arith, ap length e, length-drop i ns)

module _ {X : Type 0} where
  -- one more place is filled, and the later places stay
  pub taken_more : (f : ℕ → X) (ns : List ℕ) (out : List X) (i : ℕ) (x : X) → i < length ns → i < length out →
      take i out ≡ map f (take i ns) → x ≡ f (get_or ns i 0) → take (i + 1) (set out i x) ≡ map f (take (i + 1) ns)
  taken_more f ns out i x h k e q =
      take_more_set out i x k ∙ (ap₂ (λ (a : List X) (b : X). a ++ (b ∷ [])) e q ∙ sym (map_more f ns i 0 h))

  pub left_more : (before out : List X) (i : ℕ) (x : X) → drop i out ≡ drop i before → drop (i + 1) (set out i x) ≡ drop (i + 1) before
  left_more before out i x e =
      drop-set-lt (i + 1) out i x (omega arith) ∙ (sym (drop-drop 1 i out) ∙ (ap (λ (t : List X). drop 1 t) e ∙ drop-drop 1 i before))

  pub taken_end : (f : ℕ → X) (ns : List ℕ) (before out : List X) (i : ℕ) → i ≡ min (length ns) (length before) →
      take i out ≡ map f (take i ns) → drop i out ≡ drop i before → out ≡ take (length before) (map f ns) ++ drop (length ns) before
  taken_end f ns before out i e p q =
      sym (take-append-drop i out) ∙ (ap₂ (λ (a b : List X). a ++ b) p q ∙
      elim (cases_lt (length before) (length ns)) [
        | inl k ↦ (let s : i ≡ length before = omega arith in
            ap₂ (λ (a b : List X). a ++ b) (sym (take-map f i ns) ∙ ap (λ (j : ℕ). take j (map f ns)) s)
            (drop_all i before (omega arith) ∙ sym (drop_all (length ns) before (omega arith))))
        | inr k ↦ (let s : i ≡ length ns = omega arith in
            ap₂ (λ (a b : List X). a ++ b) (ap (map f) (take_all i ns (omega arith)) ∙ sym (take_all (length before) (map f ns) (omega (arith, length-map ns f))))
            (ap (λ (j : ℕ). drop j before) s))
      ])

  -- a row of places that began all the same
  pub row_end : (f : ℕ → X) (ns : List ℕ) (w : X) (many : ℕ) (out : List X) (i : ℕ) → i ≡ length ns →
      take i out ≡ map f (take i ns) → drop i out ≡ drop i (replicate many w) → out ≡ map f ns ++ replicate (many - length ns) w
  row_end f ns w many out i e p q =
      sym (take-append-drop i out)
      ∙ ap₂ (λ (a b : List X). a ++ b) (p ∙ ap (map f) (take_all i ns (omega arith))) (q ∙ (drop-replicate i many w ∙ ap (λ (j : ℕ). replicate (many - j) w) e))

pub map_both : {X Y : Type 0} (p : X → Y) (f : ℕ → X) (ns : List ℕ) → map (λ n. p (f n)) ns ≡ map p (map f ns)
map_both p f [] = refl
map_both p f (n ∷ ns) = ap (λ (t : List _). p (f n) ∷ t) (map_both p f ns)

unpack_all : {W E : Type 0} (p : E → W) (u : W → E) → ((x : E) → u (p x) ≡ x) → (vs : List E) → map u (map p vs) ≡ vs
unpack_all p u r [] = refl
unpack_all p u r (v ∷ vs) = ap₂ (λ (a : _) (b : List _). a ∷ b) (r v) (unpack_all p u r vs)

beside_front : {E : Type 0} (z : E) (f : ℕ → E) (ns : List ℕ) (rest : List E) (n : ℕ) → beside z ns (map f ns ++ rest) n ≡ cond (member ns n) (f n) z
beside_front z f [] rest n = refl
beside_front z f (m ∷ ns) rest n =
    elim (cases_eq n m) [
      | inl q ↦ rw (eq-eqb n m q) (ap f (sym q))
      | inr q ↦ rw (ne_eqb n m q) (beside_front z f ns rest n)
    ]

-- what stands in a row beside a cell
pub beside_row : {W E : Type 0} (p : E → W) (u : W → E) → ((x : E) → u (p x) ≡ x) → (z : E) (f : ℕ → E) (ns : List ℕ) (rest ws : List W) (n : ℕ) →
    ws ≡ map p (map f ns) ++ rest → beside z ns (map u ws) n ≡ cond (member ns n) (f n) z
beside_row p u r z f ns rest ws n e =
    ap (λ (t : List _). beside z ns t n) (ap (map u) e ∙ (map-append u (map p (map f ns)) rest ∙ ap (λ (t : List _). t ++ map u rest) (unpack_all p u r (map f ns))))
    ∙ beside_front z f ns (map u rest) n
