-- A change of one cell keeps what a sheet keeps.
-- Assumes nothing.
use Rattle.std.proofs.Common.{◌≡◌, ℕ, zero, suc, ◌+◌, ◌<◌, ◌≤◌, Bool, true, false, ◌&&◌, ◌||◌, ltb, ◌≢◌, List, [], ◌∷◌, length, get_or, take, set, map, sym, refl, ap, ◌∙◌, subst, inl, inr, arith}
use Rattle.std.proofs.lemmas.List.{get_or-set_same, get_or-set_other, length-take-le, map-set}
use Rattle.std.proofs.lemmas.Bool.{cases_eq, or_cases, or_left, or_right, both_ways}
use Rattle.part.specs.Sets.{bit}
use Rattle.part.specs.Rows.{exclusive}
use Rattle.part.proofs.Ones.{apart}
use Rattle.cells.specs.Cells.{member}
use Rattle.sheet.specs.Rows.{Rows, touchable}
use Rattle.sheet.specs.Laws.{Kept}
use Rattle.sheet.specs.declared.rights.Rights.{Rights}
use Rattle.sheet.specs.Sound.{reads, writes, FrontZero, FrontWithin, FrontDistinct}
use Rattle.sheet.proofs.Members.{member_place, within_front, distinct_front}

pub zero_set : (R S : List ℕ) (n c r : ℕ) → ((i : ℕ) → i < n → get_or S i 0 ≡ c → ⊥) → FrontZero R S n → FrontZero (set R c r) S n
zero_set R S n c r away z i h = get_or-set_other R c (get_or S i 0) r 0 (away i h) ∙ z i h

-- the same of one row of each cell's rights
pub row_zero_set : (row : Rights → ℕ) (xs : List Rights) (S : List ℕ) (n c : ℕ) (r : Rights) → ((i : ℕ) → i < n → get_or S i 0 ≡ c → ⊥) →
    FrontZero (map row xs) S n → FrontZero (map row (set xs c r)) S n
row_zero_set row xs S n c r away z = rw (map-set row xs c r) (zero_set (map row xs) S n c (row r) away z)

-- each cell's rows are exclusive, also beyond the last
none : exclusive 0 0 ≡ true
unfolding lib.Count.ones
none = refl

pub each_exclusive : (xs : List Rights) (c : ℕ) → exclusive (get_or (reads xs) c 0) (get_or (writes xs) c 0) ≡ true
each_exclusive [] c = none
each_exclusive (x ∷ xs) zero = x.exclusive
each_exclusive (x ∷ xs) (suc c) = each_exclusive xs c

module _ (S : List ℕ) (n c : ℕ) (fits : n < length S) where
  -- what holds of each swapped cell holds of one more
  pub more_swaps : (P : ℕ → Type 0) → ((i : ℕ) → i < n → P (get_or S i 0)) → P c → (i : ℕ) → i < n + 1 → P (get_or (set S n c) i 0)
  more_swaps P old new i h =
      elim (cases_eq i n) [
        | inl e ↦ subst (λ (x : ℕ). P (get_or (set S n c) x 0)) (sym e) (subst P (sym (get_or-set_same S n c 0 fits)) new)
        | inr d ↦ subst P (sym (get_or-set_other S n i c 0 d)) (old i (omega arith))
      ]

  pub more_distinct : FrontDistinct S n → ((i : ℕ) → i < n → get_or S i 0 ≡ c → ⊥) → FrontDistinct (set S n c) (n + 1)
  more_distinct old away i j ij h e =
      let di : i ≢ n = omega arith in
      elim (cases_eq j n) [
        | inl q ↦ away i (omega arith) (sym (get_or-set_other S n i c 0 di) ∙ e ∙ ap (λ (x : ℕ). get_or (set S n c) x 0) q ∙ get_or-set_same S n c 0 fits)
        | inr d ↦ old i j ij (omega arith) (sym (get_or-set_other S n i c 0 di) ∙ e ∙ get_or-set_other S n j c 0 d)
      ]

-- a right on a cell that is not swapped is a bit
by_bit : (l m b : Bool) → m ≡ false → (l && (m || b)) ≡ true → b ≡ true
by_bit true false b e h = h
by_bit false m b e h = absurd (both_ways false refl h)
by_bit true true b e h = absurd (both_ways true e refl)

-- what holds of every sheet, from the facts in its type
module _ (xs : List Rights) (size : ℕ) (S : List ℕ) (n : ℕ) (fits : n ≤ length S) where
  abbrev rows : Rows
  rows = record { read = reads xs; write = writes xs; size = size; swaps = take n S }

  zero_at : (P : List ℕ) → FrontZero P S n → (c : ℕ) → member (take n S) c ≡ true → get_or P c 0 ≡ 0
  zero_at P z c t = let r = member_place S n c t in ap (λ (k : ℕ). get_or P k 0) (sym r.2) ∙ z r.0 r.1

  has_bit : (c : ℕ) (b : Bool) → member (take n S) c ≡ false → (ltb c size && (member (take n S) c || b)) ≡ true → b ≡ true
  has_bit c b = by_bit (ltb c size) (member (take n S) c) b

  pub kept : n ≤ 16 → FrontWithin size S n → FrontZero (reads xs) S n → FrontZero (writes xs) S n → FrontDistinct S n → Kept rows
  kept few below zr zw ds = record {
    apart = λ c p q f w t.
        let R = get_or (reads xs) c 0 in
        let W = get_or (writes xs) c 0 in
        apart R W (each_exclusive xs c) p q (has_bit c (bit p W) f w)
        (elim (or_cases (touchable rows false q c) (touchable rows true q c) t) [
          | inl h ↦ or_left (bit q R) (bit q W) (has_bit c (bit q R) f h)
          | inr h ↦ or_right (bit q R) (bit q W) (has_bit c (bit q W) f h)
        ]);
    bare = λ c t. (zero_at (reads xs) zr c t, zero_at (writes xs) zw c t);
    few = rw (length-take-le n S fits) few;
    within = within_front S n size below fits;
    distinct = distinct_front S n fits ds;
  }
