-- The front of a list of cells: who is in it, one place at a time.
-- Assumes nothing.
use Rattle.std.proofs.Common.{◌≡◌, ℕ, zero, suc, ◌<◌, ◌≤◌, true, false, ◌||◌, eqb, List, [], ◌∷◌, length, get_or, take, sym, refl, ◌∙◌, ap₂, inl, inr, le_of_suc-le-suc, not-suc-le-zero, arith}
use Rattle.std.proofs.lemmas.List.{get_or-take, length-take-le}
use Rattle.std.proofs.lemmas.Bool.{eq-eqb, ne_eqb, cases_Bool, cases_eq, both_ways, or_left, or_right, false≢true}
use Rattle.std.specs.List.{list_any}
use Rattle.cells.specs.Cells.{member, Distinct, Within}
use Rattle.sheet.specs.Sound.{FrontWithin, FrontDistinct}

-- the library's test for an element is that for a member
same_test : (x c : ℕ) → eqb x c ≡ eqb c x
same_test x c = elim (cases_eq x c) [ inl e ↦ rw e | inr d ↦ ne_eqb x c d ∙ sym (ne_eqb c x (λ e. d (sym e))) ]

pub member_any : (c : ℕ) (xs : List ℕ) → list_any (λ y. eqb y c) xs ≡ member xs c
member_any c [] = refl
member_any c (x ∷ xs) = ap₂ ◌||◌ (same_test x c) (member_any c xs)

-- what stands in a list is a member
pub member_at : (c : ℕ) (xs : List ℕ) (i : ℕ) → i < length xs → get_or xs i 0 ≡ c → member xs c ≡ true
member_at c [] i h e = absurd (not-suc-le-zero h)
member_at c (x ∷ xs) zero h e = or_left (eqb c x) (member xs c) (eq-eqb c x (sym e))
member_at c (x ∷ xs) (suc i) h e = or_right (eqb c x) (member xs c) (member_at c xs i (le_of_suc-le-suc h) e)

-- what is no member of the front stands at no place of it
pub member_none : (c : ℕ) (xs : List ℕ) (n : ℕ) → n ≤ length xs → member (take n xs) c ≡ false → (i : ℕ) → i < n → get_or xs i 0 ≡ c → ⊥
member_none c xs n fits f i h e =
    let l : i < length (take n xs) = rw (length-take-le n xs fits) h in
    both_ways (member (take n xs) c) f (member_at c (take n xs) i l (get_or-take n xs i 0 h ∙ e))

-- a member of the front stands at a place of it
pub member_place : (xs : List ℕ) (n c : ℕ) → member (take n xs) c ≡ true → (i : ℕ) × (i < n) × (get_or xs i 0 ≡ c)
member_place xs zero c t = absurd (false≢true t)
member_place [] (suc n) c t = absurd (false≢true t)
member_place (x ∷ xs) (suc n) c t =
    elim (cases_eq c x) [
      | inl e ↦ (0, (omega arith), sym e)
      | inr d ↦ let r = member_place xs n c (rw (ne_eqb c x d) at t) in (suc r.0, omega arith, r.2)
    ]

pub distinct_front : (xs : List ℕ) (n : ℕ) → n ≤ length xs → FrontDistinct xs n → Distinct (take n xs)
distinct_front xs zero f d = tt
distinct_front [] (suc n) f d = tt
distinct_front (x ∷ xs) (suc n) f d = (
  elim (cases_Bool (member (take n xs) x)) [
    | inl t ↦ let r = member_place xs n x t in absurd (d 0 (suc r.0) (omega arith) (omega (arith, r.1)) (sym r.2))
    | inr g ↦ g
  ],
  distinct_front xs n (le_of_suc-le-suc f) (λ i j h k e. d (suc i) (suc j) (omega arith) (omega arith) e),
)

pub within_front : (xs : List ℕ) (n m : ℕ) → FrontWithin m xs n → n ≤ length xs → Within m (take n xs)
within_front xs zero m h f = tt
within_front [] (suc n) m h f = tt
within_front (x ∷ xs) (suc n) m h f = (h 0 (omega arith), within_front xs n m (λ i k. h (suc i) (omega arith)) (le_of_suc-le-suc f))
