-- Rows with at most one 1, whatever their width.
-- Assumes nothing.
use Rattle.std.proofs.Common.{◌≡◌, ℕ, zero, suc, ◌/◌, ◌%◌, ◌<◌, ◌≤◌, true, false, ◌||◌, eqb, ◌⊎◌, sym, refl, ap, ◌∙◌, inl, inr, arith, lit<}
use lib.Bits.{bit_or, or_add_and, and_le_l, and_le_r}
use lib.Count.{ones, ones_step}
use Rattle.std.proofs.lemmas.Nat.{mod_below}
use Rattle.std.proofs.lemmas.Bool.{eqb-true, eq-eqb, leb-true, leb-false, or_left, or_right, or_cases, cases_Bool, cases_eq}
use Rattle.part.specs.Sets.{bit}
use Rattle.part.specs.Rows.{exclusive, holds, OnePart, Apart, Another, OneMore}
use Rattle.part.proofs.Bits.{lowest, higher, bit-bit_or, some_bit}

odd : (m : ℕ) → bit 0 m ≡ true → m % 2 ≡ 1
odd m e = eqb-true (m % 2) 1 (sym (lowest m) ∙ e)

some_ones : (p m : ℕ) → bit p m ≡ true → 1 ≤ ones m
some_ones zero m e = omega (arith, ones_step m, odd m e)
some_ones (suc p) m e = omega (arith, ones_step m, some_ones p (m / 2) (sym (higher p m) ∙ e))

pub one_part : OnePart
one_part m zero zero h d e = refl
one_part m zero (suc q) h d e = absurd (omega (arith, ones_step m, odd m d, some_ones q (m / 2) (sym (higher q m) ∙ e)))
one_part m (suc p) zero h d e = absurd (omega (arith, ones_step m, odd m e, some_ones p (m / 2) (sym (higher p m) ∙ d)))
one_part m (suc p) (suc q) h d e =
    ap suc (one_part (m / 2) p q (omega (arith, ones_step m)) (sym (higher p m) ∙ d) (sym (higher q m) ∙ e))

zero_ones : ones 0 ≡ 0
unfolding ones
zero_ones = refl

some_row : (m : ℕ) → 1 ≤ ones m → 0 < m
some_row zero h = absurd (omega (arith, zero_ones))
some_row (suc m) h = omega arith

-- a row with two ones has another part than p
another : (p m : ℕ) → 1 < ones m → (q : ℕ) × (bit q m ≡ true) × (q ≡ p → ⊥)
another zero m h =
    let r = some_bit (m / 2) (some_row (m / 2) (omega (arith, ones_step m, mod_below m 2 (lit< tt)))) in
    (suc r.0, higher r.0 m ∙ r.1, λ e. omega arith)
another (suc p) m h = go (another p (m / 2)) (cases_eq (m % 2) 1)
  where
    go : (1 < ones (m / 2) → (q : ℕ) × (bit q (m / 2) ≡ true) × (q ≡ p → ⊥)) → (m % 2 ≡ 1) ⊎ (m % 2 ≡ 1 → ⊥) → (q : ℕ) × (bit q m ≡ true) × (q ≡ suc p → ⊥)
    go next (inl e) = (0, lowest m ∙ eq-eqb (m % 2) 1 e, λ d. omega arith)
    go next (inr d) =
        let r = next (omega (arith, ones_step m, mod_below m 2 (lit< tt))) in
        (suc r.0, higher r.0 m ∙ r.1, λ e. r.2 (omega arith))

-- a row with no 1 is zero
pub no_ones : (m : ℕ) → ones m ≡ 0 → m ≡ 0
no_ones zero e = refl
no_ones (suc m) e = let r = some_bit (suc m) (omega arith) in absurd (omega (arith, some_ones r.0 (suc m) r.1))

-- rows that are zero when taken together
pub or_none : (a b : ℕ) → bit_or a b ≡ 0 → (a ≡ 0) × (b ≡ 0)
or_none a b e = (omega (arith, or_add_and a b, and_le_l a b, and_le_r a b), omega (arith, or_add_and a b, and_le_l a b, and_le_r a b))

-- two parts with a bit in an exclusive cell are the same part
pub same_part : (read write p q : ℕ) → exclusive read write ≡ true → holds read write p ≡ true → holds read write q ≡ true → p ≡ q
same_part read write p q x d e =
    one_part (bit_or read write) p q (leb-true (ones (bit_or read write)) 1 x) (bit-bit_or p read write ∙ d) (bit-bit_or q read write ∙ e)

pub apart : (read write : ℕ) → exclusive read write ≡ true → Apart read write
apart read write x p q d e = same_part read write q p x e (or_right (bit p read) (bit p write) d)

pub one_more : (read write p read' write' : ℕ) → ((q : ℕ) → holds read' write' q ≡ (holds read write q || eqb q p)) → OneMore read write p read' write'
one_more read write p read' write' e = record {
  taken = λ f.
      let r = another p (bit_or read' write') (leb-false (ones (bit_or read' write')) 1 f) in
      (r.0, old r.0 r.1 r.2, r.2);
  refused = λ a. go a (cases_Bool (exclusive read' write'));
}
  where
    bits : (q : ℕ) → bit q (bit_or read' write') ≡ (holds read write q || eqb q p)
    bits q = bit-bit_or q read' write' ∙ e q

    old : (q : ℕ) → bit q (bit_or read' write') ≡ true → (q ≡ p → ⊥) → holds read write q ≡ true
    old q b d = pick (or_cases (holds read write q) (eqb q p) (sym (bits q) ∙ b))
      where
        pick : (holds read write q ≡ true) ⊎ (eqb q p ≡ true) → holds read write q ≡ true
        pick (inl h) = h
        pick (inr h) = absurd (d (eqb-true q p h))

    go : Another read write p → (exclusive read' write' ≡ true) ⊎ (exclusive read' write' ≡ false) → exclusive read' write' ≡ false
    go a (inr f) = f
    go a (inl t) =
        absurd (a.2 (one_part (bit_or read' write') a.0 p (leb-true (ones (bit_or read' write')) 1 t)
        (bits a.0 ∙ or_left (holds read write a.0) (eqb a.0 p) a.1)
        (bits p ∙ or_right (holds read write p) (eqb p p) (eq-eqb p p refl))))
