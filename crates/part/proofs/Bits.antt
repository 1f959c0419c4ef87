-- Sets of parts of any width: union, intersection, a single part, and no part.
-- Assumes nothing.
use Rattle.std.proofs.Common.{◌≡◌, ℕ, zero, suc, ◌*◌, ◌/◌, ◌%◌, ◌^◌, ◌<◌, ◌≤◌, min, max, true, false, ◌&&◌, ◌||◌, eqb, ◌⊎◌, sym, refl, ap, ◌∙◌, ap₂, inl, inr, pow-suc, div-one, arith, lit<}
use native.Mathlib.Nat.{div-div-eq-div-mul}
use lib.Bits.{bit_or, bit_and, or_step, and_step, or_add_and, and_le_r}
use Rattle.std.proofs.lemmas.Nat.{mod_below}
use Rattle.std.proofs.lemmas.Bool.{eq-eqb, ne_eqb, cases_eq, both_ways}
use Rattle.part.specs.Sets.{bit}

pub lowest : (m : ℕ) → bit 0 m ≡ eqb (m % 2) 1
lowest m = ap (λ (x : ℕ). eqb (x % 2) 1) (div-one m)

pub higher : (p m : ℕ) → bit (suc p) m ≡ bit p (m / 2)
higher p m =
    let t : 2 ^ suc p ≡ 2 * 2 ^ p = omega arith in
    ap (λ (x : ℕ). eqb (x % 2) 1) (ap (λ (y : ℕ). m / y) t ∙ sym (div-div-eq-div-mul m 2 (2 ^ p)))

digit : (m : ℕ) → m % 2 < 2
digit m = mod_below m 2 (lit< tt)

-- union
either : (x y : ℕ) → x < 2 → y < 2 → eqb (max x y) 1 ≡ (eqb x 1 || eqb y 1)
either zero zero h k = refl
either zero (suc zero) h k = refl
either (suc zero) zero h k = refl
either (suc zero) (suc zero) h k = refl
either (suc (suc x)) y h k = absurd (omega arith)
either zero (suc (suc y)) h k = absurd (omega arith)
either (suc zero) (suc (suc y)) h k = absurd (omega arith)

pub or_half : (a b : ℕ) → bit_or a b / 2 ≡ bit_or (a / 2) (b / 2)
or_half a b = omega (arith, or_step a b)

or_odd : (a b : ℕ) → bit_or a b % 2 ≡ max (a % 2) (b % 2)
or_odd a b = omega (arith, or_step a b)

pub bit-bit_or : (p a b : ℕ) → bit p (bit_or a b) ≡ (bit p a || bit p b)
bit-bit_or zero a b =
    lowest (bit_or a b) ∙ (ap (λ (x : ℕ). eqb x 1) (or_odd a b) ∙ (either (a % 2) (b % 2) (digit a) (digit b) ∙ sym (ap₂ ◌||◌ (lowest a) (lowest b))))
bit-bit_or (suc p) a b =
    higher p (bit_or a b) ∙ (ap (bit p) (or_half a b) ∙ (bit-bit_or p (a / 2) (b / 2) ∙ sym (ap₂ ◌||◌ (higher p a) (higher p b))))

pub or_above : (a b : ℕ) → a ≤ bit_or a b
or_above a b = omega (arith, or_add_and a b, and_le_r a b)

-- intersection
both : (x y : ℕ) → x < 2 → y < 2 → eqb (min x y) 1 ≡ (eqb x 1 && eqb y 1)
both zero zero h k = refl
both zero (suc zero) h k = refl
both (suc zero) zero h k = refl
both (suc zero) (suc zero) h k = refl
both (suc (suc x)) y h k = absurd (omega arith)
both zero (suc (suc y)) h k = absurd (omega arith)
both (suc zero) (suc (suc y)) h k = absurd (omega arith)

and_half : (a b : ℕ) → bit_and a b / 2 ≡ bit_and (a / 2) (b / 2)
and_half a b = omega (arith, and_step a b)

and_odd : (a b : ℕ) → bit_and a b % 2 ≡ min (a % 2) (b % 2)
and_odd a b = omega (arith, and_step a b)

pub bit-bit_and : (p a b : ℕ) → bit p (bit_and a b) ≡ (bit p a && bit p b)
bit-bit_and zero a b =
    lowest (bit_and a b) ∙ (ap (λ (x : ℕ). eqb x 1) (and_odd a b) ∙ (both (a % 2) (b % 2) (digit a) (digit b) ∙ sym (ap₂ ◌&&◌ (lowest a) (lowest b))))
bit-bit_and (suc p) a b =
    higher p (bit_and a b) ∙ (ap (bit p) (and_half a b) ∙ (bit-bit_and p (a / 2) (b / 2) ∙ sym (ap₂ ◌&&◌ (higher p a) (higher p b))))

-- no part
pub bit_none : (p : ℕ) → bit p 0 ≡ false
bit_none zero = lowest 0
bit_none (suc p) = higher p 0 ∙ bit_none p

-- a set of numbers below n has none from n on
pub bit_past : (n p m : ℕ) → m < 2 ^ n → n ≤ p → bit p m ≡ false
bit_past zero p m h k = let z : m ≡ 0 = omega arith in ap (bit p) z ∙ bit_none p
bit_past (suc n) zero m h k = absurd (omega arith)
bit_past (suc n) (suc p) m h k = higher p m ∙ bit_past n p (m / 2) (omega (arith, pow-suc 2 n)) (omega arith)

pub bit_below : (n p m : ℕ) → m < 2 ^ n → bit p m ≡ true → p < n
bit_below n p m h e = go (Rattle.std.proofs.lemmas.Bool.cases_lt p n)
  where
    go : (p < n) ⊎ (n ≤ p) → p < n
    go (inl l) = l
    go (inr l) = absurd (both_ways (bit p m) (bit_past n p m h l) e)

-- a single part
pub bit_single : (p q : ℕ) → bit q (2 ^ p) ≡ eqb q p
bit_single zero zero = refl
bit_single zero (suc q) = higher q 1 ∙ (bit_none q ∙ sym (ne_eqb (suc q) 0 (λ e. omega arith)))
bit_single (suc p) zero =
    let e : 2 ^ suc p % 2 ≡ 0 = omega arith in
    lowest (2 ^ suc p) ∙ (ap (λ (x : ℕ). eqb x 1) e ∙ sym (ne_eqb 0 (suc p) (λ d. omega arith)))
bit_single (suc p) (suc q) =
    let e : 2 ^ suc p / 2 ≡ 2 ^ p = omega arith in
    higher q (2 ^ suc p) ∙ (ap (bit q) e ∙ (bit_single p q ∙ same (cases_eq q p)))
  where
    same : (q ≡ p) ⊎ (q ≡ p → ⊥) → eqb q p ≡ eqb (suc q) (suc p)
    same (inl d) = eq-eqb q p d ∙ sym (eq-eqb (suc q) (suc p) (ap suc d))
    same (inr d) = ne_eqb q p d ∙ sym (ne_eqb (suc q) (suc p) (λ e. d (omega arith)))

-- a set that is not empty has a part
some_below : (k m : ℕ) → m < 2 ^ k → 0 < m → (q : ℕ) × (bit q m ≡ true)
some_below zero m h o = absurd (omega arith)
some_below (suc k) m h o = go (some_below k (m / 2) (omega (arith, pow-suc 2 k))) (cases_eq (m % 2) 1)
  where
    go : (0 < m / 2 → (q : ℕ) × (bit q (m / 2) ≡ true)) → (m % 2 ≡ 1) ⊎ (m % 2 ≡ 1 → ⊥) → (q : ℕ) × (bit q m ≡ true)
    go next (inl e) = (0, lowest m ∙ eq-eqb (m % 2) 1 e)
    go next (inr d) = let r = next (omega (arith, digit m)) in (suc r.0, higher r.0 m ∙ r.1)

below_pow : (n : ℕ) → n < 2 ^ n
below_pow zero = lit< tt
below_pow (suc n) = omega (arith, below_pow n, pow-suc 2 n)

pub some_bit : (m : ℕ) → 0 < m → (q : ℕ) × (bit q m ≡ true)
some_bit m = some_below m m (below_pow m)
