-- A set widened by the ports that its members may receive from.
-- Assumes nothing.
use Rattle.std.proofs.Common.{◌≡◌, ℕ, zero, suc, ◌^◌, ◌<◌, ◌≤◌, Bool, true, false, cond, ◌||◌, eqb, ◌⊎◌, List, [], ◌∷◌, length, get_or, fold, sym, refl, ap, ◌∙◌, inl, inr, le_of_suc-le-suc, not-suc-le-zero, arith}
use lib.Bits.{bit_and, bit_or}
use Rattle.std.proofs.lemmas.Bool.{eqb-true, eqb-false, eq-eqb, and_from, and_parts, or_left, or_right, or_cases, cases_Bool, both_ways}
use Rattle.part.specs.Sets.{bit}
use Rattle.part.proofs.Bits.{bit-bit_or, bit-bit_and, bit_none, bit_below, bit_single, or_above, some_bit}
use Rattle.port.specs.Upstream.{Closed, Smallest, upstream}
use Rattle.port.specs.Sets.{no_sets}
use Rattle.port.specs.Reach.{Reach, widen}
use Rattle.port.specs.declared.ports.Port.{Port}
use Rattle.port.proofs.Upstream as up

abbrev sends : List Port → ℕ → ℕ
sends ps x = (get_or ps x no_sets).senders

abbrev receives : List Port → ℕ → ℕ
receives ps x = (get_or ps x no_sets).receivers

-- one port more
abbrev pub one : ℕ → Port → ℕ → ℕ
one m x w = cond (eqb (bit_and x.receivers m) 0) w (bit_or w (bit_or x.senders x.receivers))

-- widening takes the ports one after another
pub widen_folds : (m : ℕ) (ps : List Port) (w : ℕ) → fold (λ (v : ℕ) (x : Port). one m x v) w ps ≡ widen m ps w
widen_folds m [] w = refl
widen_folds m (x ∷ ps) w = widen_folds m ps (one m x w)

cond_above : (b : Bool) (w s : ℕ) → w ≤ cond b w (bit_or w s)
cond_above true w s = omega arith
cond_above false w s = or_above w s

pub widen_above : (m : ℕ) (ps : List Port) (w : ℕ) → w ≤ widen m ps w
widen_above m [] w = omega arith
widen_above m (x ∷ ps) w =
    omega (arith, cond_above (eqb (bit_and x.receivers m) 0) w (bit_or x.senders x.receivers), widen_above m ps (one m x w))

cond_keeps : (b : Bool) (w s q : ℕ) → bit q w ≡ true → bit q (cond b w (bit_or w s)) ≡ true
cond_keeps true w s q h = h
cond_keeps false w s q h = bit-bit_or q w s ∙ or_left (bit q w) (bit q s) h

widen_keeps : (m : ℕ) (ps : List Port) (w q : ℕ) → bit q w ≡ true → bit q (widen m ps w) ≡ true
widen_keeps m [] w q h = h
widen_keeps m (x ∷ ps) w q h =
    widen_keeps m ps (one m x w) q (cond_keeps (eqb (bit_and x.receivers m) 0) w (bit_or x.senders x.receivers) q h)

-- a member that may receive from the port lets its senders and receivers in
lets_in : (m q r : ℕ) (x : Port) (w : ℕ) → bit q m ≡ true → bit q x.receivers ≡ true → (bit r x.senders || bit r x.receivers) ≡ true → bit r (one m x w) ≡ true
lets_in m q r x w a b c = go (cases_Bool (eqb (bit_and x.receivers m) 0))
  where
    in_both : bit q (bit_and x.receivers m) ≡ true
    in_both = bit-bit_and q x.receivers m ∙ and_from (bit q x.receivers) (bit q m) b a

    go : (eqb (bit_and x.receivers m) 0 ≡ true) ⊎ (eqb (bit_and x.receivers m) 0 ≡ false) → bit r (one m x w) ≡ true
    go (inl t) =
        absurd (both_ways (bit q (bit_and x.receivers m)) (ap (bit q) (eqb-true (bit_and x.receivers m) 0 t) ∙ bit_none q) in_both)
    go (inr f) =
        ap (λ (y : Bool). bit r (cond y w (bit_or w (bit_or x.senders x.receivers)))) f
        ∙ (bit-bit_or r w (bit_or x.senders x.receivers) ∙ or_right (bit r w) _ (bit-bit_or r x.senders x.receivers ∙ c))

pub widen_adds : (m : ℕ) (ps : List Port) (w x q r : ℕ) → x < length ps → bit q m ≡ true → bit q (receives ps x) ≡ true →
    (bit r (sends ps x) || bit r (receives ps x)) ≡ true → bit r (widen m ps w) ≡ true
widen_adds m [] w x q r h a b c = absurd (not-suc-le-zero h)
widen_adds m (y ∷ ps) w zero q r h a b c = widen_keeps m ps (one m y w) r (lets_in m q r y w a b c)
widen_adds m (y ∷ ps) w (suc x) q r h a b c = widen_adds m ps (one m y w) x q r (le_of_suc-le-suc h) a b c

-- why part r is in a widened set: a member q may receive from a port that r may send to or receive from
abbrev Why : ℕ → List Port → ℕ → Type 0
Why m ps r = (x : ℕ) × (q : ℕ) × (x < length ps) × (bit q m ≡ true) × (bit q (receives ps x) ≡ true) × ((bit r (sends ps x) || bit r (receives ps x)) ≡ true)

one_why : (m r : ℕ) (x : Port) (ps : List Port) (w : ℕ) → bit r (one m x w) ≡ true → (bit r w ≡ true) ⊎ Why m (x ∷ ps) r
one_why m r x ps w h = go (cases_Bool (eqb (bit_and x.receivers m) 0))
  where
    go : (eqb (bit_and x.receivers m) 0 ≡ true) ⊎ (eqb (bit_and x.receivers m) 0 ≡ false) → (bit r w ≡ true) ⊎ Why m (x ∷ ps) r
    go (inl t) = inl (sym (ap (λ (y : Bool). bit r (cond y w (bit_or w (bit_or x.senders x.receivers)))) t) ∙ h)
    go (inr f) =
        let g = sym (ap (λ (y : Bool). bit r (cond y w (bit_or w (bit_or x.senders x.receivers)))) f ∙ bit-bit_or r w (bit_or x.senders x.receivers)) ∙ h in
        elim (or_cases (bit r w) (bit r (bit_or x.senders x.receivers)) g) [
          | inl e ↦ inl e
          | inr e ↦
              let d : eqb (bit_and x.receivers m) 0 ≡ false = f in
              let s = some_bit (bit_and x.receivers m) (above (bit_and x.receivers m) (eqb-false (bit_and x.receivers m) 0 d)) in
              let b = and_parts (bit s.0 x.receivers) (bit s.0 m) (sym (bit-bit_and s.0 x.receivers m) ∙ s.1) in
              inr (0, s.0, omega arith, b.1, b.0, sym (bit-bit_or r x.senders x.receivers) ∙ e)
        ]
      where
        above : (n : ℕ) → (n ≡ 0 → ⊥) → 0 < n
        above zero d = absurd (d refl)
        above (suc n) d = omega arith

pub widen_why : (m : ℕ) (ps : List Port) (w r : ℕ) → bit r (widen m ps w) ≡ true → (bit r w ≡ true) ⊎ Why m ps r
widen_why m [] w r h = inl h
widen_why m (y ∷ ps) w r h = elim (widen_why m ps (one m y w) r h) [
  | inl e ↦ one_why m r y ps w e
  | inr v ↦ inr (suc v.0, v.1, omega (arith, v.2), v.3, v.4, v.5)
]

-- a set that holds p, within every closed set that does
pub record Growing (n : ℕ) (ps : List Port) (p m : ℕ) : Type 0 where
  pub self : bit p m ≡ true
  pub inside : (v : ℕ → Bool) → Closed n (sends ps) (receives ps) p v → (q : ℕ) → bit q m ≡ true → v q ≡ true

pub growing_start : (n : ℕ) (ps : List Port) (p m : ℕ) → m ≡ 2 ^ p → Growing n ps p m
growing_start n ps p m e = record {
  self = ap (bit p) e ∙ (bit_single p p ∙ eq-eqb p p refl);
  inside = λ v cl q b.
      let d : q ≡ p = eqb-true q p (sym (bit_single p q) ∙ (sym (ap (bit q) e) ∙ b)) in ap v d ∙ cl.self;
}

module _ (n : ℕ) (ps : List Port) (p m : ℕ) (all : length ps ≡ 16) (low : m < 2 ^ n) (g : Growing n ps p m) where
  pub growing_more : (w : ℕ) → w ≡ widen m ps m → w < 2 ^ n → Growing n ps p w
  growing_more w e lw = record {
    self = ap (bit p) e ∙ widen_keeps m ps m p g.self;
    inside = λ v cl r b. elim (widen_why m ps m r (sym (ap (bit r) e) ∙ b)) [
      | inl h ↦ g.inside v cl r h
      | inr y ↦
          cl.up y.0 y.1 r (omega (arith, y.2)) (bit_below n y.1 m low y.3) (bit_below n r w lw b)
          (g.inside v cl y.1 y.3) y.4 y.5
    ];
  }

  pub growing_end : widen m ps m ≡ m → Smallest n (sends ps) (receives ps) p (λ q. bit q m)
  growing_end e = record {
    closed = record {
      self = g.self;
      up = λ x q r hx hq hr a b c. sym (ap (bit r) e) ∙ widen_adds m ps m x q r (omega arith) a b c;
    };
    least = g.inside;
  }

-- there is one smallest set
pub smallest_same : (n : ℕ) (s r : ℕ → ℕ) (p : ℕ) (u v : ℕ → Bool) → Smallest n s r p u → Smallest n s r p v → (q : ℕ) → u q ≡ v q
smallest_same n s r p u v a b q = both_so (u q) (v q) (a.least v b.closed q) (b.least u a.closed q)
  where
    both_so : (x y : Bool) → (x ≡ true → y ≡ true) → (y ≡ true → x ≡ true) → x ≡ y
    both_so true y f g = sym (f refl)
    both_so false true f g = absurd (both_ways false refl (g refl))
    both_so false false f g = refl

pub reach : (n : ℕ) (s r : ℕ → ℕ) (p m : ℕ) → p < n → Smallest n s r p (λ q. bit q m) → Reach n s r p m
reach n s r p m h k = record {
  smallest = λ _. k;
  same = λ _. smallest_same n s r p (λ q. bit q m) (upstream n s r p) k (up.smallest n s r p h);
  none = λ l. absurd (omega arith);
}
