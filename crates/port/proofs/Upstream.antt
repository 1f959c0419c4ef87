-- The parts upstream of p are the smallest set that is closed.
-- Assumes nothing.
use Rattle.std.proofs.Common.{◌≡◌, ℕ, zero, suc, ◌<◌, Bool, true, false, cond, not, ◌&&◌, ◌||◌, eqb, ◌⊎◌, sym, refl, ap, ◌∙◌, inl, inr, not-suc-le-zero, arith}
use Rattle.std.proofs.lemmas.Bool.{false≢true, both_ways, and_parts, and_from, cases_eq, eq-eqb, ne_eqb}
use Rattle.part.specs.Sets.{bit}
use Rattle.port.specs.Upstream.{Closed, Smallest, all, all_sets, closes, upstream}

-- the set with one part more
abbrev with : (ℕ → Bool) → ℕ → ℕ → Bool
with v n q = cond (eqb q n) true (v q)

with_here : (v : ℕ → Bool) (n q : ℕ) → q ≡ n → with v n q ≡ true
with_here v n q e = rw (eq-eqb q n e)

with_there : (v : ℕ → Bool) (n q : ℕ) → (q ≡ n → ⊥) → with v n q ≡ v q
with_there v n q h = rw (ne_eqb q n h)

-- `not a || b` is an implication
when_so : (a b : Bool) → (not a || b) ≡ true → a ≡ true → b ≡ true
when_so true b h e = h
when_so false b h e = absurd (false≢true e)

so_when : (a b : Bool) → (a ≡ true → b ≡ true) → (not a || b) ≡ true
so_when true b h = h refl
so_when false b h = refl

all_at : (n : ℕ) (f : ℕ → Bool) → all n f ≡ true → (i : ℕ) → i < n → f i ≡ true
all_at zero f e i h = absurd (not-suc-le-zero h)
all_at (suc n) f e i h = go (all_at n f (and_parts (f n) (all n f) e).1 i) (cases_eq i n)
  where
    go : (i < n → f i ≡ true) → (i ≡ n) ⊎ (i ≡ n → ⊥) → f i ≡ true
    go ih (inl d) = ap f d ∙ (and_parts (f n) (all n f) e).0
    go ih (inr d) = ih (omega (arith, d))

all_from : (n : ℕ) (f : ℕ → Bool) → ((i : ℕ) → i < n → f i ≡ true) → all n f ≡ true
all_from zero f h = refl
all_from (suc n) f h = and_from (f n) (all n f) (h n (omega arith)) (all_from n f (λ i l. h i (omega arith)))

sets_from : (n : ℕ) (f : (ℕ → Bool) → Bool) → ((v : ℕ → Bool) → f v ≡ true) → all_sets n f ≡ true
sets_from zero f h = h _
sets_from (suc n) f h = sets_from n (λ v. f v && f (with v n)) (λ v. and_from (f v) (f (with v n)) (h v) (h (with v n)))

sets_mono : (n : ℕ) (f g : (ℕ → Bool) → Bool) → ((v : ℕ → Bool) → f v ≡ true → g v ≡ true) → all_sets n f ≡ true → all_sets n g ≡ true
sets_mono zero f g h e = h _ e
sets_mono (suc n) f g h e =
    sets_mono n (λ v. f v && f (with v n)) (λ v. g v && g (with v n))
    (λ v t. let a = and_parts (f v) (f (with v n)) t in and_from (g v) (g (with v n)) (h v a.0) (h (with v n) a.1)) e

-- a set cut down to the numbers below n
abbrev below : ℕ → (ℕ → Bool) → ℕ → Bool
below zero v = λ q. false
below (suc n) v = cond (v n) (with (below n v) n) (below n v)

sets_at : (n : ℕ) (f : (ℕ → Bool) → Bool) (v : ℕ → Bool) → all_sets n f ≡ true → f (below n v) ≡ true
sets_at zero f v e = e
sets_at (suc n) f v e = go (v n) (and_parts (f (below n v)) (f (with (below n v) n)) (sets_at n (λ w. f w && f (with w n)) v e))
  where
    go : (b : Bool) → (f (below n v) ≡ true) × (f (with (below n v) n) ≡ true) → f (cond b (with (below n v) n) (below n v)) ≡ true
    go true h = h.1
    go false h = h.0

below_only : (n : ℕ) (v : ℕ → Bool) (q : ℕ) → below n v q ≡ true → v q ≡ true
below_only zero v q e = absurd (false≢true e)
below_only (suc n) v q e = go (below_only n v q) (v n) refl e (cases_eq q n)
  where
    go : (below n v q ≡ true → v q ≡ true) → (b : Bool) → v n ≡ b → cond b (with (below n v) n) (below n v) q ≡ true → (q ≡ n) ⊎ (q ≡ n → ⊥) → v q ≡ true
    go ih true f e (inl d) = ap v d ∙ f
    go ih true f e (inr d) = ih (sym (with_there (below n v) n q d) ∙ e)
    go ih false f e d = ih e

below_in : (n : ℕ) (v : ℕ → Bool) (q : ℕ) → q < n → v q ≡ true → below n v q ≡ true
below_in zero v q h e = absurd (not-suc-le-zero h)
below_in (suc n) v q h e = go (λ l. below_in n v q l e) (v n) refl (cases_eq q n)
  where
    go : (q < n → below n v q ≡ true) → (b : Bool) → v n ≡ b → (q ≡ n) ⊎ (q ≡ n → ⊥) → cond b (with (below n v) n) (below n v) q ≡ true
    go ih true f (inl d) = with_here (below n v) n q d
    go ih true f (inr d) = with_there (below n v) n q d ∙ ih (omega (arith, d))
    go ih false f (inl d) = absurd (both_ways (v n) f (ap v (sym d) ∙ e))
    go ih false f (inr d) = ih (omega (arith, d))

-- the test says what Closed says
closes_up : (n : ℕ) (sends receives : ℕ → ℕ) (p : ℕ) (v : ℕ → Bool) → closes n sends receives p v ≡ true → (x q r : ℕ) → x < 16 → q < n → r < n →
    v q ≡ true → bit q (receives x) ≡ true → (bit r (sends x) || bit r (receives x)) ≡ true → v r ≡ true
closes_up n sends receives p v e x q r hx hq hr a b c =
    when_so (v q && (bit q (receives x) && (bit r (sends x) || bit r (receives x)))) (v r)
    (all_at n (λ r'. not (v q && (bit q (receives x) && (bit r' (sends x) || bit r' (receives x)))) || v r')
    (all_at n (λ q'. all n (λ r'. not (v q' && (bit q' (receives x) && (bit r' (sends x) || bit r' (receives x)))) || v r'))
    (all_at 16 (λ x'. all n (λ q'. all n (λ r'. not (v q' && (bit q' (receives x') && (bit r' (sends x') || bit r' (receives x')))) || v r')))
    (and_parts (v p) _ e).1 x hx) q hq) r hr)
    (and_from (v q) _ a (and_from (bit q (receives x)) _ b c))

closed_closes : (n : ℕ) (sends receives : ℕ → ℕ) (p : ℕ) (v : ℕ → Bool) → p < n → Closed n sends receives p v → closes n sends receives p (below n v) ≡ true
closed_closes n sends receives p v hp cl =
    and_from (below n v p) _ (below_in n v p hp cl.self)
    (all_from 16 _ λ x hx. all_from n _ λ q hq. all_from n _ λ r hr.
    so_when (below n v q && (bit q (receives x) && (bit r (sends x) || bit r (receives x)))) (below n v r)
    λ t. let a = and_parts (below n v q) _ t in
    let b = and_parts (bit q (receives x)) _ a.1 in
    below_in n v r hr (cl.up x q r hx hq hr (below_only n v q a.0) b.0 b.1))

pub smallest : (n : ℕ) (sends receives : ℕ → ℕ) (p : ℕ) → p < n → Smallest n sends receives p (upstream n sends receives p)
unfolding upstream
smallest n sends receives p hp = record {
  closed = record {
    self = sets_from n (λ v. not (closes n sends receives p v) || v p) (λ v. so_when (closes n sends receives p v) (v p) (λ e. (and_parts (v p) _ e).0));
    up = λ x q r hx hq hr a b c.
        sets_mono n (λ v. not (closes n sends receives p v) || v q) (λ v. not (closes n sends receives p v) || v r)
        (λ v t. so_when (closes n sends receives p v) (v r) (λ e. closes_up n sends receives p v e x q r hx hq hr (when_so (closes n sends receives p v) (v q) t e) b c)) a;
  };
  least = λ v cl q e.
      below_only n v q
      (when_so (closes n sends receives p (below n v)) (below n v q) (sets_at n (λ w. not (closes n sends receives p w) || w q) v e) (closed_closes n sends receives p v hp cl));
}
