-- Who is upstream of whom, of n parts, where port x has the set of senders `sends x` and the set of receivers `receives x`.
-- Assumes nothing.
use Rattle.std.specs.Prelude.{◌≡◌, ℕ, zero, suc, ◌<◌, Bool, true, false, cond, not, ◌&&◌, ◌||◌, ◌==◌}
use Rattle.part.specs.Sets.{bit}

-- a set of parts that holds p and, for each port that a member may receive from, all its senders and receivers
pub record Closed (n : ℕ) (sends receives : ℕ → ℕ) (p : ℕ) (u : ℕ → Bool) : Type 0 where
  pub self : u p ≡ true
  pub up : (x q r : ℕ) → x < 16 → q < n → r < n → u q ≡ true → bit q (receives x) ≡ true → (bit r (sends x) || bit r (receives x)) ≡ true → u r ≡ true

-- the smallest such set: the parts upstream of p
pub record Smallest (n : ℕ) (sends receives : ℕ → ℕ) (p : ℕ) (u : ℕ → Bool) : Type 0 where
  pub closed : Closed n sends receives p u
  pub least : (v : ℕ → Bool) → Closed n sends receives p v → (q : ℕ) → u q ≡ true → v q ≡ true

-- a test that every number below n passes, and one that every set of numbers below n passes
abbrev pub all : ℕ → (ℕ → Bool) → Bool
all zero f = true
all (suc n) f = f n && all n f

abbrev pub all_sets : ℕ → ((ℕ → Bool) → Bool) → Bool
all_sets zero f = f (λ q. false)
all_sets (suc n) f = all_sets n (λ v. f v && f (λ q. cond (q == n) true (v q)))

-- the test for Closed
abbrev pub closes : ℕ → (ℕ → ℕ) → (ℕ → ℕ) → ℕ → (ℕ → Bool) → Bool
closes n sends receives p v =
    v p && all 16 (λ x. all n (λ q. all n (λ r. not (v q && (bit q (receives x) && (bit r (sends x) || bit r (receives x)))) || v r)))

-- whether q is upstream of p: it is in every closed set
unfoldable pub upstream : ℕ → (ℕ → ℕ) → (ℕ → ℕ) → ℕ → ℕ → Bool
upstream n sends receives p q = all_sets n (λ v. not (closes n sends receives p v) || v q)
