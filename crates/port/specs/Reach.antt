-- The parts upstream of a part, as a set of parts. Assumes nothing.
use Rattle.std.specs.Prelude.{◌≡◌, ℕ, ◌<◌, ◌≤◌, cond, List, [], ◌∷◌, ◌==◌, bit_and, bit_or}
use Rattle.part.specs.Sets.{bit}
use Rattle.port.specs.Upstream.{Smallest, upstream}
use Rattle.port.specs.declared.ports.Port.{Port}

-- m is the set of the parts upstream of p: the smallest closed set that holds p, and no set beyond the n parts
pub record Reach (n : ℕ) (sends receives : ℕ → ℕ) (p m : ℕ) : Type 0 where
  pub smallest : p < n → Smallest n sends receives p (λ q. bit q m)
  pub same : p < n → (q : ℕ) → bit q m ≡ upstream n sends receives p q
  pub none : n ≤ p → m ≡ 0

-- a set w, with the senders and receivers of each port that a member of the set m may receive from
abbrev pub widen : ℕ → List Port → ℕ → ℕ
widen m [] w = w
widen m (x ∷ xs) w = widen m xs (cond (bit_and x.receivers m == 0) w (bit_or w (bit_or x.senders x.receivers)))
