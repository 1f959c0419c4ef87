-- What a host is made of. Assumes nothing.
use Rattle.std.specs.Prelude.{◌≡◌, ℕ, Bool, true, List}
use Rattle.part.specs.Rows.{exclusive}
use Rattle.port.specs.Upstream.{Smallest, upstream}

-- what an instruction set gives for a code and elements: a fault with its number, or a list of elements
pub data Outcome (E : Type 0) : Type 0 where
  fault : ℕ → Outcome E
  gives : List E → Outcome E

-- A making. Cells, parts and ports go by number, and a set of parts is a number too: bit p stands for part p.
pub record Making (E : Type 0) : Type 0 where
  -- the null element, and the meaning of the instruction set
  pub null : E
  pub set : ℕ → List E → Outcome E
  -- how many parts there are
  pub parts : ℕ
  -- the sheet: how many cells; for each cell the parts that may read it and those that may write it; the swapped cells
  pub size : ℕ
  pub reads : ℕ → ℕ
  pub writes : ℕ → ℕ
  pub swapped : ℕ → Bool
  -- for each port its senders and its receivers
  pub sends : ℕ → ℕ
  pub receives : ℕ → ℕ
  -- the cells at making
  pub cells : ℕ → E

-- The sheet is exclusive: the ones in both rows of a cell taken together number at most one, and the rows of a swapped cell are zero.
pub record Exclusive {E : Type 0} (k : Making E) : Type 0 where
  pub single : (n : ℕ) → exclusive (k.reads n) (k.writes n) ≡ true
  pub bare : (n : ℕ) → k.swapped n ≡ true → (k.reads n ≡ 0) × (k.writes n ≡ 0)

-- whether part q is upstream of part p
abbrev pub upstream_of : {E : Type 0} → Making E → ℕ → ℕ → Bool
upstream_of k p q = upstream k.parts k.sends k.receives p q

-- this set is the smallest that holds p and, for each port that a member may receive from, all its senders and receivers
abbrev pub SmallestOf : {E : Type 0} → Making E → ℕ → (ℕ → Bool) → Type 0
SmallestOf k p u = Smallest k.parts k.sends k.receives p u
