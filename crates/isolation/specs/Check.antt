-- Rights, and the checks of an order. Assumes nothing.
use Rattle.std.specs.Prelude.{ℕ, suc, Bool, true, false, not, ◌&&◌, ◌||◌, List, [], ◌∷◌, nat_lt}
use Rattle.part.specs.Sets.{bit}
use Rattle.command.specs.Order.{Work, instruct, send, receive, Order, malformed, restore, save, work}
use Rattle.isolation.specs.Making.{Making}

-- part p may read cell n, or write it: the cell is swapped, or the part has the bit
abbrev pub readable : {E : Type 0} → Making E → ℕ → ℕ → Bool
readable k p n = nat_lt n k.size && (k.swapped n || bit p (k.reads n))

abbrev pub writable : {E : Type 0} → Making E → ℕ → ℕ → Bool
writable k p n = nat_lt n k.size && (k.swapped n || bit p (k.writes n))

-- part p may touch cell n: read it or write it
abbrev pub touchable : {E : Type 0} → Making E → ℕ → ℕ → Bool
touchable k p n = readable k p n || writable k p n

-- part p may send to port x, or receive from it
abbrev pub sender : {E : Type 0} → Making E → ℕ → ℕ → Bool
sender k p x = nat_lt x 16 && bit p (k.sends x)

abbrev pub receiver : {E : Type 0} → Making E → ℕ → ℕ → Bool
receiver k p x = nat_lt x 16 && bit p (k.receives x)

-- what the checks say: go on, or a refusal's number and detail
pub data Verdict : Type 0 where
  pass : Verdict
  fail : ℕ → ℕ → Verdict

-- a check, with the refusal where it fails and the checks that come after it
abbrev pub when : Bool → ℕ → ℕ → Verdict → Verdict
when true n d v = v
when false n d v = fail n d

-- refusal 12: each cell of a list has the right; the detail is the place of the first that has not, counted from i
abbrev pub each : (ℕ → Bool) → ℕ → List ℕ → Verdict → Verdict
each f i [] v = v
each f i (n ∷ ns) v = when (f n) 12 i (each f (suc i) ns v)

-- refusals 11 and 12
abbrev pub may : {E : Type 0} → Making E → ℕ → Work → Verdict
may k p (instruct code xs rs) = each (readable k p) 0 xs (each (writable k p) 8 rs pass)
may k p (send x xs) = when (sender k p x) 11 5 (each (readable k p) 0 xs pass)
may k p (receive x rs) = when (receiver k p x) 11 5 (each (writable k p) 8 rs pass)

-- Refusals 9, 10, 11 and 12 of an order of part p. Of the state the checks know no more than this: `busy`, whether some turn
-- is open, and `mine`, whether the part's own is.
abbrev pub check : {E : Type 0} → Making E → Bool → Bool → ℕ → Order → Verdict
check k busy mine p (malformed n d) = fail n d
check k busy mine p restore = when (nat_lt p k.parts) 9 2 (when (not busy) 10 0 pass)
check k busy mine p save = when (nat_lt p k.parts) 9 2 (when mine 10 0 pass)
check k busy mine p (work w) = when (nat_lt p k.parts) 9 2 (when mine 10 0 (may k p w))
