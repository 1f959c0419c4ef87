-- What the calls of a layer do to its table and to the store below. Assumes nothing.
use Rattle.std.specs.Prelude.{◌≡◌, ℕ, List, [], ◌∷◌, take, drop, Some, Ok, Err, Result, slice_set}
use Rattle.element.specs.declared.element.Element.{Ghosts as Elements}
use Rattle.element.specs.declared.words.Words.{Words}
use Rattle.store.specs.declared.access.Access.TheVariants.{Write}
use Rattle.store.specs.declared.store.Store.{Ghosts as Stores}
use Rattle.store.specs.declared.fault.StoreFault.{StoreFault}
use Rattle.layer.specs.declared.held.Held.{Held}
use Rattle.layer.specs.declared.held_write.HeldWrite.{HeldWrite}
use Rattle.layer.specs.Holds.{held_for, outgoing}
use Rattle.layer.specs.Layers.{held_in, Layer, meaning, layer_after, flushed}

-- a write that goes down takes store x to store y
pub record Carried {S E : Type 0} (st : Stores S E) (el : Elements E) (w : HeldWrite) (x y : S) : Type 0 where
  pub cells : st.cells y ≡ slice_set (st.cells x) w.cell (el.unpacked w.words)
  pub lender : st.lender y ≡ st.lender x

-- writes that go down, the first first, take store x to store z through the stores between; where none goes down, x stays
abbrev pub Sends : {S E : Type 0} → Stores S E → Elements E → S → List HeldWrite → S → Type 0
Sends st el x [] z = z ≡ x
Sends {S} st el x (w ∷ ws) z = (y : S) × (Carried st el w x y × Sends st el y ws z)

module _ {S E : Type 0} (st : Stores S E) (el : Elements E) where
  -- a layer as lists
  abbrev pub layer_of : Held S E st el → Layer E
  layer_of h = record { below = st.cells h.below; held = held_in h.table }

  -- a read leaves table and meaning below, and a cell that is held is read without the store below
  pub record TakesRead (x y : Held S E st el) (n : ℕ) : Type 0 where
    pub table : y.table ≡ x.table
    pub below : st.cells y.below ≡ st.cells x.below
    pub apart : (w : Words) → held_for n (held_in x.table) ≡ Some w → y.below ≡ x.below

  -- what a layer means
  abbrev pub meant : Held S E st el → List E
  meant h = meaning el (layer_of h)

  -- the first k of the held writes went down, and nothing else changed
  pub record SentDown (x y : Held S E st el) (k : ℕ) : Type 0 where
    pub held : held_in y.table ≡ drop k (held_in x.table)
    pub below : Sends st el x.below (take k (held_in x.table)) y.below

  -- what a write to cell n sends down: nothing where it is refused
  abbrev pub sent_by : {U F : Type 0} → Result U F → ℕ → List HeldWrite → List HeldWrite
  sent_by (Ok _) n ws = take (outgoing n ws) ws
  sent_by (Err _) n ws = []

  -- a write of v to cell n
  pub record TakesWrite (x y : Held S E st el) (n : ℕ) (v : E) (r : Result (Unit {0}) StoreFault) : Type 0 where
    pub layer : layer_of y ≡ layer_after el (layer_of x) (Write n v)
    pub below : Sends st el x.below (sent_by r n (held_in x.table)) y.below

  -- a flush: the meaning stays, nothing is held any more, and the held writes went down, the longest-held first
  pub record Flushes (x y : Held S E st el) : Type 0 where
    pub layer : layer_of y ≡ flushed el (layer_of x)
    pub below : Sends st el x.below (held_in x.table) y.below
    pub kept : meant y ≡ meant x
    pub lender : st.lender y.below ≡ st.lender x.below

  -- a layer that is closed gives the store below back, with the held writes sent down, the longest-held first
  pub record Closes (x : Held S E st el) (z : S) : Type 0 where
    pub below : Sends st el x.below (held_in x.table) z
    pub cells : st.cells z ≡ meant x
    pub lender : st.lender z ≡ st.lender x.below
