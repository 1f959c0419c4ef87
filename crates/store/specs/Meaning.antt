-- How a store that means a list of elements answers a read and a write. Assumes nothing.
use Rattle.std.specs.Prelude.{◌≡◌, ℕ, zero, suc, cond, List, [], ◌∷◌, length, Ok, Err, Result, nat_lt, slice_set}
use Rattle.store.specs.declared.fault.StoreFault.{StoreFault}
use Rattle.store.specs.declared.fault.StoreFault.TheVariants.{Beyond}

-- element n, or the refusal exactly where n is not below the size
abbrev pub element : {E : Type 0} → List E → ℕ → Result E StoreFault
element [] n = Err Beyond
element (x ∷ xs) zero = Ok x
element (x ∷ xs) (suc n) = element xs n

-- whether cell n can be written: the refusal exactly where n is not below the size
abbrev pub accepted : {E : Type 0} → List E → ℕ → Result (Unit {0}) StoreFault
accepted xs n = cond (nat_lt n (length xs)) (Ok tt) (Err Beyond)

-- a read of cell n answers r: element n or the refusal, and the meaning stays
pub record Reads {E : Type 0} (before : List E) (n : ℕ) (r : Result E StoreFault) (after : List E) : Type 0 where
  pub answer : r ≡ element before n
  pub kept : after ≡ before

-- a write of x to cell n answers r: that element alone is replaced; beyond the size `set` alters nothing
pub record Writes {E : Type 0} (before : List E) (n : ℕ) (x : E) (r : Result (Unit {0}) StoreFault) (after : List E) : Type 0 where
  pub answer : r ≡ accepted before n
  pub stored : after ≡ slice_set before n x
