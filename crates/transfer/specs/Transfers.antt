-- What gathering and scattering leave. Assumes nothing.
use Rattle.std.specs.Prelude.{◌≡◌, ℕ, min, cond, ◌&&◌, List, ◌++◌, length, take, drop, nat_lt, slice_index_or}
use Rattle.element.specs.declared.element.Element.{Ghosts as Elements}
use Rattle.store.specs.declared.store.Store.{Ghosts as Stores}
use Rattle.cells.specs.Cells.{member, beside}
use Rattle.transfer.specs.Lists.{elements_at, stored}

-- store x, which became y, means what it meant
pub record Unaltered {S E : Type 0} (st : Stores S E) (x y : S) : Type 0 where
  pub cells : st.cells y ≡ st.cells x
  pub lender : st.lender y ≡ st.lender x

-- the first r places took the elements of the cells ns of xs, z for a cell that is not there, and later places stay
pub record Gathered {E : Type 0} (z : E) (xs : List E) (ns : List ℕ) (before places : List E) (r : ℕ) : Type 0 where
  pub count : r ≡ min (length ns) (length before)
  pub filled : places ≡ take (length before) (elements_at z xs ns) ++ drop (length ns) before

-- Of store x, which became y, each of the cells ns took the value beside it, null where the values run short.
-- Of a cell named twice the earlier place counts, and every other cell keeps its element.
pub record Scattered {S E : Type 0} (st : Stores S E) (el : Elements E) (x y : S) (ns : List ℕ) (vs : List E) : Type 0 where
  pub cells : st.cells y ≡ stored el.blank ns vs (st.cells x)
  pub each : (n : ℕ) → slice_index_or (st.cells y) n el.blank
      ≡ cond (member ns n && nat_lt n (length (st.cells x))) (beside el.blank ns vs n) (slice_index_or (st.cells x) n el.blank)
  pub lender : st.lender y ≡ st.lender x
