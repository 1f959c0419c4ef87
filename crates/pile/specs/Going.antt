-- What a call on a kept host does. The host is seen as one whose store is the plain list of its elements. Assumes nothing.
use Rattle.std.specs.Prelude.{◌≡◌, ℕ, List, length, Result}
use Rattle.element.specs.declared.element.Element.{Ghosts as Elements}
use Rattle.instruction.specs.declared.set.InstructionSet.{Ghosts as Sets}
use Rattle.store.specs.declared.store.Store.{Ghosts as Stores}
use Rattle.command.specs.declared.log.LogRecord.{LogRecord}
use Rattle.isolation.specs.Request.{Request}
use Rattle.showfile.specs.declared.file.ShowFile.{ShowFile}
use Rattle.showfile.specs.Opening.{rest}
use Rattle.host.specs.declared.host.Kept.{Kept}
use Rattle.host.specs.Keeping.{resumed, listed}
use Rattle.host.specs.Parts.{left_null}
use Rattle.host.specs.Commands.{Commanded, Cleared}
use Rattle.run.specs.Runs.{requests_of, answered, done_of, some, Ran}
use Rattle.run.specs.declared.refusal.RunRefusal.{RunRefusal}

-- A run of a show file on the host that was kept as k over store x with set i; it is kept as k' over store x', and r is how the run ended.
-- The log was l and is l', the scratch was xs and rs and is xs' and rs'.
pub record Played {S I E : Type 0} (st : Stores S E) (el : Elements E) (is : Sets I E) (k k' : Kept) (x x' : S) (i : I) (file : ShowFile)
    (l l' : List LogRecord) (xs xs' rs rs' : List E) (r : Result ℕ RunRefusal) : Type 0 where
  pub answer : r ≡ answered (length (rest file)) (length l) (length xs) (length rs)
  pub ran : Ran listed el is (resumed k (st.cells x) i) (resumed k' (st.cells x') i) (done_of r (requests_of file (length xs) (length rs))) l l'
  -- the store is over the memory that it was over
  pub lender : st.lender x' ≡ st.lender x
  pub args : xs' ≡ left_null (some (done_of r (rest file))) el.blank xs
  pub results : rs' ≡ left_null (some (done_of r (rest file))) el.blank rs

-- One command, c, on the host that was kept as k over store x with set i; it is kept as k' over store x', and r is the record that answers.
pub record Did {S I E : Type 0} (st : Stores S E) (el : Elements E) (is : Sets I E) (k k' : Kept) (x x' : S) (i : I) (c : Request) (xs xs' rs rs' : List E) (r : LogRecord) : Type 0 where
  pub commanded : Commanded listed el is (resumed k (st.cells x) i) (resumed k' (st.cells x') i) c r
  pub lender : st.lender x' ≡ st.lender x
  pub cleared : Cleared el.blank c xs xs' rs rs'
