-- What the host's calls promise. Assumes nothing.
use Rattle.std.specs.Prelude.{◌≡◌, ℕ, cond, List, [], ◌∷◌, ◌++◌, length, Some, None, ◌==◌}
use Rattle.element.specs.declared.element.Element.{Ghosts as Elements}
use Rattle.instruction.specs.declared.set.InstructionSet.{Ghosts as Sets}
use Rattle.store.specs.declared.store.Store.{Ghosts as Stores}
use Rattle.sheet.specs.declared.sheet.Sheet.{Sheet}
use Rattle.port.specs.declared.ports.Ports.{Ports}
use Rattle.command.specs.declared.log.LogRecord.{LogRecord}
use Rattle.command.specs.declared.refusal.Refusal.TheVariants as refusal
use Rattle.isolation.specs.Tables.{at}
use Rattle.isolation.specs.Making.{Making}
use Rattle.isolation.specs.Request.{Request, roomy, entry}
use Rattle.isolation.specs.Machine.{made, host_step}
use Rattle.isolation.specs.Isolation.{Isolated}
use Rattle.host.specs.declared.host.Host.{Host}
use Rattle.host.specs.declared.host.Made.{Made}
use Rattle.host.specs.Parts.{left_null}
use Rattle.host.specs.Logged.{record_of}
use Rattle.host.specs.Hosted.{state_of, fits_of, making_of, making_with}
use Rattle.host.specs.Led.{Led, Shown}

-- the making of a host from these parts: the cells at making are what the store means
abbrev pub making_from : {S I E : Type 0} → Stores S E → Elements E → Sets I E → S → I → Sheet → Ports → Making E
making_from st el is store set sheet ports = making_with el.blank (is.meaning set) sheet ports (at el.blank (st.cells store))

-- Making. A host is always given, of these parts and in the state at making; refusal 19 comes exactly where store and sheet differ in
-- size. Every making isolates its parts, and an accepted one leads, with no request yet, to its host.
pub record Makes {S I E : Type 0} (st : Stores S E) (el : Elements E) (is : Sets I E) (store : S) (set : I) (sheet : Sheet) (ports : Ports) (r : Made S I E) : Type 0 where
  pub refusal : r.refusal ≡ cond (length (st.cells store) == sheet.size) None (Some refusal.Size)
  pub kept : r.host.store ≡ store
  pub making : making_of el is r.host (at el.blank (st.cells store)) ≡ making_from st el is store set sheet ports
  pub state : state_of st el r.host ≡ made (making_from st el is store set sheet ports)
  pub isolated : Isolated (making_from st el is store set sheet ports)
  pub led : r.refusal ≡ None → Led st el is (making_from st el is store set sheet ports) [] r.host

-- One command. The host was x and is y, c is the request and r the record that answers it.
pub record Commanded {S I E : Type 0} (st : Stores S E) (el : Elements E) (is : Sets I E) (x y : Host S I E) (c : Request) (r : LogRecord) : Type 0 where
  -- the record, and the whole state afterwards, are the machine's, whatever the cells at making were
  pub answer : (m : ℕ → E) → r ≡ record_of el.packed (entry c (host_step (fits_of st el x) (making_of el is x m) c (state_of st el x)).answer)
  pub state : (m : ℕ → E) → state_of st el y ≡ (host_step (fits_of st el x) (making_of el is x m) c (state_of st el x)).after
  -- sheet, port sets and the set's meaning stay, and so does the size of the store
  pub making : (m : ℕ → E) → making_of el is y m ≡ making_of el is x m
  pub fits : fits_of st el y ≡ fits_of st el x
  -- Isolation: for every making and every history that lead to this host, the answer is the separate boxes', and what is left of the
  -- history for any part gives it too; and the host afterwards is the one that the longer history leads to.
  pub isolated : (k : Making E) (h : List Request) → Led st el is k h x → Shown el.packed k h c r
  pub led : (k : Making E) (h : List Request) → Led st el is k h x → Led st el is k (h ++ (c ∷ [])) y

-- the two scratch lists after a command: full of null elements, or untouched where one was too short
pub record Cleared {E : Type 0} (z : E) (c : Request) (xs xs' rs rs' : List E) : Type 0 where
  pub args : xs' ≡ left_null (roomy c) z xs
  pub results : rs' ≡ left_null (roomy c) z rs
