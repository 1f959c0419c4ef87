-- A host that is kept without its store and its set, and goes on later. Assumes nothing.
use Rattle.std.specs.Prelude.{ℕ, Bool, true, false, cond, List, [], length, Some, None, Option, ◌==◌}
use Rattle.store.specs.declared.store.Store.{Ghosts as Stores}
use Rattle.command.specs.declared.refusal.Refusal.TheVariants as refusal
use Rattle.host.specs.declared.host.Host.{Host}
use Rattle.host.specs.declared.host.Kept.{Kept}
use Rattle.host.specs.declared.host.Made.{Made}

abbrev pub kept_turn : Bool → ℕ → Option ℕ
kept_turn true p = Some p
kept_turn false p = None

-- the host of this store and this set that goes on from what was kept
abbrev pub resumed : {S I E : Type 0} → Kept → S → I → Host S I E
resumed k store set = record {
  store = store;
  set = set;
  sheet = k.sheet;
  ports = k.ports;
  rows = k.rows;
  turn = kept_turn k.held k.holder;
  queues = k.queues;
}

-- a list of elements as a store: it means itself
abbrev pub listed : {E : Type 0} → Stores (List E) E
listed = record { cells = λ xs. xs; lender = λ xs. [] }

-- what making gives of a list of elements, where the host keeps k: with refusal 19 where list and sheet differ in size
abbrev pub made_with : {I E : Type 0} → Kept → List E → I → Made (List E) I E
made_with k xs set = record { host = resumed k xs set; refusal = cond (length xs == k.sheet.size) None (Some refusal.Size) }
