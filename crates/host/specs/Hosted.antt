-- What a host is: a making, and a state of the machine. Assumes nothing.
use Rattle.std.specs.Prelude.{ℕ, Bool, List, length, Ok, Err, Result, ◌==◌, slice_index}
use Rattle.part.specs.Sets.{parts}
use Rattle.element.specs.declared.element.Element.{Ghosts as Elements}
use Rattle.instruction.specs.declared.fault.SetFault.{SetFault}
use Rattle.instruction.specs.declared.set.InstructionSet.{Ghosts as Sets}
use Rattle.instruction.specs.Outcomes.{fault_number}
use Rattle.store.specs.declared.store.Store.{Ghosts as Stores}
use Rattle.sheet.specs.declared.sheet.Sheet.{Sheet}
use Rattle.cells.specs.Cells.{member}
use Rattle.sheet.specs.View.{rows_of}
use Rattle.port.specs.declared.ports.Ports.{Ports}
use Rattle.port.specs.Sets.{sends_of, receives_of}
use Rattle.queue.specs.Packed.{queue_at}
use Rattle.isolation.specs.Tables.{at}
use Rattle.isolation.specs.Making.{Making, Outcome, fault, gives}
use Rattle.isolation.specs.Machine.{State}
use Rattle.host.specs.declared.host.Host.{Host}
use Rattle.host.specs.Parts.{turn_of, saves_of}

-- what a set's meaning gives, a fault by its number
abbrev pub outcome_of : {E : Type 0} → Result (List E) SetFault → Outcome E
outcome_of (Ok vs) = gives vs
outcome_of (Err f) = fault (fault_number f)

-- the making of these parts, with the null element z, the set's meaning f, and m for the cells
abbrev pub making_with : {E : Type 0} → E → (ℕ → List E → Result (List E) SetFault) → Sheet → Ports → (ℕ → E) → Making E
making_with z f sheet ports m = record {
  null = z;
  set = λ code xs. outcome_of (f code xs);
  parts = parts;
  size = sheet.size;
  reads = λ n. slice_index (rows_of sheet).read n;
  writes = λ n. slice_index (rows_of sheet).write n;
  swapped = member (rows_of sheet).swaps;
  sends = sends_of ports;
  receives = receives_of ports;
  cells = m;
}

module _ {S I E : Type 0} (el : Elements E) (is : Sets I E) where
  -- what a host is made of, with m for the cells at making, which it does not keep
  abbrev pub making_of : Host S I E → (ℕ → E) → Making E
  making_of h m = making_with el.blank (is.meaning h.set) h.sheet h.ports m

module _ {S I E : Type 0} (st : Stores S E) (el : Elements E) where
  abbrev pub state_of : Host S I E → State E
  state_of h = record {
    cells = at el.blank (st.cells h.store);
    save_rows = saves_of el.unpacked el.blank (rows_of h.sheet).swaps h.rows;
    turn = turn_of h.turn;
    queues = queue_at el.unpacked h.queues;
  }

  -- store and sheet are of one size
  abbrev pub fits_of : Host S I E → Bool
  fits_of h = length (st.cells h.store) == h.sheet.size
