-- The machine: one store of cells, which the parts use in turn. Assumes nothing.
use Rattle.std.specs.Prelude.{ℕ, Bool, true, false, cond, List, [], ◌==◌}
use Rattle.queue.specs.Queue.{Queue, empty}
use Rattle.command.specs.Shape.{part_of}
use Rattle.command.specs.Order.{Order, malformed, restore, save, work, decoded}
use Rattle.isolation.specs.Tables.{replace}
use Rattle.isolation.specs.Making.{Making}
use Rattle.isolation.specs.Request.{Request, whole, roomy, part, order, refused, done, Step}
use Rattle.isolation.specs.Check.{Verdict, pass, fail, check}
use Rattle.isolation.specs.Effect.{effect}

-- no turn, or the turn of a part
pub data Turn : Type 0 where
  closed : Turn
  opened : ℕ → Turn

-- whether some turn is open, and whether it is part p's
abbrev pub is_open : Turn → Bool
is_open closed = false
is_open (opened q) = true

abbrev pub held_by : Turn → ℕ → Bool
held_by closed p = false
held_by (opened q) p = p == q

-- the cells; for each part its save row, by cell, with null where the cell is not swapped; the turn; the queues of the ports
pub record State (E : Type 0) : Type 0 where
  pub cells : ℕ → E
  pub save_rows : ℕ → ℕ → E
  pub turn : Turn
  pub queues : ℕ → Queue E

-- the state at making
abbrev pub made : {E : Type 0} → Making E → State E
made k = record { cells = k.cells; save_rows = λ p n. k.null; turn = closed; queues = λ x. empty }

-- a restore: the swapped cells take the part's save row, and the turn is the part's
abbrev pub restored : {E : Type 0} → Making E → ℕ → State E → State E
restored k p s = record {
  cells = λ n. cond (k.swapped n) (s.save_rows p n) (s.cells n);
  save_rows = s.save_rows;
  turn = opened p;
  queues = s.queues;
}

-- a save: the part's save row takes the swapped cells, the cells keep their elements, and the turn is none
abbrev pub saved : {E : Type 0} → Making E → ℕ → State E → State E
saved k p s = record {
  cells = s.cells;
  save_rows = replace s.save_rows p (λ n. cond (k.swapped n) (s.cells n) k.null);
  turn = closed;
  queues = s.queues;
}

-- an order of part p, once the checks have spoken
abbrev pub act : {E : Type 0} → Making E → Verdict → ℕ → Order → State E → Step E (State E)
act k (fail n d) p o s = record { answer = refused n d; after = s }
act k pass p (malformed n d) s = record { answer = refused n d; after = s }
act k pass p restore s = record { answer = done 0 []; after = restored k p s }
act k pass p save s = record { answer = done 0 []; after = saved k p s }
act k pass p (work w) s =
    let e = effect k w s.cells s.queues in
    record { answer = e.answer; after = record { cells = e.cells; save_rows = s.save_rows; turn = s.turn; queues = e.queues } }

-- an order of part p
abbrev pub order_step : {E : Type 0} → Making E → ℕ → Order → State E → Step E (State E)
order_step k p o s = act k (check k (is_open s.turn) (held_by s.turn p) p o) p o s

-- a request
abbrev pub step : {E : Type 0} → Making E → Request → State E → Step E (State E)
step k c s = order_step k (part c) (order c) s

-- the bytes of a whole record, with scratch enough
abbrev pub record_step : {E : Type 0} → Making E → List ℕ → State E → Step E (State E)
record_step k bs s = order_step k (part_of bs) (decoded bs) s

-- A host whose store has as many cells as its sheet (`fits`) is the machine. Any other refuses with 1, 6 or 19, and alters
-- nothing: its making is not accepted.
abbrev pub host_step : {E : Type 0} → Bool → Making E → Request → State E → Step E (State E)
host_step true k c s = step k c s
host_step false k c s = record { answer = refused (cond (whole c) (cond (roomy c) 19 6) 1) 0; after = s }
