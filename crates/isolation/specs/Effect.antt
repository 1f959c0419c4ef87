-- What work does to the cells that it sees and to the queues. Assumes nothing.
use Rattle.std.specs.Prelude.{ℕ, cond, List, map}
use Rattle.cells.specs.Cells.{member, beside}
use Rattle.queue.specs.Queue.{Queue, appended, first, taken}
use Rattle.command.specs.Order.{Work, instruct, send, receive}
use Rattle.isolation.specs.Tables.{change}
use Rattle.isolation.specs.Making.{Making, Outcome, fault, gives}
use Rattle.isolation.specs.Request.{Answer, refused, done}

-- result cell i takes value i, or null where the values run short; of a cell named twice the earlier place counts
abbrev pub put : {E : Type 0} → E → List ℕ → List E → (ℕ → E) → ℕ → E
put z rs vs m n = cond (member rs n) (beside z rs vs n) (m n)

pub record Effect (E : Type 0) : Type 0 where
  pub answer : Answer E
  pub cells : ℕ → E
  pub queues : ℕ → Queue E

-- what the set gave: a fault is refusal 13 and changes nothing; a list is the answer, and goes to the result cells
abbrev pub settle : {E : Type 0} → E → Outcome E → List ℕ → (ℕ → E) → (ℕ → Queue E) → Effect E
settle z (fault f) rs m q = record { answer = refused 13 f; cells = m; queues = q }
settle z (gives vs) rs m q = record { answer = done 0 vs; cells = put z rs vs m; queues = q }

-- Work on cells m and queues q. All arguments are read before any cell is written.
abbrev pub effect : {E : Type 0} → Making E → Work → (ℕ → E) → (ℕ → Queue E) → Effect E
effect k (instruct code xs rs) m q = settle k.null (k.set code (map m xs)) rs m q
effect k (send x xs) m q =
    record { answer = done 0 (map m xs); cells = m; queues = change q x (appended (map m xs)) }
effect k (receive x rs) m q =
    record {
      answer = done (q x).missed (first (q x).messages);
      cells = put k.null rs (first (q x).messages) m;
      queues = change q x taken;
    }
