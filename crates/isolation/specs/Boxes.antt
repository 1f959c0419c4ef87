-- The separate boxes: cells of its own for each part, and the ports in common. They are given requests, and never an answer
-- of the machine. Assumes nothing.
use Rattle.std.specs.Prelude.{ℕ, Bool, true, false, cond, []}
use Rattle.queue.specs.Queue.{Queue, empty}
use Rattle.command.specs.Order.{Order, malformed, restore, save, work}
use Rattle.isolation.specs.Tables.{replace, any}
use Rattle.isolation.specs.Making.{Making}
use Rattle.isolation.specs.Request.{Request, part, order, refused, done, Step}
use Rattle.isolation.specs.Check.{Verdict, pass, fail, check}
use Rattle.isolation.specs.Effect.{effect}

-- for each part its box and its mark; the queues of the ports
pub record Boxes (E : Type 0) : Type 0 where
  pub cells : ℕ → ℕ → E
  pub marks : ℕ → Bool
  pub queues : ℕ → Queue E

-- at making: each box has the cells at making, null where swapped; every mark is closed; the queues are empty
abbrev pub separate : {E : Type 0} → Making E → Boxes E
separate k = record {
  cells = λ p n. cond (k.swapped n) k.null (k.cells n);
  marks = λ p. false;
  queues = λ x. empty;
}

-- a turn call moves the part's mark, and no cell
abbrev pub marked : {E : Type 0} → ℕ → Bool → Boxes E → Boxes E
marked p m b = record { cells = b.cells; marks = replace b.marks p m; queues = b.queues }

-- an order of part p, once the checks have spoken: work is done by the machine's rules, on the part's box and the queues
abbrev pub box_act : {E : Type 0} → Making E → Verdict → ℕ → Order → Boxes E → Step E (Boxes E)
box_act k (fail n d) p o b = record { answer = refused n d; after = b }
box_act k pass p (malformed n d) b = record { answer = refused n d; after = b }
box_act k pass p restore b = record { answer = done 0 []; after = marked p true b }
box_act k pass p save b = record { answer = done 0 []; after = marked p false b }
box_act k pass p (work w) b =
    let e = effect k w (b.cells p) b.queues in
    record { answer = e.answer; after = record { cells = replace b.cells p e.cells; marks = b.marks; queues = e.queues } }

-- a request: an open mark stands for an open turn
abbrev pub box_step : {E : Type 0} → Making E → Request → Boxes E → Step E (Boxes E)
box_step k c b = box_act k (check k (any k.parts b.marks) (b.marks (part c)) (part c) (order c)) (part c) (order c) b
