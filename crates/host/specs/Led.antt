-- A host that a history led to, and what isolation says of its next answer. Assumes nothing.
use Rattle.std.specs.Prelude.{◌≡◌, ℕ, ◌<◌, true, List}
use Rattle.element.specs.declared.words.Words.{Words}
use Rattle.element.specs.declared.element.Element.{Ghosts as Elements}
use Rattle.instruction.specs.declared.set.InstructionSet.{Ghosts as Sets}
use Rattle.store.specs.declared.store.Store.{Ghosts as Stores}
use Rattle.command.specs.declared.log.LogRecord.{LogRecord}
use Rattle.isolation.specs.Making.{Making, upstream_of, SmallestOf}
use Rattle.isolation.specs.Request.{Request, entry}
use Rattle.isolation.specs.History.{state_after, answer_after, box_answer_after, is_left, left}
use Rattle.host.specs.declared.host.Host.{Host}
use Rattle.host.specs.Logged.{record_of}
use Rattle.host.specs.Hosted.{state_of, fits_of, making_of}

-- The making k and the history h lead to this host: it is of making k, which was accepted, and its state is the machine's after h.
pub record Led {S I E : Type 0} (st : Stores S E) (el : Elements E) (is : Sets I E) (k : Making E) (h : List Request) (x : Host S I E) : Type 0 where
  pub making : making_of el is x k.cells ≡ k
  pub accepted : fits_of st el x ≡ true
  pub state : state_of st el x ≡ state_after k h

-- What isolation says of the record r that answers request c after history h.
pub record Shown {E : Type 0} (p : E → Words) (k : Making E) (h : List Request) (c : Request) (r : LogRecord) : Type 0 where
  -- it is the machine's, and it is the separate boxes'
  pub machine : r ≡ record_of p (entry c (answer_after k h c))
  pub boxes : r ≡ record_of p (entry c (box_answer_after k h c))
  -- for each part for which c is left, it is that of a second machine of the same making which had only what is left of h
  pub alone : (q : ℕ) → q < k.parts → is_left k (upstream_of k q) c (answer_after k h c) ≡ true → r ≡ record_of p (entry c (answer_after k (left k q h) c))
  pub upstream : (q : ℕ) → q < k.parts → SmallestOf k q (upstream_of k q)
