-- Rules that the machine and the separate boxes keep. They follow from the definitions, and say of them what a reader may ask.
-- Assumes nothing.
use Rattle.std.specs.Prelude.{◌≡◌, ℕ, ◌<◌, ◌≤◌, true, false, List, length, ◌≢◌, slice_index, slice_index_or}
use Rattle.cells.specs.Cells.{member}
use Rattle.queue.specs.Queue.{empty}
use Rattle.isolation.specs.Making.{Making}
use Rattle.isolation.specs.Request.{Request, part, turn_call, granted}
use Rattle.isolation.specs.Check.{writable}
use Rattle.isolation.specs.Effect.{put}
use Rattle.isolation.specs.Machine.{State, held_by, step}
use Rattle.isolation.specs.Boxes.{Boxes, box_step}
use Rattle.isolation.specs.History.{state_after}

-- Result cells ns took values vs: the cells were m and are m'. A cell takes the value of the first place that names it, or null
-- where the values run short, and a cell that is not named keeps its element.
pub record Written {E : Type 0} (z : E) (ns : List ℕ) (vs : List E) (m m' : ℕ → E) : Type 0 where
  pub named : (i : ℕ) → i < length ns → ((j : ℕ) → j < i → slice_index ns j ≢ slice_index ns i) →
      m' (slice_index ns i) ≡ slice_index_or vs i z
  pub others : (n : ℕ) → member ns n ≡ false → m' n ≡ m n

-- A state is in bounds: the turn is a part's, save rows are null off the swapped cells, a queue has at most eight messages and a
-- missed count of at most 255, and there are sixteen ports.
pub record Bounded {E : Type 0} (k : Making E) (s : State E) : Type 0 where
  pub turn : (p : ℕ) → held_by s.turn p ≡ true → p < k.parts
  pub save_rows : (p n : ℕ) → k.swapped n ≡ false → s.save_rows p n ≡ k.null
  pub messages : (x : ℕ) → length (s.queues x).messages ≤ 8
  pub missed : (x : ℕ) → (s.queues x).missed ≤ 255
  pub ports : (x : ℕ) → 16 ≤ x → s.queues x ≡ empty

pub record Rules {E : Type 0} (k : Making E) : Type 0 where
  -- what is refused alters nothing
  pub refused : (c : Request) (s : State E) → granted (step k c s).answer ≡ false → (step k c s).after ≡ s
  pub box_refused : (c : Request) (b : Boxes E) → granted (box_step k c b).answer ≡ false → (box_step k c b).after ≡ b
  -- anything but a turn call leaves the turn, and changes no cell that its part may not write
  pub turn : (c : Request) (s : State E) → turn_call c ≡ false → (step k c s).after.turn ≡ s.turn
  pub unwritten : (c : Request) (s : State E) (n : ℕ) → turn_call c ≡ false → writable k (part c) n ≡ false →
      (step k c s).after.cells n ≡ s.cells n
  -- in the boxes a turn call moves no cell and no message, and anything else moves no mark
  pub box_cells : (c : Request) (b : Boxes E) → turn_call c ≡ true → (box_step k c b).after.cells ≡ b.cells
  pub box_queues : (c : Request) (b : Boxes E) → turn_call c ≡ true → (box_step k c b).after.queues ≡ b.queues
  pub box_marks : (c : Request) (b : Boxes E) → turn_call c ≡ false → (box_step k c b).after.marks ≡ b.marks
  -- another part's box and mark stay
  pub other_cells : (c : Request) (b : Boxes E) (q : ℕ) → (q ≢ part c) → (box_step k c b).after.cells q ≡ b.cells q
  pub other_marks : (c : Request) (b : Boxes E) (q : ℕ) → (q ≢ part c) → (box_step k c b).after.marks q ≡ b.marks q
  -- after every history the state is in bounds
  pub bounded : (h : List Request) → Bounded k (state_after k h)

abbrev pub RulesKept : Type 0 → Type 0
RulesKept E = (k : Making E) → Rules k

abbrev pub ResultsWritten : Type 0 → Type 0
ResultsWritten E = (z : E) (ns : List ℕ) (vs : List E) (m : ℕ → E) → Written z ns vs m (put z ns vs m)
