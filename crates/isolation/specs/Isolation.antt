-- The isolation theorem. Assumes nothing.
use Rattle.std.specs.Prelude.{◌≡◌, ℕ, ◌<◌, true, List}
use Rattle.isolation.specs.Making.{Making, Exclusive, upstream_of, SmallestOf}
use Rattle.isolation.specs.Request.{Request, turn_call, work_command, Answer, granted}
use Rattle.isolation.specs.History.{machine_log, box_log, answer_after, box_answer_after, is_left, left, left_log}

-- What is promised of the hosts of a making, for every history.
pub record Isolated {E : Type 0} (k : Making E) : Type 0 where
  -- (a) a work command has exactly the answer that the separate boxes give it,
  pub work : (h : List Request) (c : Request) → work_command k.parts c ≡ true → answer_after k h c ≡ box_answer_after k h c
  -- and a turn call is granted exactly where they grant it;
  pub turns : (h : List Request) (c : Request) → turn_call c ≡ true → granted (answer_after k h c) ≡ granted (box_answer_after k h c)
  -- indeed the whole logs are equal, with every refusal and detail
  pub logs : (h : List Request) → machine_log k h ≡ box_log k h
  -- (b) what is left of a history for a part, given to a second machine of the same making, is answered as in the history
  pub alone : (p : ℕ) → p < k.parts → (h : List Request) → machine_log k (left k p h) ≡ left_log k p h
  -- where the parts upstream of p are the smallest set that holds p and, for each port that a member may receive from, all its
  -- senders and receivers
  pub upstream : (p : ℕ) → p < k.parts → SmallestOf k p (upstream_of k p)

-- The theorem: every making with an exclusive sheet isolates its parts.
abbrev pub Isolation : Type 0 → Type 0
Isolation E = (k : Making E) → Exclusive k → Isolated k

-- The same of one request c after a history h, whose answer is a: it is the boxes' answer, and for each part for which the
-- request is left it is the answer of a second machine that had only what is left of h.
pub record IsolatedAnswer {E : Type 0} (k : Making E) (h : List Request) (c : Request) (a : Answer E) : Type 0 where
  pub boxes : a ≡ box_answer_after k h c
  pub alone : (p : ℕ) → p < k.parts → is_left k (upstream_of k p) c a ≡ true → a ≡ answer_after k (left k p h) c
  pub upstream : (p : ℕ) → p < k.parts → SmallestOf k p (upstream_of k p)

abbrev pub IsolatedAnswers : Type 0 → Type 0
IsolatedAnswers E = (k : Making E) → Exclusive k → (h : List Request) (c : Request) → IsolatedAnswer k h c (answer_after k h c)
