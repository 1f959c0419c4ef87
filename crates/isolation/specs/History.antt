-- Histories: an accepted making, and a list of requests of any kind. Assumes nothing.
use Rattle.std.specs.Prelude.{ℕ, Bool, cond, ◌&&◌, ◌||◌, List, [], ◌∷◌}
use Rattle.isolation.specs.Making.{Making, upstream_of}
use Rattle.isolation.specs.Request.{Request, part, turn_call, work_command, Answer, granted, Entry, entry, Step}
use Rattle.isolation.specs.Machine.{State, made, step}
use Rattle.isolation.specs.Boxes.{separate, box_step}

-- the log of a list of requests, and the state after it, of any system from a state on
abbrev pub log_of : {E S : Type 0} → (Request → S → Step E S) → S → List Request → List (Entry E)
log_of f s [] = []
log_of f s (c ∷ cs) = entry c (f c s).answer ∷ log_of f (f c s).after cs

abbrev pub after_all : {E S : Type 0} → (Request → S → Step E S) → S → List Request → S
after_all f s [] = s
after_all f s (c ∷ cs) = after_all f (f c s).after cs

-- the machine's log of a history, its state after it, and its answer to one request more
abbrev pub machine_log : {E : Type 0} → Making E → List Request → List (Entry E)
machine_log k h = log_of (step k) (made k) h

abbrev pub state_after : {E : Type 0} → Making E → List Request → State E
state_after k h = after_all (step k) (made k) h

abbrev pub answer_after : {E : Type 0} → Making E → List Request → Request → Answer E
answer_after k h c = (step k c (state_after k h)).answer

-- the separate boxes' log, and their answer to one request more
abbrev pub box_log : {E : Type 0} → Making E → List Request → List (Entry E)
box_log k h = log_of (box_step k) (separate k) h

abbrev pub box_answer_after : {E : Type 0} → Making E → List Request → Request → Answer E
box_answer_after k h c = (box_step k c (after_all (box_step k) (separate k) h)).answer

-- a request with its answer is left for the parts of u: a granted turn call of one of them, or a work command of one of them
abbrev pub is_left : {E : Type 0} → Making E → (ℕ → Bool) → Request → Answer E → Bool
is_left k u c a = u (part c) && ((turn_call c && granted a) || work_command k.parts c)

-- what a log leaves of its requests for the parts of u, in their order; and the entries of these
abbrev pub purge : {E : Type 0} → Making E → (ℕ → Bool) → List Request → List (Entry E) → List Request
purge k u [] es = []
purge k u (c ∷ cs) [] = []
purge k u (c ∷ cs) (e ∷ es) = cond (is_left k u c e.answer) (c ∷ purge k u cs es) (purge k u cs es)

abbrev pub kept : {E : Type 0} → Making E → (ℕ → Bool) → List Request → List (Entry E) → List (Entry E)
kept k u [] es = []
kept k u (c ∷ cs) [] = []
kept k u (c ∷ cs) (e ∷ es) = cond (is_left k u c e.answer) (e ∷ kept k u cs es) (kept k u cs es)

-- what is left of a history for part p: the granted turn calls of parts upstream of p and their work commands
abbrev pub left : {E : Type 0} → Making E → ℕ → List Request → List Request
left k p h = purge k (upstream_of k p) h (machine_log k h)

-- their entries in the history's log
abbrev pub left_log : {E : Type 0} → Making E → ℕ → List Request → List (Entry E)
left_log k p h = kept k (upstream_of k p) h (machine_log k h)
