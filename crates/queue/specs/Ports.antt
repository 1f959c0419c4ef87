-- The queues of the ports, by port number: what a send and a receive make of them. Assumes nothing.
use Rattle.std.specs.Prelude.{◌≡◌, ℕ, ◌<◌, ◌≤◌, min, cond, ◌&&◌, List, [], ◌∷◌, ◌++◌, length, take, drop, ◌==◌, nat_lt}
use Rattle.queue.specs.Queue.{Queue, appended, first, taken}
use Rattle.queue.specs.declared.queues.Taken.{Taken}
use Rattle.queue.specs.Laid.{laid}
use Rattle.queue.specs.Runs.{Holds, last_eight}

-- a message of the first four values is appended at port x, if there is such a port; other queues stay
abbrev pub sent : {E : Type 0} → ℕ → List E → (ℕ → Queue E) → ℕ → Queue E
sent x vs o y = cond (nat_lt x 16 && y == x) (appended (take 4 vs) (o y)) (o y)

-- the first message of port x is taken away; other queues stay
abbrev pub received : {E : Type 0} → ℕ → (ℕ → Queue E) → ℕ → Queue E
received x o y = cond (y == x) (taken (o y)) (o y)

-- the queues after a send, by the definition; and in the words of runs: the port was given one message more
pub record Sent {E : Type 0} (o o' : ℕ → Queue E) (x : ℕ) (vs : List E) : Type 0 where
  pub after : o' ≡ sent x vs o
  pub run : x < 16 → (ms : List (List E)) → Holds ms (o x) → Holds (ms ++ (take 4 vs ∷ [])) (o' x)

-- the queues after a receive, by the definition; and in the words of runs: the port holds what is left, and counts anew
pub record Received {E : Type 0} (o o' : ℕ → Queue E) (x : ℕ) : Type 0 where
  pub after : o' ≡ received x o
  pub run : (ms : List (List E)) → Holds ms (o x) → Holds (drop 1 (last_eight ms)) (o' x)

-- what a receive gives from the queue q: the first message into the places, how many were written, and missed
pub record Given {E : Type 0} (q : Queue E) (before after : List E) (r : Taken) : Type 0 where
  pub places : after ≡ laid (first q.messages) before
  pub count : r.count ≡ min (length (first q.messages)) (length before)
  pub missed : r.missed ≡ q.missed
  -- four places suffice
  pub few : length (first q.messages) ≤ 4
  pub whole : 4 ≤ length before → take r.count after ≡ first q.messages
