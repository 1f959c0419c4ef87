-- What a queue holds after many messages. Assumes nothing.
use Rattle.std.specs.Prelude.{◌≡◌, ◌-◌, min, List, [], ◌∷◌, length, drop}
use Rattle.queue.specs.Queue.{Queue, empty, appended}

-- the last eight of a list of messages, in their order
abbrev pub last_eight : {E : Type 0} → List (List E) → List (List E)
last_eight ms = drop (length ms - 8) ms

-- a queue that was given these messages since something was last taken from it, those then in it counted in: it holds
-- the last eight of them, and missed is how many went before, stopping at 255
pub record Holds {E : Type 0} (ms : List (List E)) (q : Queue E) : Type 0 where
  pub messages : q.messages ≡ last_eight ms
  pub missed : q.missed ≡ min 255 (length ms - 8)

-- messages appended one after another
abbrev pub appended_all : {E : Type 0} → List (List E) → Queue E → Queue E
appended_all [] q = q
appended_all (m ∷ ms) q = appended_all ms (appended m q)

-- whatever messages an empty queue is given
abbrev pub LastEight : Type 0 → Type 0
LastEight E = (ms : List (List E)) → Holds ms (appended_all ms empty)
