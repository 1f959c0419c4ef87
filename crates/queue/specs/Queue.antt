-- A port's queue: messages, the oldest first, each a list of elements; and a count of the messages that were missed.
-- Assumes nothing.
use Rattle.std.specs.Prelude.{ℕ, ◌+◌, min, cond, List, [], ◌∷◌, ◌++◌, length, drop, nat_lt}

pub record Queue (E : Type 0) : Type 0 where
  pub messages : List (List E)
  pub missed : ℕ

abbrev pub empty : {E : Type 0} → Queue E
empty = record { messages = []; missed = 0 }

-- one message more; of nine the oldest goes, and missed rises by 1, stopping at 255
abbrev pub appended : {E : Type 0} → List E → Queue E → Queue E
appended m q = cond (nat_lt (length q.messages) 8)
    (record { messages = q.messages ++ (m ∷ []); missed = q.missed })
    (record { messages = drop 1 q.messages ++ (m ∷ []); missed = min 255 (q.missed + 1) })

-- the first message; an empty queue has none, and gives no elements
abbrev pub first : {E : Type 0} → List (List E) → List E
first [] = []
first (m ∷ ms) = m

-- the first message is taken away, and missed becomes 0
abbrev pub taken : {E : Type 0} → Queue E → Queue E
taken q = record { messages = drop 1 q.messages; missed = 0 }
