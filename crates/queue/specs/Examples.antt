-- Worked examples of a queue. Assumes nothing.
use Rattle.std.specs.Prelude.{ℕ, zero, suc, List, [], ◌∷◌}
use Rattle.queue.specs.Queue.{Queue, empty, first, taken}
use Rattle.queue.specs.Runs.{appended_all}

-- messages that an empty queue is given, how many takes come then, and what the next take gives
pub record Example : Type 0 where
  pub given : List (List ℕ)
  pub takes : ℕ
  pub message : List ℕ
  pub missed : ℕ

-- what a take gives
pub record Gives : Type 0 where
  pub message : List ℕ
  pub missed : ℕ

-- n takes
abbrev pub taken_often : ℕ → Queue ℕ → Queue ℕ
taken_often zero q = q
taken_often (suc n) q = taken_often n (taken q)

-- what the definitions give
abbrev pub answer : Example → Gives
answer e = let q = taken_often e.takes (appended_all e.given empty) in record { message = first q.messages; missed = q.missed }

-- what is expected
abbrev pub expected : Example → Gives
expected e = record { message = e.message; missed = e.missed }

-- messages 1 to 9
abbrev pub nine : List (List ℕ)
nine = (1 ∷ []) ∷ ((2 ∷ []) ∷ ((3 ∷ []) ∷ ((4 ∷ []) ∷ ((5 ∷ []) ∷ ((6 ∷ []) ∷ ((7 ∷ []) ∷ ((8 ∷ []) ∷ ((9 ∷ []) ∷ []))))))))

abbrev pub examples : List Example
examples =
    record { given = nine; takes = 0; message = 2 ∷ []; missed = 1 }
    ∷ (record { given = nine; takes = 1; message = 3 ∷ []; missed = 0 }
    ∷ (record { given = nine; takes = 8; message = []; missed = 0 }
    ∷ (record { given = (5 ∷ (6 ∷ [])) ∷ []; takes = 0; message = 5 ∷ (6 ∷ []); missed = 0 }
    ∷ [])))
