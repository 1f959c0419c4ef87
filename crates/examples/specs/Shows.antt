-- Worked examples: requests as bytes, the machine's answers one by one, and what cells hold in the end. Assumes nothing.
use Rattle.std.specs.Prelude.{◌≡◌, ℕ, ◌-◌, false, cond, List, [], ◌∷◌, ◌++◌, map, replicate, Ok, Err, Result, ◌==◌}
use Rattle.element.specs.declared.level.Level.{Level}
use Rattle.element.specs.Levels.{level}
use Rattle.instruction.specs.declared.fault.SetFault.{SetFault}
use Rattle.instruction.specs.Outcomes.{fault_number}
use Rattle.sets.specs.LevelMeaning.{level_meaning}
use Rattle.isolation.specs.Making.{Making, Exclusive, Outcome, fault, gives}
use Rattle.isolation.specs.Request.{Request, Answer, refused, done, Entry}
use Rattle.isolation.specs.Machine.{host_step, made}
use Rattle.isolation.specs.History.{machine_log, state_after, box_log}
use Rattle.examples.specs.Records.{bytes, request, restore, save, instruct, send, receive}

-- what the level set gives, as a making has it
abbrev pub outcome_of : {E : Type 0} → Result (List E) SetFault → Outcome E
outcome_of (Ok vs) = gives vs
outcome_of (Err f) = fault (fault_number f)

-- Levels, with the level set. Twenty cells, of which 11 to 19 hold 1 to 9 and the others 0. Cell 3 is swapped, and all others
-- are part 0's. Port 0 goes from part 0 to part 1.
abbrev pub making : Making Level
making = record {
  null = level 0;
  set = λ code xs. outcome_of (level_meaning code xs);
  parts = 8;
  size = 20;
  reads = λ n. cond (n == 3) 0 1;
  writes = λ n. cond (n == 3) 0 1;
  swapped = λ n. (n == 3);
  sends = λ x. cond (x == 0) 1 0;
  receives = λ x. cond (x == 0) 2 0;
  cells = λ n. level (n - 10);
}

-- requests, their answers, and cells with what they hold in the end
pub record Example : Type 0 where
  pub requests : List Request
  pub answers : List (Answer ℕ)
  pub cells : List ℕ
  pub elements : List ℕ

-- nine messages, 1 to 9, to one port, and two receives: 2 with missed 1, then 3 with missed 0
abbrev pub nine : Example
nine = record {
  requests = restore 0 ∷ map (λ n. send 0 0 (n ∷ [])) (11 ∷ 12 ∷ 13 ∷ 14 ∷ 15 ∷ 16 ∷ 17 ∷ 18 ∷ 19 ∷ [])
      ++ (save 0 ∷ restore 1 ∷ receive 1 0 (3 ∷ []) ∷ receive 1 0 (3 ∷ []) ∷ []);
  answers = done 0 [] ∷ map (λ v. done 0 (v ∷ [])) (1 ∷ 2 ∷ 3 ∷ 4 ∷ 5 ∷ 6 ∷ 7 ∷ 8 ∷ 9 ∷ [])
      ++ (done 0 [] ∷ done 0 [] ∷ done 1 (2 ∷ []) ∷ done 0 (3 ∷ []) ∷ []);
  cells = 3 ∷ [];
  elements = 3 ∷ [];
}

-- the swapped cell 3 is counted up by part 0, by part 1 and by part 0 again: 1, 1, 2
abbrev pub counting : ℕ → List Request
counting p = restore p ∷ instruct p 6 (3 ∷ []) (3 ∷ []) ∷ save p ∷ []

abbrev pub turns : Example
turns = record {
  requests = counting 0 ++ (counting 1 ++ counting 0);
  answers =
      done 0 [] ∷ done 0 (1 ∷ []) ∷ done 0 []
      ∷ done 0 [] ∷ done 0 (1 ∷ []) ∷ done 0 []
      ∷ done 0 [] ∷ done 0 (2 ∷ []) ∷ done 0 [] ∷ [];
  cells = 3 ∷ [];
  elements = 2 ∷ [];
}

-- code 1 of 7, 9 into cells 0, 0 leaves 7: the earlier place counts
abbrev pub twice : Example
twice = record {
  requests = restore 0 ∷ instruct 0 1 (17 ∷ 19 ∷ []) (0 ∷ 0 ∷ []) ∷ [];
  answers = done 0 [] ∷ done 0 (7 ∷ 9 ∷ []) ∷ [];
  cells = 0 ∷ [];
  elements = 7 ∷ [];
}

-- fewer values than result cells: cell 18 becomes null; and a receive from an empty port: cell 3 becomes null
abbrev pub short : Example
short = record {
  requests = restore 0 ∷ instruct 0 1 (17 ∷ []) (3 ∷ 18 ∷ []) ∷ save 0
      ∷ restore 1 ∷ instruct 1 6 (3 ∷ []) (3 ∷ []) ∷ receive 1 0 (3 ∷ []) ∷ [];
  answers = done 0 [] ∷ done 0 (7 ∷ []) ∷ done 0 []
      ∷ done 0 [] ∷ done 0 (1 ∷ []) ∷ done 0 [] ∷ [];
  cells = 3 ∷ 17 ∷ 18 ∷ [];
  elements = 0 ∷ 7 ∷ 0 ∷ [];
}

-- the refusals in the order of their checks; most of these requests would also meet a later one
abbrev pub refusals : Example
refusals = record {
  requests =
      record { place = 1; bytes = replicate 31 255; arg_room = 0; result_room = 0 }
      ∷ record { place = 1; bytes = replicate 32 255; arg_room = 8; result_room = 3 }
      ∷ request (bytes 9 6 1 1 [] [])
      ∷ request (bytes 9 4 0 16 (0 ∷ 0 ∷ 0 ∷ 0 ∷ 0 ∷ []) [])
      ∷ send 8 16 (3 ∷ [])
      ∷ send 1 16 (20 ∷ [])
      ∷ restore 1
      ∷ restore 0
      ∷ save 0
      ∷ send 1 0 (20 ∷ [])
      ∷ instruct 1 9 (3 ∷ []) (3 ∷ 4 ∷ [])
      ∷ instruct 1 9 (3 ∷ []) (3 ∷ [])
      ∷ [];
  answers =
      refused 1 0
      ∷ refused 6 0
      ∷ refused 7 3
      ∷ refused 8 6
      ∷ refused 9 2
      ∷ refused 10 0
      ∷ done 0 []
      ∷ refused 10 0
      ∷ refused 10 0
      ∷ refused 11 5
      ∷ refused 12 9
      ∷ refused 13 1
      ∷ [];
  cells = 3 ∷ 4 ∷ [];
  elements = 0 ∷ 0 ∷ [];
}

abbrev pub examples : List Example
examples = nine ∷ turns ∷ twice ∷ short ∷ refusals ∷ []

-- the levels of an answer as numbers
abbrev pub numbered : Answer Level → Answer ℕ
numbered (refused n d) = refused n d
numbered (done m vs) = done m (map (λ (v : Level). v.value) vs)

abbrev pub answers_in : List (Entry Level) → List (Answer ℕ)
answers_in es = map (λ (e : Entry Level). numbered e.answer) es

-- the machine's answers and cells, and the answers of the separate boxes, are those that the example tells
pub record Holds (x : Example) : Type 0 where
  pub answers : answers_in (machine_log making x.requests) ≡ x.answers
  pub cells : map (λ n. ((state_after making x.requests).cells n).value) x.cells ≡ x.elements
  pub boxes : answers_in (box_log making x.requests) ≡ x.answers

abbrev pub AllHold : List Example → Type 0
AllHold [] = Unit {0}
AllHold (x ∷ xs) = Holds x × AllHold xs

-- the shows, on a making whose sheet is exclusive
pub record Shows : Type 0 where
  pub exclusive : Exclusive making
  pub all : AllHold examples
  -- where store and sheet differ in size: 19, after 1 and 6
  pub uneven : numbered (host_step false making (restore 0) (made making)).answer ≡ refused 19 0
