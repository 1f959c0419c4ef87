-- What the cases of an answer stand for in a log record. Assumes nothing.
use Rattle.std.specs.Prelude.{ℕ, List, Some, None, Option, Ok, Err, Result, replicate}
use Rattle.command.specs.Commands.{number_of, detail_of}
use Rattle.command.specs.declared.refusal.Refusal.{Refusal}
use Rattle.command.specs.declared.refusal.Refusal.TheVariants.{Malformed, Scratch, Size, Part, Turn, Port, Cell, Set}
use Rattle.command.specs.declared.log.Values.{Values}
use Rattle.command.specs.declared.log.LogRecord.{LogRecord}

abbrev pub refusal_number : Refusal → ℕ
refusal_number (Malformed why) = number_of why
refusal_number Scratch = 6
refusal_number Size = 19
refusal_number Part = 9
refusal_number Turn = 10
refusal_number Port = 11
refusal_number (Cell at) = 12
refusal_number (Set fault) = 13

abbrev pub refusal_detail : Refusal → ℕ
refusal_detail (Malformed why) = detail_of why
refusal_detail Scratch = 0
refusal_detail Size = 0
refusal_detail Part = 2
refusal_detail Turn = 0
refusal_detail Port = 5
refusal_detail (Cell at) = at
refusal_detail (Set fault) = fault

-- a restore or a save is done and gives nothing, work is done and gave values, or a refusal
abbrev pub Answer : Type 0
Answer = Result (Option Values) Refusal

-- the number, detail, missed count, count of values and words that an answer stands for
abbrev pub number : Answer → ℕ
number (Ok gave) = 0
number (Err why) = refusal_number why

abbrev pub detail : Answer → ℕ
detail (Ok gave) = 0
detail (Err why) = refusal_detail why

abbrev pub missed : Answer → ℕ
missed (Ok None) = 0
missed (Ok (Some v)) = v.missed
missed (Err why) = 0

abbrev pub count : Answer → ℕ
count (Ok None) = 0
count (Ok (Some v)) = v.count
count (Err why) = 0

abbrev pub words : Answer → List ℕ
words (Ok None) = replicate 8 0
words (Ok (Some v)) = v.words
words (Err why) = replicate 8 0

abbrev pub logged : ℕ → ℕ → ℕ → Answer → LogRecord
logged place part kind a = record {
  place = place;
  part = part;
  kind = kind;
  refusal = number a;
  detail = detail a;
  missed = missed a;
  count = count a;
  words = words a;
}
