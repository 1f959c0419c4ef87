-- A log record as bytes. Assumes nothing.
use Rattle.std.specs.Prelude.{ℕ, ◌/◌, ◌%◌, List, [], ◌∷◌, ◌++◌}
use Rattle.std.specs.List.{flat_map}
use Rattle.command.specs.declared.log.LogRecord.{LogRecord}

-- a word as four bytes, the lowest first
abbrev pub le4 : ℕ → List ℕ
le4 w = (w % 256) ∷ (w / 256 % 256) ∷ (w / 65536 % 256) ∷ (w / 16777216 % 256) ∷ []

-- word after word
abbrev pub word_bytes : List ℕ → List ℕ
word_bytes = flat_map le4

-- place, then the six small numbers, two zeros, and the words
abbrev pub bytes_of : LogRecord → List ℕ
bytes_of r = le4 r.place ++ ((r.part ∷ r.kind ∷ r.refusal ∷ r.detail ∷ r.missed ∷ r.count ∷ 0 ∷ 0 ∷ []) ++ word_bytes r.words)

-- record after record
abbrev pub log_bytes : List LogRecord → List ℕ
log_bytes = flat_map bytes_of
