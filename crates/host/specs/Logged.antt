-- The log record of an entry, its values packed. Assumes nothing.
use Rattle.std.specs.Prelude.{ℕ, length, replicate}
use Rattle.element.specs.declared.words.Words.{Words}
use Rattle.command.specs.declared.log.LogRecord.{LogRecord}
use Rattle.reply.specs.Told.{Told, words_of}
use Rattle.isolation.specs.Request.{Answer, refused, done, Entry}

abbrev pub told_of : {E : Type 0} → (E → Words) → Answer E → Told
told_of p (refused n d) = record { refusal = n; detail = d; missed = 0; count = 0; words = replicate 8 0 }
told_of p (done m vs) = record { refusal = 0; detail = 0; missed = m; count = length vs; words = words_of p vs }

abbrev pub record_with : ℕ → ℕ → ℕ → Told → LogRecord
record_with place part kind t = record {
  place = place;
  part = part;
  kind = kind;
  refusal = t.refusal;
  detail = t.detail;
  missed = t.missed;
  count = t.count;
  words = t.words;
}

abbrev pub record_of : {E : Type 0} → (E → Words) → Entry E → LogRecord
record_of p e = record_with e.place e.part e.kind (told_of p e.answer)
