-- What a log record tells of an answer, and the words of values. Assumes nothing.
use Rattle.std.specs.Prelude.{ℕ, min, List, [], ◌∷◌, map, length, slice_index_or}
use Rattle.element.specs.Pairs.{pair}
use Rattle.element.specs.declared.words.Words.{Words}
use Rattle.command.specs.Answers.{Answer, number, detail, missed, count, words}

-- what is told beside place, part and kind
pub record Told : Type 0 where
  pub refusal : ℕ
  pub detail : ℕ
  pub missed : ℕ
  pub count : ℕ
  pub words : List ℕ

abbrev pub told : Answer → Told
told a = record { refusal = number a; detail = detail a; missed = missed a; count = count a; words = words a }

-- the words of value i, or zeros where there is none
abbrev pub words_at : {E : Type 0} → (E → Words) → List E → ℕ → Words
words_at p vs i = slice_index_or (map p vs) i (pair 0 0)

-- the eight words of four values
abbrev pub words_of : {E : Type 0} → (E → Words) → List E → List ℕ
words_of p vs =
    (words_at p vs 0).first ∷ ((words_at p vs 0).second
    ∷ ((words_at p vs 1).first ∷ ((words_at p vs 1).second
    ∷ ((words_at p vs 2).first ∷ ((words_at p vs 2).second
    ∷ ((words_at p vs 3).first ∷ ((words_at p vs 3).second ∷ [])))))))

-- an answer with values, of which a record has room for four
abbrev pub told_values : {E : Type 0} → (E → Words) → ℕ → List E → Told
told_values p m vs = record { refusal = 0; detail = 0; missed = m; count = min (length vs) 4; words = words_of p vs }
