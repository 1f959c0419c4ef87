-- The rows of the table of a run, in words. Assumes nothing.
use Rattle.std.specs.Prelude.{ℕ, ◌-◌, cond, List, ◌++◌, length, replicate, Some, codes, decimal, Option, ◌==◌}
use Rattle.std.specs.Fmt.{◌++?◌}
use Rattle.element.specs.declared.words.Words.{Words}
use Rattle.command.specs.declared.log.LogRecord.{LogRecord}
use Rattle.report.specs.Outcomes.{outcome_text}

-- a text in w places at least, with spaces before it, or behind it
abbrev pub right : ℕ → List ℕ → List ℕ
right w text = replicate (w - length text) 32 ++ text

abbrev pub left : ℕ → List ℕ → List ℕ
left w text = text ++ replicate (w - length text) 32

-- the name of the kind that a number stands for, ? where there is none
abbrev pub kind_text_of : ℕ → List ℕ
kind_text_of k =
    cond (k == 1) (codes "restore")
    (cond (k == 2) (codes "save")
    (cond (k == 3) (codes "instruct")
    (cond (k == 4) (codes "send")
    (cond (k == 5) (codes "receive") (codes "?")))))

-- place, part and command in columns, and the answer
abbrev pub row_text : {E : Type 0} → (E → Option (List ℕ)) → (Words → E) → LogRecord → Option (List ℕ)
row_text sh u r =
    Some (right 5 (decimal r.place)) ++? Some (codes "  ") ++? Some (right 4 (decimal r.part)) ++? Some (codes "  ")
    ++? Some (left 8 (kind_text_of r.kind)) ++? Some (codes "  ") ++? outcome_text sh u r
