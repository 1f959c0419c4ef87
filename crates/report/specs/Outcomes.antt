-- What a command was answered, in words. The text of an element is that of its kind, where the kind says. Assumes nothing.
use Rattle.std.specs.Prelude.{ℕ, zero, suc, ◌+◌, ◌*◌, min, cond, List, [], ◌++◌, Some, codes, decimal, Option, ◌==◌, slice_index}
use Rattle.std.specs.Fmt.{◌++?◌}
use Rattle.element.specs.Pairs.{pair}
use Rattle.element.specs.declared.words.Words.{Words}
use Rattle.command.specs.declared.log.LogRecord.{LogRecord}
use Rattle.wording.specs.Reasons.{refusal_text}

-- value i of a record
abbrev pub value_at : {E : Type 0} → (Words → E) → LogRecord → ℕ → E
value_at u r i = u (pair (slice_index r.words (2 * i)) (slice_index r.words (2 * i + 1)))

-- the first stands after a colon, the others after a semicolon
abbrev pub before : ℕ → List ℕ
before i = cond (i == 0) (codes ": ") (codes "; ")

-- the first n values
abbrev pub values_text : {E : Type 0} → (E → Option (List ℕ)) → (Words → E) → LogRecord → ℕ → Option (List ℕ)
values_text sh u r zero = Some []
values_text sh u r (suc i) = values_text sh u r i ++? (Some (before i) ++? sh (value_at u r i))

abbrev pub missed_text : ℕ → List ℕ
missed_text n = cond (n == 0) [] (codes ", missed " ++ decimal n)

-- the refusal with its reason, or what was missed and the values
abbrev pub outcome_text : {E : Type 0} → (E → Option (List ℕ)) → (Words → E) → LogRecord → Option (List ℕ)
outcome_text sh u r =
    cond (r.refusal == 0) (Some (codes "done" ++ missed_text r.missed) ++? values_text sh u r (min r.count 4)) (Some (refusal_text r.refusal r.detail))
