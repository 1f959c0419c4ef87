-- Records of a log. Assumes nothing.
use Rattle.std.specs.Prelude.{ℕ, not, List, ◌==◌, count_by}
use Rattle.command.specs.declared.log.LogRecord.{LogRecord}

-- how many records of a log have a refusal
abbrev pub refusals : List LogRecord → ℕ
refusals log = count_by (λ r. not (r.refusal == 0)) log
