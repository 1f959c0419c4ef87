use Rattle.std.proofs.Common.{◌≡◌, ℕ, ◌+◌, ◌<◌, List, ◌++◌, length, get_or, take, sym, ap, ◌∙◌}
use Rattle.std.proofs.lemmas.List.{take_more, flat_map_more}
use Rattle.command.specs.declared.log.LogRecord.{LogRecord}
use Rattle.logfile.specs.Bytes.{bytes_of, log_bytes}
use Rattle.logfile.proofs.binary.add_log.Goals as goal

-- one more record behind those that were added
record_more : (start out new : List ℕ) (log : List LogRecord) (i : ℕ) (d : LogRecord) → i < length log → out ≡ start ++ log_bytes (take i log) → new ≡ out ++ bytes_of (get_or log i d) → new ≡ start ++ log_bytes (take (i + 1) log)
record_more start out new log i d h e f =
    f ∙ ap (λ v. v ++ bytes_of (get_or log i d)) e ∙ flat_map_more bytes_of start (take i log) (get_or log i d)
    ∙ ap (λ rs. start ++ log_bytes rs) (sym (take_more log i d h))

pub loop-r-preserved : goal.loop-r-preserved
loop-r-preserved c = record_more _ _ _ c.args.log.now c.loop-r.r-index _ c.loop-r-test.true c.loop-r.invariant c.in_ok-add_record.ensures
