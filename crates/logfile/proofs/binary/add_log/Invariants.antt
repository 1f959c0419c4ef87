use Rattle.std.proofs.Common.{◌≡◌, ◌++◌, take, vec_items}
use Rattle.logfile.specs.Bytes.{log_bytes}
use Rattle.logfile.proofs.binary.add_log.Given as goal

abbrev pub invariant-loop-r : goal.invariant-loop-r
invariant-loop-r l = vec_items l.out ≡ vec_items l.initial.out ++ log_bytes (take l.r-index l.log)
