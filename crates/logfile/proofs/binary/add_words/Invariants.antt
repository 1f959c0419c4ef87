use Rattle.std.proofs.Common.{◌≡◌, ◌++◌, take, vec_items}
use Rattle.logfile.specs.Bytes.{word_bytes}
use Rattle.logfile.proofs.binary.add_words.Given as goal

abbrev pub invariant-loop-w : goal.invariant-loop-w
invariant-loop-w l = vec_items l.out ≡ vec_items l.initial.out ++ word_bytes (take l.w-index l.words)
