use Rattle.std.proofs.Common.{◌≡◌, ◌++◌, drop, vec_items}
use Rattle.stage.specs.First.{laid}
use Rattle.stage.proofs.memory.laid_out.Given as goal

abbrev pub invariant-loop-w : goal.invariant-loop-w
invariant-loop-w l = vec_items l.list ++ laid (drop l.w-index l.words) ≡ laid l.words
