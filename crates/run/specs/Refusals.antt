-- The numbers of the refusals of a run. Assumes nothing.
use Rattle.std.specs.Prelude.{ℕ}
use Rattle.run.specs.declared.refusal.RunRefusal.{RunRefusal}
use Rattle.run.specs.declared.refusal.RunRefusal.TheVariants.{Scratch, Log}

abbrev pub number_of : RunRefusal → ℕ
number_of Scratch = 6
number_of Log = 5
