use Rattle.std.proofs.Common.{refl}
use Rattle.examples.proofs.Chains.{cycles, exits}
use Rattle.examples.proofs.Worked.{worked}
use Rattle.examples.proofs.examples_hold.Goals as goal

pub returns : goal.returns
returns c = record { codes = (refl, (refl, (refl, (refl, (refl, tt))))); cycle = cycles; exit = exits; shows = worked }
