use Rattle.isolation.proofs.OneStep.{one_step}
use Rattle.isolation.proofs.one_step_holds.Goals as goal

pub returns : goal.returns
returns g c = one_step
