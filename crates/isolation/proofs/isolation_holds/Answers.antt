use Rattle.isolation.proofs.History.{isolated, isolated_answer}
use Rattle.isolation.proofs.isolation_holds.Goals as goal

pub returns : goal.returns
returns g c = record { runs = isolated; answers = isolated_answer }
