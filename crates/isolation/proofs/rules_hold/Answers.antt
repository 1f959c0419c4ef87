use Rattle.isolation.proofs.Rules.{rules, written}
use Rattle.isolation.proofs.rules_hold.Goals as goal

pub returns : goal.returns
returns g c = record { rules = rules; results = written }
