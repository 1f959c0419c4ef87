use Rattle.std.proofs.Common.{◌-◌, ◌^◌}
use Rattle.port.proofs.Widening.{Growing}
use Rattle.port.proofs.ports.Ports.upstream.Given as goal

abbrev pub invariant-loop-set : goal.invariant-loop-set
invariant-loop-set l = Growing 8 l.self.ports l.part l.set

abbrev pub decreases-loop-set : goal.decreases-loop-set
decreases-loop-set l = 2 ^ 8 - l.set
