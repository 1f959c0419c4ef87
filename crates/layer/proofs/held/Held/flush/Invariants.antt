use Rattle.std.proofs.Common.{length}
use Rattle.layer.specs.Layers.{held_in}
use Rattle.layer.specs.Steps.{Sends}
use Rattle.layer.proofs.held.Held.flush.Given as goal

-- sending what is left from the store below as it is now makes the whole from the store below as it was
abbrev pub invariant-loop-self : goal.invariant-loop-self
invariant-loop-self g l =
    (z : g.row.S.Denot) → Sends g.S.Store g.S.Item.Element l.self.below (held_in l.self.table) z
    → Sends g.S.Store g.S.Item.Element l.initial.self.below (held_in l.initial.self.table) z

abbrev pub decreases-loop-self : goal.decreases-loop-self
decreases-loop-self g l = length (held_in l.self.table)
