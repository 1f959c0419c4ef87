use Rattle.std.proofs.Common.{refl}
use Rattle.layer.proofs.Refining.{transparent}
use Rattle.layer.proofs.held.Held.new.Goals as goal

pub returns : goal.returns
returns g c =
    record { below = refl; held = c.new.ensures; transparent = transparent g.S.Item.Element g.met.S.Item.Element.round (g.S.Store.cells c.args.below) }
