use Rattle.std.proofs.Common.{sym, ◌∙◌}
use Rattle.layer.specs.Steps.{layer_of}
use Rattle.layer.proofs.Refining.{length-meaning}
use Rattle.layer.proofs.held.HeldStore.len.Goals as goal

pub returns : goal.returns
returns g c = c.len.ensures ∙ sym (length-meaning g.S.Item.Element (layer_of g.S.Store g.S.Item.Element c.args.self.now))
