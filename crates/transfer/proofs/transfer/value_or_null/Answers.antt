use Rattle.std.proofs.Common.{◌∙◌, ap₂, arith}
use Rattle.std.specs.Option.{unwrap_or}
use Rattle.transfer.proofs.transfer.value_or_null.Goals as goal

pub returns : goal.returns
returns g c = c.unwrap_or.ensures ∙ (ap₂ unwrap_or c.copied.ensures c.null.ensures ∙ c.get.ensures.lookup.4 (omega arith) g.E.Element.blank)
