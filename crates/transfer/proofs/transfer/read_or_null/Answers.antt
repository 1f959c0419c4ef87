use Rattle.std.proofs.Common.{◌∙◌, ap₂}
use Rattle.std.specs.Result.{result_unwrap_or}
use Rattle.store.proofs.Within.{element_or}
use Rattle.transfer.proofs.transfer.read_or_null.Goals as goal

pub returns : goal.returns
returns g c =
    record {
      store = record { cells = c.read_only.ensures.cells; lender = c.read_only.ensures.lender };
      value = c.unwrap_or.ensures ∙ (ap₂ result_unwrap_or c.read_only.ensures.answer c.null.ensures ∙ element_or (g.S.Store.cells c.args.store.now) c.args.n g.S.Item.Element.blank);
    }
