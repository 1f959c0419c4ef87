use Rattle.std.proofs.Common.{sym, refl, ap, ◌∙◌}
use Rattle.std.specs.Option.{ok_or}
use Rattle.store.specs.declared.fault.StoreFault.TheVariants.{Beyond}
use Rattle.store.proofs.Within.{element_got}
use Rattle.store.proofs.flat.read_at.Goals as goal

pub returns : goal.returns
returns g c =
    record {
      answer = c.ok_or.ensures.value ∙ (ap (λ o. ok_or o Beyond) c.copied.ensures ∙ sym (element_got c.args.cells.now c.args.n c.get.result c.get.ensures.lookup));
      kept = refl;
    }
