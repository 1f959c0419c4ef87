use Rattle.std.proofs.Common.{◌≡◌, ℕ, fold, ◌∙◌, rules}
use Rattle.port.specs.declared.ports.Port.{Port}
use Rattle.port.proofs.Widening.{one, widen_folds}
use Rattle.port.proofs.ports.Ports.widened.Goals as goal

pub returns : goal.returns
returns c =
    let m = c.args.set in
    let ps = c.args.self.now.ports in
    let e : c.fold.result ≡ fold (λ (v : ℕ) (x : Port). one m x v) m ps = search rules in
    e ∙ widen_folds m ps m
