use Rattle.std.proofs.Common.{ℕ, cond, eqb, Some, None, ◌∙◌, ap₂}
use Rattle.command.specs.declared.refusal.Refusal.TheVariants.{Size}
use Rattle.host.proofs.Makes.{made_over}
use Rattle.host.proofs.host.Host.make.Goals as goal

pub returns : goal.returns
returns g c =
    let refused = c.misfit-refusal.ensures ∙ ap₂ (λ (a b : ℕ). cond (eqb a b) None (Some Size)) c.len.ensures c.size.ensures.value in
    made_over g.S.Store g.S.Item.Element g.I.InstructionSet c.args.store c.args.set c.args.sheet c.args.ports c.new-kept.result c.resume-host.result c.misfit-refusal.result
    c.resume-host.ensures refused (c.new-kept.ensures (g.S.Store.cells c.args.store) c.args.set)
