use Rattle.std.proofs.Common.{◌≡◌, rules, refl, ap, ◌∙◌, arith}
use Rattle.rig.proofs.Lines.{line_count}
use Rattle.rig.proofs.Order.{asked_lem}
use Rattle.rig.proofs.parse.parse.Goals as goal

pub loop-written-init : goal.loop-written-init
loop-written-init c =
    let e : c.into_iter-written-iterator.result.0.now ≡ c.args.text.now = ap (λ x. x.0.now) c.into_iter-written-iterator.ensures.into_iter_gives ∙ c.as_bytes.ensures.value in
    (tt, tt, rw (e, c.new-draft.ensures) refl, rw e (omega (arith, line_count c.args.text.now)))

pub returns-clause-asked : goal.returns-clause-asked
returns-clause-asked c = asked_lem c.args.text.now c.map_err-2.result (search rules)
