use Rattle.std.proofs.Common.{◌≡◌, List, ℕ, ◌+◌, ◌++◌, Option, Some, Ok, codes, refl, sym, ap, ap₂, ◌∙◌, subst, add-one}
use Rattle.std.specs.Fmt.{DisplaysOnOk, ◌++?◌}
use Rattle.std.proofs.Output.{then_text_assoc, displays_on_IsOk_append, displays_on_ok_of_eq}
use Rattle.report.specs.Outcomes.{before, value_at, values_text, missed_text}
use Rattle.report.proofs.outcome.OutcomeDisplay.fmt.Goals as goal

pub loop-i-preserved : goal.loop-i-preserved
loop-i-preserved g c =
    let sh = g.E.Display.output in
    let u = g.E.Element.unpacked in
    let r = c.args.self.now.logged in
    let i = c.loop-i.i in
    let done : Option (List ℕ) = Some (codes "done" ++ missed_text r.missed) in
    let value : Some c.before-before.result.now ++? sh c.value_at-x.result ≡ Some (before i) ++? sh (value_at u r i) = ap₂ (λ b x. Some b ++? sh x) c.before-before.ensures c.value_at-x.ensures in
    let text : (done ++? values_text sh u r i) ++? (Some c.before-before.result.now ++? sh c.value_at-x.result) ≡ done ++? values_text sh u r (i + 1) =
    ap (λ v. (done ++? values_text sh u r i) ++? v) value ∙ then_text_assoc done (values_text sh u r i) (Some (before i) ++? sh (value_at u r i))
    ∙ ap (λ n. done ++? values_text sh u r n) (sym (add-one i)) in
    displays_on_ok_of_eq g.W.Write.write_str_gives _ c.write-in-loop-i.new.self (Ok tt) _ _ text
    (subst (λ s. DisplaysOnOk g.W.Write.write_str_gives c.args.f.now s ((done ++? values_text sh u r i) ++? (Some c.before-before.result.now ++? sh c.value_at-x.result)) c.write-in-loop-i.new.self)
    c.in_ok-write-2.was
    (displays_on_IsOk_append _ _ _ _ (Ok tt) _ _ _ (λ ok. refl) c.loop-i.invariant c.write-in-loop-i.ensures.writes))
