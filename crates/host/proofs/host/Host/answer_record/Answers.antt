use Rattle.std.proofs.Common.{◌≡◌, ℕ, sym, ap, ◌∙◌, subst}
use Rattle.command.specs.declared.refusal.Refusal.TheVariants.{Part}
use Rattle.command.specs.Commands.{order_of, decoded_of}
use Rattle.command.specs.Order.{decoded}
use Rattle.command.specs.Shape.{part_of}
use Rattle.command.specs.Answers.{refusal_number, refusal_detail}
use Rattle.command.proofs.Shapes.{ordered_whole}
use Rattle.isolation.specs.Check.{pass, fail, check}
use Rattle.isolation.specs.Machine.{is_open, held_by, act, record_step}
use Rattle.isolation.proofs.Steps.{step_fail, step_pass}
use Rattle.host.specs.Parts.{turn_of}
use Rattle.host.specs.Hosted.{state_of, making_of}
use Rattle.host.specs.Steps.{Does}
use Rattle.host.proofs.Acts.{part_is}
use Rattle.host.proofs.Does.{does_same, does_fail}
use Rattle.host.proofs.host.Host.answer_record.Goals as goal

pub returns-in_err-verdict-clause-does : goal.returns-in_err-verdict-clause-does
returns-in_err-verdict-clause-does g c =
    let h = c.args.self.now in
    let bs = c.args.bytes.now in
    let was = c.in_ok-command.was in
    let o : order_of c.in_ok-command.command ≡ decoded bs = sym (ap decoded_of was) ∙ (c.decode.ensures.order ∙ ordered_whole bs c.told-bytes) in
    let there : c.in_ok-part.part.number ≡ part_of bs = part_is c.new.result c.in_ok-part.part Part (part_of bs) c.in_ok-part.ensures.value c.new.ensures.value in
    let why = c.in_err-verdict.field-0.0 in
    does_fail g.S.Store g.S.Item.Element g.I.InstructionSet h (λ k s. record_step k bs s) c.from_residual-in_err-verdict.result why c.from_residual-in_err-verdict.ensures.1
    (λ m.
    let k = making_of {S = g.row.S.Denot} g.S.Item.Element g.I.InstructionSet h m in
    step_fail k bs (state_of {I = g.row.I.Denot} g.S.Store g.S.Item.Element h) (order_of c.in_ok-command.command) (refusal_number why) (refusal_detail why) o
    (subst (λ (p : ℕ). fail (refusal_number why) (refusal_detail why) ≡ check k (is_open (turn_of h.turn)) (held_by (turn_of h.turn) p) p (order_of c.in_ok-command.command)) there (c.in_err-verdict.ensures m)))

pub perform-requires : goal.perform-requires
perform-requires g c =
    let was = c.in_ok-command.was in
    record {
      few = (c.decode.ensures.asks c.in_ok-command.command was).1;
      args = c.requires.args;
      results = c.requires.results;
      fits = c.requires.fits;
      passed = λ m. sym (c.in_ok-verdict.ensures m);
    }

pub returns-clause-does : goal.returns-clause-does
returns-clause-does g c =
    let h = c.args.self.now in
    let bs = c.args.bytes.now in
    let was = c.in_ok-command.was in
    let o : order_of c.in_ok-command.command ≡ decoded bs = sym (ap decoded_of was) ∙ (c.decode.ensures.order ∙ ordered_whole bs c.told-bytes) in
    let there : c.in_ok-part.part.number ≡ part_of bs = part_is c.new.result c.in_ok-part.part Part (part_of bs) c.in_ok-part.ensures.value c.new.ensures.value in
    does_same g.S.Store g.S.Item.Element g.I.InstructionSet h c.perform.new.self (λ k s. act k pass (part_of bs) (order_of c.in_ok-command.command) s) (λ k s. record_step k bs s) c.perform.result
    (λ m.
    let k = making_of {S = g.row.S.Denot} g.S.Item.Element g.I.InstructionSet h m in
    step_pass k bs (state_of {I = g.row.I.Denot} g.S.Store g.S.Item.Element h) (order_of c.in_ok-command.command) o
    (subst (λ (p : ℕ). pass ≡ check k (is_open (turn_of h.turn)) (held_by (turn_of h.turn) p) p (order_of c.in_ok-command.command)) there (c.in_ok-verdict.ensures m)))
    (subst (λ (p : ℕ). Does g.S.Store g.S.Item.Element g.I.InstructionSet h c.perform.new.self (λ k s. act k pass p (order_of c.in_ok-command.command) s) c.perform.result) there c.perform.ensures.does)
