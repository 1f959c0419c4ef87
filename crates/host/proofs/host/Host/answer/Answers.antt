use Rattle.std.proofs.Common.{◌≡◌, ℕ, true, false, List, length, arith, sym, ap, ◌∙◌}
use Rattle.std.proofs.lemmas.Bool.{eq-eqb, ne_eqb}
use Rattle.command.specs.declared.malformed.Malformed.TheVariants.{Length}
use Rattle.command.specs.declared.refusal.Refusal.TheVariants.{Malformed}
use Rattle.isolation.specs.Request.{whole}
use Rattle.isolation.specs.Machine.{host_step, record_step}
use Rattle.isolation.proofs.Steps.{step_torn, step_record}
use Rattle.host.specs.Hosted.{state_of, fits_of, making_of}
use Rattle.host.proofs.Does.{does_same, does_refuse}
use Rattle.host.proofs.host.Host.answer.Goals as goal

pub returns-in_default-clause-does : goal.returns-in_default-clause-does
returns-in_default-clause-does g c = λ q e r.
    let h = c.args.self.now in
    let s = state_of {I = g.row.I.Denot} g.S.Store g.S.Item.Element h in
    let b = fits_of {I = g.row.I.Denot} g.S.Store g.S.Item.Element h in
    let torn : whole q ≡ false = ne_eqb (length q.bytes) 32 (λ n. c.in_default.ensures.cases (sym (ap length e) ∙ n)) in
    does_refuse g.S.Store g.S.Item.Element g.I.InstructionSet h (λ k t. host_step b k q t) (Malformed Length)
    (λ m. step_torn (making_of {S = g.row.S.Denot} g.S.Item.Element g.I.InstructionSet h m) q s b torn)

pub returns-clause-does : goal.returns-clause-does
returns-clause-does g c = λ q e r.
    let h = c.args.self.now in
    let s = state_of {I = g.row.I.Denot} g.S.Store g.S.Item.Element h in
    let b = fits_of {I = g.row.I.Denot} g.S.Store g.S.Item.Element h in
    let whole-is = c.in-Some.ensures.cases in
    let n32 : length q.bytes ≡ 32 = ap length e ∙ whole-is.long in
    let same : q.bytes ≡ c.in-Some.bytes.now = e ∙ sym whole-is.same in
    let w : whole q ≡ true = eq-eqb (length q.bytes) 32 n32 in
    let size : length (g.S.Store.cells h.store) ≡ h.sheet.size = omega arith in
    does_same g.S.Store g.S.Item.Element g.I.InstructionSet h c.answer_record.new.self (λ k t. record_step k c.in-Some.bytes.now t) (λ k t. host_step b k q t) c.answer_record.result
    (λ m. step_record (making_of {S = g.row.S.Denot} g.S.Item.Element g.I.InstructionSet h m) q s b (eq-eqb _ _ size) w r
    ∙ ap (λ (bs : List ℕ). record_step (making_of {S = g.row.S.Denot} g.S.Item.Element g.I.InstructionSet h m) bs s) same)
    c.answer_record.ensures.does
