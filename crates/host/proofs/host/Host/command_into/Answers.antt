use Rattle.std.proofs.Common.{◌≡◌, ℕ, Bool, true, false, cond, List, length, replicate, Err, sym, refl, ap, ◌∙◌, arith}
use Rattle.command.specs.declared.malformed.Malformed.TheVariants.{Length}
use Rattle.command.specs.declared.refusal.Refusal.{Refusal}
use Rattle.command.specs.declared.refusal.Refusal.TheVariants.{Malformed, Scratch}
use Rattle.command.specs.declared.log.LogRecord.{LogRecord}
use Rattle.reply.specs.Told.{Told, told}
use Rattle.isolation.specs.Request.{Request, whole, roomy, part, kind, entry, Step}
use Rattle.isolation.specs.Machine.{State}
use Rattle.isolation.proofs.Steps.{rooms, no_room, step_short}
use Rattle.host.specs.Parts.{request_of, left_null}
use Rattle.host.specs.Logged.{record_with, record_of}
use Rattle.host.specs.Hosted.{state_of, fits_of, making_of}
use Rattle.host.proofs.Leading.{commanded}
use Rattle.host.proofs.host.Host.command_into.Goals as goal

abbrev logs : Request → Told → LogRecord
logs q t = record_with q.place (cond (whole q) (part q) 0) (cond (whole q) (kind q) 0) t

nulls : {E : Type 0} (b : Bool) (z : E) (xs ys : List E) → b ≡ true → ys ≡ replicate (length xs) z → ys ≡ left_null b z xs
nulls b z xs ys e h = rw e h

untouched : {E : Type 0} (b : Bool) (z : E) (xs : List E) → b ≡ false → xs ≡ left_null b z xs
untouched b z xs e = rw e

told_short : (b : Bool) → told (Err (cond b Scratch (Malformed Length))) ≡ record { refusal = cond b 6 1; detail = 0; missed = 0; count = 0; words = replicate 8 0 }
told_short true = refl
told_short false = refl

pub returns-then-args-lt8 : goal.returns-then-args-lt8
returns-then-args-lt8 g c =
    let h = c.args.self.now in
    let s = state_of {I = g.row.I.Denot} g.S.Store g.S.Item.Element h in
    let q = request_of c.args.place c.args.bytes.now c.args.args.now c.args.results.now in
    let b = fits_of {I = g.row.I.Denot} g.S.Store g.S.Item.Element h in
    let r : roomy q ≡ false = no_room q c.then-args-lt8.either in
    let e = λ (m : ℕ → g.row.S-Item.Denot). step_short (making_of {S = g.row.S.Denot} g.S.Item.Element g.I.InstructionSet h m) q s b r in
    let why = ap (λ (x : Refusal). told (Err x)) c.short_of.ensures ∙ told_short (whole q) in
    record {
      commanded = commanded g.S.Store g.S.Item.Element g.I.InstructionSet h h q c.logged.result
          (λ m. c.logged.ensures ∙ (ap (logs q) why ∙ sym (ap (λ (t : Step g.row.S-Item.Denot (State g.row.S-Item.Denot)). record_of g.S.Item.Element.packed (entry q t.answer)) (e m))))
          (λ m. sym (ap (λ (t : Step g.row.S-Item.Denot (State g.row.S-Item.Denot)). t.after) (e m))) (λ m. refl) refl;
      cleared = record {
        args = untouched (roomy q) g.S.Item.Element.blank c.args.args.now r;
        results = untouched (roomy q) g.S.Item.Element.blank c.args.results.now r;
      };
      lender = refl;
    }

pub returns : goal.returns
returns g c =
    let h = c.args.self.now in
    let q = request_of c.args.place c.args.bytes.now c.args.args.now c.args.results.now in
    let z = g.S.Item.Element.blank in
    let r : roomy q ≡ true = rooms q c.if-args-lt8.false c.if-results-lt4.false in
    let la : length c.answer-answer.new.args ≡ length c.args.args.now = omega arith in
    let does = c.answer-answer.ensures.does q refl r in
    let lr : length c.answer-answer.new.results ≡ length c.args.results.now = omega arith in
    record {
      commanded = commanded g.S.Store g.S.Item.Element g.I.InstructionSet h c.answer-answer.new.self q c.logged-2.result
          (λ m. c.logged-2.ensures ∙ ap (logs q) (does.answer m))
          does.state does.making does.fits;
      cleared = record {
        args = nulls (roomy q) z c.args.args.now c.clear.new.places r (c.clear.ensures ∙ ap (λ (n : ℕ). replicate n z) la);
        results = nulls (roomy q) z c.args.results.now c.clear-2.new.places r (c.clear-2.ensures ∙ ap (λ (n : ℕ). replicate n z) lr);
      };
      lender = c.answer-answer.ensures.lender;
    }
