use Rattle.std.proofs.Common.{◌≡◌, ℕ, eqb, length, sym, refl, ap, ◌∙◌, ap₂}
use Rattle.element.specs.Pairs.{pair}
use Rattle.sheet.specs.View.{rows_of}
use Rattle.queue.specs.Queue.{Queue}
use Rattle.isolation.specs.Tables.{at}
use Rattle.isolation.specs.Machine.{closed}
use Rattle.isolation.proofs.History.{isolated}
use Rattle.host.proofs.Leading.{exclusive_of}
use Rattle.host.proofs.Makes.{rows_made, queues_made, no_refusal}
use Rattle.host.proofs.host.Kept.new.Goals as goal

pub returns : goal.returns
returns g c xs set =
    let u = g.E.Element.unpacked in
    let z = g.E.Element.blank in
    let sheet = c.args.sheet in
    let m = at z xs in
    let null : u (pair 0 0) ≡ z = ap u (sym g.met.E.Element.zero) ∙ g.met.E.Element.round z in
    let state = ap₂ (λ (x : ℕ → ℕ → g.row.E.Denot) (y : ℕ → Queue g.row.E.Denot). record { cells = m; save_rows = x; turn = closed; queues = y })
    (rows_made u z (rows_of sheet).swaps c.blank-rows.result null c.blank-rows.ensures) (queues_made u c.new.result c.new.ensures) in
    record {
      refusal = refl;
      kept = refl;
      making = refl;
      state = state;
      isolated = isolated _ (exclusive_of z (g.I.InstructionSet.meaning set) sheet c.args.ports m);
      led = λ none. record { making = refl; accepted = no_refusal (eqb (length xs) sheet.size) none; state = state };
    }
