use Rattle.std.proofs.Common.{◌≡◌, ℕ, ◌-◌, eqb, List, map, length, take, Ok, Result, sym, refl, ap, ◌∙◌, subst, arith}
use Rattle.std.proofs.lemmas.Bool.{eqb-true}
use Rattle.instruction.specs.declared.fault.SetFault.{SetFault}
use Rattle.instruction.specs.Outcomes.{Stands}
use Rattle.cells.specs.Cells.{cell_list}
use Rattle.isolation.specs.Tables.{at}
use Rattle.isolation.specs.Effect.{Effect, put, settle}
use Rattle.host.specs.Logged.{told_of}
use Rattle.host.specs.Hosted.{state_of, making_with, outcome_of}
use Rattle.host.proofs.Acts.{gathered, laid, length-stored, front, short_front, told_all, was_ok}
use Rattle.host.proofs.host.Host.instruct.Goals as goal

pub returns-clause-does : goal.returns-clause-does
returns-clause-does g c =
    let h = c.args.self.now in
    let p = g.S.Item.Element.packed in
    let z = g.S.Item.Element.blank in
    let xs = g.S.Store.cells h.store in
    let ys = g.S.Store.cells c.scatter.new.store in
    let ns = cell_list c.args.xs.now in
    let rs = cell_list c.args.rs.now in
    let many = c.in_ok-many.many in
    let s = state_of {I = g.row.I.Denot} g.S.Store g.S.Item.Element h in
    let f = g.I.InstructionSet.meaning h.set c.args.code in
    let vs = take (many - 0) c.apply.new.places in
    let same = c.gather-n.ensures.store.cells in
    let before = g.S.Store.cells c.gather-n.new.store in
    let got = gathered z xs ns c.args.args.now c.gather-n.new.places c.gather-n.result c.requires.few c.gather-n.ensures.places.count c.gather-n.ensures.places.filled in
    let stands = subst (λ (r : Result ℕ SetFault). Stands (f (take (c.gather-n.result - 0) c.gather-n.new.places)) c.args.results.now c.apply.new.places r) (was_ok _ c.apply.result c.map_err.result many c.map_err.ensures.cases c.in_ok-many.was) (c.apply.ensures.applied.enough (omega arith)) in
    let meant : f (map (at z xs) ns) ≡ Ok vs = ap f (sym got) ∙ (stands.0 ∙ ap Ok (sym (front many c.apply.new.places (take many c.apply.new.places) refl))) in
    let done' = ap (λ (o : Result (List g.row.S-Item.Denot) SetFault). settle z (outcome_of o) rs (at z xs) s.queues) meant in
    let written : at z ys ≡ put z rs vs (at z xs) =
    laid z rs rs vs before ys h.sheet.size refl c.requires.within (ap length same ∙ eqb-true (length xs) h.sheet.size c.requires.fits) c.scatter.ensures.each
    ∙ ap (λ (l : List g.row.S-Item.Denot). put z rs vs (at z l)) same in
    record {
      state = λ m. ap (λ (x : ℕ → g.row.S-Item.Denot). record { cells = x; save_rows = s.save_rows; turn = s.turn; queues = s.queues }) written
          ∙ ap (λ (e : Effect g.row.S-Item.Denot). record { cells = e.cells; save_rows = s.save_rows; turn = s.turn; queues = e.queues }) (sym done');
      making = λ m. ap (λ (t : ℕ → List g.row.S-Item.Denot → Result (List g.row.S-Item.Denot) SetFault). making_with z t h.sheet h.ports m) c.apply.ensures.same;
      fits = ap (λ (n : ℕ). eqb n h.sheet.size) (ap length c.scatter.ensures.cells ∙ (length-stored z rs vs before ∙ ap length same));
      answer = λ m. c.values.ensures ∙ (told_all p 0 vs (short_front many c.apply.new.places stands.1)
          ∙ ap (λ (e : Effect g.row.S-Item.Denot). told_of p e.answer) (sym done'));
    }
