use Rattle.std.proofs.Common.{ℕ, eqb, length, get_or, take, refl, ap, ◌∙◌, subst}
use Rattle.std.proofs.lemmas.Bool.{eqb-true}
use Rattle.cells.specs.Cells.{Within}
use Rattle.sheet.specs.View.{rows_of}
use Rattle.transfer.specs.Rows.{row_of}
use Rattle.isolation.specs.Machine.{opened}
use Rattle.host.specs.Parts.{no_row}
use Rattle.host.specs.Hosted.{state_of}
use Rattle.host.proofs.Acts.{laid, all_swaps, length-stored}
use Rattle.host.proofs.host.Host.restore.Goals as goal

pub returns : goal.returns
returns g c =
    let h = c.args.self.now in
    let z = g.S.Item.Element.blank in
    let xs = g.S.Store.cells h.store in
    let sw = (rows_of h.sheet).swaps in
    let vs = row_of g.S.Item.Element.unpacked (get_or h.rows c.args.part.number no_row) in
    let s = state_of {I = g.row.I.Denot} g.S.Store g.S.Item.Element h in
    let r = c.swaps.result.now in
    record {
      does = record {
        state = λ m. ap (λ (t : ℕ → g.row.S-Item.Denot). record { cells = t; save_rows = s.save_rows; turn = opened c.args.part.number; queues = s.queues })
            (laid z (take 16 r) sw vs xs (g.S.Store.cells c.swap_in.new.store) h.sheet.size
            (all_swaps r sw c.swaps.ensures.value c.swaps.ensures.few) (subst (Within h.sheet.size) c.swaps.ensures.value c.swaps.ensures.within)
            (eqb-true (length xs) h.sheet.size c.requires.fits) c.swap_in.ensures.each);
        making = λ m. refl;
        fits = ap (λ (n : ℕ). eqb n h.sheet.size) (ap length c.swap_in.ensures.cells ∙ length-stored z (take 16 r) vs xs);
        answer = λ m. refl;
      };
      lender = c.swap_in.ensures.lender;
    }
