use Rattle.std.proofs.Common.{ℕ, eqb, List, length, take, refl, ap, ◌∙◌, ap₂}
use Rattle.sheet.specs.View.{rows_of}
use Rattle.isolation.specs.Tables.{at}
use Rattle.isolation.specs.Machine.{closed}
use Rattle.host.specs.Parts.{saves_of}
use Rattle.host.specs.Hosted.{state_of}
use Rattle.host.proofs.Acts.{saved, all_swaps}
use Rattle.host.proofs.host.Host.save.Goals as goal

pub returns : goal.returns
returns g c =
    let h = c.args.self.now in
    let u = g.S.Item.Element.unpacked in
    let z = g.S.Item.Element.blank in
    let xs = g.S.Store.cells h.store in
    let sw = (rows_of h.sheet).swaps in
    let r = c.swaps.result.now in
    let s = state_of {I = g.row.I.Denot} g.S.Store g.S.Item.Element h in
    record {
      does = record {
        state = λ m. ap₂ (λ (x : ℕ → g.row.S-Item.Denot) (y : ℕ → ℕ → g.row.S-Item.Denot). record { cells = x; save_rows = y; turn = closed; queues = s.queues })
            (ap (at z) c.swap_out-row.ensures.store.cells)
            (ap (saves_of u z sw) c.keep.ensures.kept ∙ saved u z (take 16 r) sw h.rows c.args.part.number c.swap_out-row.result xs (all_swaps r sw c.swaps.ensures.value c.swaps.ensures.few) c.keep.ensures.one c.swap_out-row.ensures.row.each);
        making = λ m. refl;
        fits = ap (λ (l : List g.row.S-Item.Denot). eqb (length l) h.sheet.size) c.swap_out-row.ensures.store.cells;
        answer = λ m. refl;
      };
      lender = c.swap_out-row.ensures.store.lender;
    }
