use Rattle.std.proofs.Common.{◌≡◌, ℕ, ◌-◌, ◌≤◌, eqb, List, length, take, sym, refl, ap, ◌∙◌, subst, ap₂}
use Rattle.std.proofs.lemmas.Bool.{eqb-true}
use Rattle.cells.specs.Cells.{cell_list}
use Rattle.queue.specs.Queue.{Queue, first}
use Rattle.isolation.specs.Tables.{at}
use Rattle.isolation.specs.Request.{done}
use Rattle.isolation.specs.Effect.{put}
use Rattle.host.specs.Logged.{told_of}
use Rattle.host.specs.Hosted.{state_of}
use Rattle.host.proofs.Acts.{laid, length-stored, front, told_all}
use Rattle.host.proofs.host.Host.receive.Goals as goal

pub returns : goal.returns
returns g c =
    let h = c.args.self.now in
    let p = g.S.Item.Element.packed in
    let z = g.S.Item.Element.blank in
    let xs = g.S.Store.cells h.store in
    let ys = g.S.Store.cells c.scatter.new.store in
    let rs = cell_list c.args.rs.now in
    let many = c.receive-taken.result.count in
    let s = state_of {I = g.row.I.Denot} g.S.Store g.S.Item.Element h in
    let vs = first (s.queues c.args.port).messages in
    let ws = take (many - 0) c.receive-taken.new.places in
    let got : ws ≡ vs = front many c.receive-taken.new.places vs (c.receive-taken.ensures.given.whole c.requires.room) in
    let short : length ws ≤ 4 = subst (λ (l : List g.row.S-Item.Denot). length l ≤ 4) (sym got) c.receive-taken.ensures.given.few in
    record {
      does = record {
        state = λ m. ap₂ (λ (x : ℕ → g.row.S-Item.Denot) (y : ℕ → Queue g.row.S-Item.Denot). record { cells = x; save_rows = s.save_rows; turn = s.turn; queues = y })
            (laid z rs rs ws xs ys h.sheet.size refl c.requires.within (eqb-true (length xs) h.sheet.size c.requires.fits) c.scatter.ensures.each
            ∙ ap (λ (l : List g.row.S-Item.Denot). put z rs l (at z xs)) got)
            c.receive-taken.ensures.queues.after;
        making = λ m. refl;
        fits = ap (λ (n : ℕ). eqb n h.sheet.size) (ap length c.scatter.ensures.cells ∙ length-stored z rs ws xs);
        answer = λ m. c.values.ensures ∙ (told_all p c.receive-taken.result.missed ws short
            ∙ ap₂ (λ (n : ℕ) (l : List g.row.S-Item.Denot). told_of p (done n l)) c.receive-taken.ensures.given.missed got);
      };
      lender = c.scatter.ensures.lender;
    }
