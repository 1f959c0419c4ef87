use Rattle.std.proofs.Common.{ℕ, ◌-◌, ◌≤◌, eqb, List, map, length, take, sym, refl, ap, ◌∙◌, subst, ap₂, arith}
use lib.ListN.{length-map}
use Rattle.cells.specs.Cells.{cell_list}
use Rattle.queue.specs.Queue.{Queue, appended}
use Rattle.isolation.specs.Tables.{at, change}
use Rattle.isolation.specs.Request.{done}
use Rattle.host.specs.Logged.{told_of}
use Rattle.host.specs.Hosted.{state_of}
use Rattle.host.proofs.Acts.{gathered, sent_all, told_all}
use Rattle.host.proofs.host.Host.send.Goals as goal

pub returns : goal.returns
returns g c =
    let h = c.args.self.now in
    let p = g.S.Item.Element.packed in
    let z = g.S.Item.Element.blank in
    let xs = g.S.Store.cells h.store in
    let ns = cell_list c.args.xs.now in
    let s = state_of {I = g.row.I.Denot} g.S.Store g.S.Item.Element h in
    let vs = take (c.gather-n.result - 0) c.gather-n.new.places in
    let got = gathered z xs ns c.args.args.now c.gather-n.new.places c.gather-n.result (omega arith) c.gather-n.ensures.places.count c.gather-n.ensures.places.filled in
    let few : length (map (at z xs) ns) ≤ 4 = rw length-map c.requires.few in
    let short : length vs ≤ 4 = subst (λ (l : List g.row.S-Item.Denot). length l ≤ 4) (sym got) few in
    record {
      does = record {
        state = λ m. ap₂ (λ (x : ℕ → g.row.S-Item.Denot) (y : ℕ → Queue g.row.S-Item.Denot). record { cells = x; save_rows = s.save_rows; turn = s.turn; queues = y })
            (ap (at z) c.gather-n.ensures.store.cells)
            (c.send.ensures.sent.after ∙ (sent_all c.args.port vs s.queues c.requires.port short ∙ ap (λ (l : List g.row.S-Item.Denot). change s.queues c.args.port (appended l)) got));
        making = λ m. refl;
        fits = ap (λ (l : List g.row.S-Item.Denot). eqb (length l) h.sheet.size) c.gather-n.ensures.store.cells;
        answer = λ m. c.values.ensures ∙ (told_all p 0 vs short ∙ ap (λ (l : List g.row.S-Item.Denot). told_of p (done 0 l)) got);
      };
      lender = c.gather-n.ensures.store.lender;
    }
