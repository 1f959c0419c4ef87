use Rattle.std.proofs.Common.{◌≡◌, ℕ, min, List, length, get_or, sym, ◌∙◌, ap₂, arith}
use Rattle.std.proofs.lemmas.List.{set-get_or}
use Rattle.cells.specs.Cells.{cell_list}
use Rattle.transfer.proofs.Taking.{taken_more, left_more, taken_end, drawn, drawn_out}
use Rattle.transfer.proofs.transfer.gather.Goals as goal

pub loop-i-preserved : goal.loop-i-preserved
loop-i-preserved g c =
    let z = g.S.Item.Element.blank in
    let ns = cell_list c.args.cells.now in
    let xs = g.S.Store.cells c.args.store.now in
    let s = c.loop-i.invariant.store in
    let d = drawn ns (cell_list c.next.new.self.bytes.now) c.loop-i.i c.in-Some.n 0 (sym c.loop-i.invariant.numbers ∙ c.in-Some.ensures.steps) in
    record {
      store = record { cells = c.read_or_null.ensures.store.cells ∙ s.cells; lender = c.read_or_null.ensures.store.lender ∙ s.lender };
      taken = taken_more (λ n. get_or xs n z) ns c.loop-i.places c.loop-i.i c.read_or_null.result d.0 (omega arith) c.loop-i.invariant.taken
          (c.read_or_null.ensures.value ∙ ap₂ (λ (l : List _) (n : ℕ). get_or l n z) s.cells d.1);
      left = left_more c.args.places.now c.loop-i.places c.loop-i.i c.read_or_null.result c.loop-i.invariant.left;
      numbers = d.2;
      few = omega (arith, d.0);
    }

pub returns-in_default-clause-places : goal.returns-in_default-clause-places
returns-in_default-clause-places g c =
    let z = g.S.Item.Element.blank in
    let ns = cell_list c.args.cells.now in
    let xs = g.S.Store.cells c.args.store.now in
    let past = drawn_out ns c.loop-i.i (sym c.loop-i.invariant.numbers ∙ c.in_default.ensures.steps.0) in
    let e : c.loop-i.i ≡ min (length (cell_list c.args.cells.now)) (length c.args.places.now) = omega (arith, past) in
    rw set-get_or (record {
      count = e;
      filled = taken_end (λ n. get_or xs n z) ns c.args.places.now c.loop-i.places c.loop-i.i e c.loop-i.invariant.taken c.loop-i.invariant.left;
    })

pub returns-clause-places : goal.returns-clause-places
returns-clause-places g c =
    let z = g.S.Item.Element.blank in
    let ns = cell_list c.args.cells.now in
    let xs = g.S.Store.cells c.args.store.now in
    let e : c.loop-i.i ≡ min (length (cell_list c.args.cells.now)) (length c.args.places.now) = omega arith in
    record {
      count = omega arith;
      filled = taken_end (λ n. get_or xs n z) ns c.args.places.now c.loop-i.places c.loop-i.i e c.loop-i.invariant.taken c.loop-i.invariant.left;
    }
