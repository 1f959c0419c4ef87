use Rattle.std.proofs.Common.{◌≡◌, ℕ, suc, ◌-◌, ◌≤◌, length, set, refl, ap, ◌∙◌, arith}
use Rattle.cells.specs.Cells.{cell_list}
use Rattle.transfer.proofs.Storing.{stored_none, stored_more, stored_all, each_all}
use Rattle.transfer.proofs.transfer.scatter.Goals as goal

pub loop-i-init : goal.loop-i-init
loop-i-init g c =
    (stored_none g.S.Item.Element.blank (cell_list c.args.cells.now) c.args.values.now (g.S.Store.cells c.args.store.now) _ (omega arith), refl)

pub loop-i-preserved : goal.loop-i-preserved
loop-i-preserved g c =
    let ns = cell_list c.args.cells.now in
    let e : c.loop-i.i ≡ suc (c.loop-i.i - 1) = omega arith in
    let h : c.loop-i.i ≤ length (cell_list c.args.cells.now) = omega arith in (
      stored_more g.S.Item.Element.blank c.value_or_null.result ns c.args.values.now (g.S.Store.cells c.args.store.now)
          (g.S.Store.cells c.loop-i.store) (g.S.Store.cells c.write.new.self) c.loop-i.i (c.loop-i.i - 1) e h
          (c.write.ensures.writes.stored ∙ ap (λ (n : ℕ). set (g.S.Store.cells c.loop-i.store) n c.value_or_null.result) c.cell.ensures)
          c.loop-i.invariant.0 c.value_or_null.ensures,
      c.write.ensures.lender ∙ c.loop-i.invariant.1,
    )

pub returns : goal.returns
returns g c =
    let z = g.S.Item.Element.blank in
    let ns = cell_list c.args.cells.now in
    let xs = g.S.Store.cells c.args.store.now in
    let all = stored_all z ns c.args.values.now xs (g.S.Store.cells c.loop-i.store) c.loop-i.i (omega arith) c.loop-i.invariant.0 in
    record { cells = all; each = each_all z ns c.args.values.now xs (g.S.Store.cells c.loop-i.store) all; lender = c.loop-i.invariant.1 }
