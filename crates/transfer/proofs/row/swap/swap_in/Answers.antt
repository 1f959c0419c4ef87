use Rattle.std.proofs.Common.{◌≡◌, ℕ, suc, ◌-◌, ◌<◌, ◌≤◌, length, take, set, sym, refl, ap, ◌∙◌, arith, length-take}
use Rattle.std.proofs.lemmas.List.{get_or-map, get_or-take}
use Rattle.element.specs.Pairs.{pair}
use Rattle.transfer.specs.Rows.{row_of}
use Rattle.transfer.proofs.Storing.{stored_none, stored_more, stored_all, each_all}
use Rattle.transfer.proofs.row.swap.swap_in.Goals as goal

pub loop-i-init : goal.loop-i-init
loop-i-init g c =
    let sw = take 16 c.args.swaps.now in (
      stored_none g.S.Item.Element.blank sw (row_of g.S.Item.Element.unpacked c.args.row) (g.S.Store.cells c.args.store.now) _
          (omega (arith, length-take 16 c.args.swaps.now)),
      refl,
    )

pub loop-i-preserved : goal.loop-i-preserved
loop-i-preserved g c =
    let z = g.S.Item.Element.blank in
    let u = g.S.Item.Element.unpacked in
    let swaps = c.args.swaps.now in
    let sw = take 16 c.args.swaps.now in
    let ws = c.args.row.words in
    let j = c.loop-i.i - 1 in
    let e : c.loop-i.i ≡ suc (c.loop-i.i - 1) = omega arith in
    let h : c.loop-i.i ≤ length (take 16 c.args.swaps.now) = omega (arith, length-take 16 c.args.swaps.now) in
    let k : c.loop-i.i - 1 < length c.args.row.words = omega arith in
    let m : c.loop-i.i - 1 < 16 = omega arith in (
      stored_more z c.unpack-x.result sw (row_of u c.args.row) (g.S.Store.cells c.args.store.now)
          (g.S.Store.cells c.loop-i.store) (g.S.Store.cells c.write.new.self) c.loop-i.i j e h
          (c.write.ensures.writes.stored ∙ ap (λ (n : ℕ). set (g.S.Store.cells c.loop-i.store) n c.unpack-x.result) (sym (get_or-take 16 swaps j 0 m)))
          c.loop-i.invariant.0 (c.unpack-x.ensures ∙ sym (get_or-map u ws j (pair 0 0) z k)),
      c.write.ensures.lender ∙ c.loop-i.invariant.1,
    )

pub returns : goal.returns
returns g c =
    let z = g.S.Item.Element.blank in
    let sw = take 16 c.args.swaps.now in
    let vs = row_of g.S.Item.Element.unpacked c.args.row in
    let xs = g.S.Store.cells c.args.store.now in
    let all = stored_all z sw vs xs (g.S.Store.cells c.loop-i.store) c.loop-i.i (omega arith) c.loop-i.invariant.0 in
    record { cells = all; each = each_all z sw vs xs (g.S.Store.cells c.loop-i.store) all; lender = c.loop-i.invariant.1 }
