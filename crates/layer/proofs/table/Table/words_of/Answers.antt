use Rattle.std.proofs.Common.{◌<◌, Some, sym, ap, ◌∙◌, arith}
use Rattle.std.proofs.lemmas.List.{get_or-take}
use Rattle.element.specs.Pairs.{pair}
use Rattle.layer.specs.declared.held_write.HeldWrite.{HeldWrite}
use Rattle.layer.specs.Layers.{held_in}
use Rattle.layer.proofs.Holding.{held_found, held_missed, held_below, held_for_at, held_for_none}
use Rattle.layer.proofs.table.Table.words_of.Goals as goal

pub returns-in_err-i : goal.returns-in_err-i
returns-in_err-i c = c.from_residual.ensures ∙ sym (held_for_none c.args.n (held_in c.args.self.now) (held_missed c.args.n (held_in c.args.self.now) c.in_err-i.ensures))

pub returns : goal.returns
returns c =
    let t = c.args.self.now in
    let d : HeldWrite = record { cell = 0; words = pair 0 0 } in
    let at = held_found c.args.n c.in_ok-i.i (held_in t) c.in_ok-i.ensures in
    let k : c.in_ok-i.i < c.args.self.now.count = held_below c.args.n c.in_ok-i.i t.count t.count t.writes at (omega arith) in
    sym (held_for_at c.args.n c.in_ok-i.i (held_in t) d at
    ∙ ap (λ (w : HeldWrite). Some w.words) (get_or-take t.count t.writes c.in_ok-i.i d k))
