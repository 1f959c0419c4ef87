use Rattle.std.proofs.Common.{sym, ◌∙◌, arith}
use Rattle.std.proofs.lemmas.Bool.{lt-ltb}
use Rattle.port.specs.Sets.{sends_of, receives_of}
use Rattle.port.proofs.Widening.{growing_start, growing_more, growing_end, reach, widen_above}
use Rattle.port.proofs.ports.Ports.upstream.Goals as goal

pub loop-set-init : goal.loop-set-init
loop-set-init c =
    growing_start 8 c.args.self.now.ports c.args.part c.single-set.result (rw (lt-ltb c.args.part 8 c.if-part-ge-PARTS.false) at c.single-set.ensures)

pub returns-then-wider-set : goal.returns-then-wider-set
returns-then-wider-set c =
    let s = c.args.self.now in
    let m = c.loop-set.set in
    reach 8 (sends_of s) (receives_of s) c.args.part m c.if-part-ge-PARTS.false
    (growing_end 8 s.ports c.args.part m s.whole (omega arith) c.loop-set.invariant (sym c.widened-wider.ensures ∙ c.if-wider-set.true))

pub loop-set-smaller : goal.loop-set-smaller
loop-set-smaller c = omega (arith, c.widened-wider.ensures, widen_above c.loop-set.set c.args.self.now.ports c.loop-set.set)

pub loop-set-preserved : goal.loop-set-preserved
loop-set-preserved c =
    let ps = c.args.self.now.ports in
    let m = c.loop-set.set in
    let e = c.widened-wider.ensures in
    growing_more 8 ps c.args.part m c.args.self.now.whole (omega (arith, e, widen_above m ps m)) c.loop-set.invariant c.widened-wider.result e (omega arith)
