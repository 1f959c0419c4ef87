use Rattle.std.proofs.Common.{◌<◌, length, ap, ◌∙◌, arith, length-take}
use Rattle.layer.specs.Holds.{apart}
use Rattle.layer.specs.Layers.{held_in}
use Rattle.layer.proofs.Holding.{held_found, held_missed, put_in_place, put_last, apart_placed}
use Rattle.layer.proofs.table.Table.put.Goals as goal

pub invariant_of-self-clause-distinct : goal.invariant_of-self-clause-distinct
invariant_of-self-clause-distinct c =
    let t = c.args.self.now in
    ap apart (put_in_place t.writes t.count c.in-Some.i c.args.w (held_found c.args.w.cell c.in-Some.i (held_in t) c.in-Some.ensures))
    ∙ apart_placed (held_in t) c.args.w t.distinct

pub bounds-self-self : goal.bounds-self-self
bounds-self-self c =
    let room : length (held_in c.args.self.now) < 16 = c.requires (held_missed c.args.w.cell (held_in c.args.self.now) c.in-None.ensures) in
    omega (arith, length-take c.args.self.now.count c.args.self.now.writes)

pub invariant_of-self-in-None-clause-few : goal.invariant_of-self-in-None-clause-few
invariant_of-self-in-None-clause-few c =
    let room : length (held_in c.args.self.now) < 16 = c.requires (held_missed c.args.w.cell (held_in c.args.self.now) c.in-None.ensures) in
    omega (arith, length-take c.args.self.now.count c.args.self.now.writes)

pub invariant_of-self-in-None-clause-distinct : goal.invariant_of-self-in-None-clause-distinct
invariant_of-self-in-None-clause-distinct c =
    let t = c.args.self.now in
    let none = held_missed c.args.w.cell (held_in t) c.in-None.ensures in
    let room : length (held_in c.args.self.now) < 16 = c.requires none in
    ap apart (put_last t.writes t.count c.args.w none (omega (arith, length-take c.args.self.now.count c.args.self.now.writes)))
    ∙ apart_placed (held_in t) c.args.w t.distinct

pub returns-in-Some : goal.returns-in-Some
returns-in-Some c =
    let t = c.args.self.now in
    put_in_place t.writes t.count c.in-Some.i c.args.w (held_found c.args.w.cell c.in-Some.i (held_in t) c.in-Some.ensures)

pub returns-in-None : goal.returns-in-None
returns-in-None c =
    let t = c.args.self.now in
    let none = held_missed c.args.w.cell (held_in t) c.in-None.ensures in
    let room : length (held_in c.args.self.now) < 16 = c.requires none in
    put_last t.writes t.count c.args.w none (omega (arith, length-take c.args.self.now.count c.args.self.now.writes))
