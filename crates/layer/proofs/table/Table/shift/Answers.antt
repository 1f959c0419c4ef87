use Rattle.std.proofs.Common.{◌<◌, arith, length-take}
use Rattle.layer.proofs.Holding.{split_first, apart_rest}
use Rattle.layer.proofs.table.Table.shift.Goals as goal

pub invariant_of-self-clause-distinct : goal.invariant_of-self-clause-distinct
invariant_of-self-clause-distinct c =
    let t = c.args.self.now in
    let some : 0 < c.args.self.now.count = omega (arith, length-take c.args.self.now.count c.args.self.now.writes, c.requires) in
    apart_rest t.writes c.rotate_left.new.self t.count some (omega arith) c.rotate_left.ensures.after t.distinct

pub returns : goal.returns
returns c =
    let t = c.args.self.now in
    let some : 0 < c.args.self.now.count = omega (arith, length-take c.args.self.now.count c.args.self.now.writes, c.requires) in
    split_first t.writes c.rotate_left.new.self t.count _ some (omega arith) c.rotate_left.ensures.after
