use Rattle.std.proofs.Common.{◌≡◌, length, sym, arith, length-take}
use Rattle.std.proofs.lemmas.Bool.{eq-eqb}
use Rattle.layer.specs.Layers.{held_in}
use Rattle.layer.proofs.Holding.{search_misses}
use Rattle.layer.proofs.table.Table.is_full_for.Goals as goal

pub returns-then-full : goal.returns-then-full
returns-then-full c =
    let many : length (held_in c.args.self.now) ≡ 16 = omega (arith, length-take c.args.self.now.count c.args.self.now.writes) in
    search_misses c.args.n (held_in c.args.self.now) c.find.result c.is_none.result c.find.ensures c.is_none.ensures (sym (eq-eqb _ _ many))
