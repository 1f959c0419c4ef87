use Rattle.std.proofs.Common.{◌≡◌, drop}
use Rattle.cells.specs.Cells.{cell_list}
use Rattle.transfer.specs.Lists.{stored}
use Rattle.transfer.proofs.transfer.scatter.Given as goal

abbrev pub invariant-loop-i : goal.invariant-loop-i
invariant-loop-i g l =
    (g.S.Store.cells l.store ≡ stored g.S.Item.Element.blank (drop l.i (cell_list l.cells)) (drop l.i l.values) (g.S.Store.cells l.initial.store))
    × (g.S.Store.lender l.store ≡ g.S.Store.lender l.initial.store)
