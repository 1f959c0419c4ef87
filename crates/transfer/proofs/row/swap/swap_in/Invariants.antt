use Rattle.std.proofs.Common.{◌≡◌, take, drop}
use Rattle.transfer.specs.Lists.{stored}
use Rattle.transfer.specs.Rows.{row_of}
use Rattle.transfer.proofs.row.swap.swap_in.Given as goal

abbrev pub invariant-loop-i : goal.invariant-loop-i
invariant-loop-i g l =
    (g.S.Store.cells l.store ≡ stored g.S.Item.Element.blank (drop l.i (take 16 l.swaps)) (drop l.i (row_of g.S.Item.Element.unpacked l.row)) (g.S.Store.cells l.initial.store))
    × (g.S.Store.lender l.store ≡ g.S.Store.lender l.initial.store)
