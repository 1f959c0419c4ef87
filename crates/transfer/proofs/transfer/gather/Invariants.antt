use Rattle.std.proofs.Common.{◌≡◌, ◌≤◌, length, take, drop}
use Rattle.cells.specs.Cells.{cell_list}
use Rattle.transfer.specs.Lists.{elements_at}
use Rattle.transfer.specs.Transfers.{Unaltered}
use Rattle.transfer.proofs.transfer.gather.Given as goal

abbrev pub invariant-loop-i : goal.invariant-loop-i
invariant-loop-i g l = record {
  store : Unaltered g.S.Store l.initial.store l.store;
  taken : take l.i l.places ≡ elements_at g.S.Item.Element.blank (g.S.Store.cells l.initial.store) (take l.i (cell_list l.cells));
  left : drop l.i l.places ≡ drop l.i l.initial.places;
  numbers : cell_list l.numbers.bytes.now ≡ drop l.i (cell_list l.cells);
  few : l.i ≤ length (cell_list l.cells);
}
