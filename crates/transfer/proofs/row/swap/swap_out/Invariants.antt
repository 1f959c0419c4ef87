use Rattle.std.proofs.Common.{◌≡◌, ◌≤◌, map, length, get_or, take, drop, replicate}
use Rattle.element.specs.Pairs.{pair}
use Rattle.transfer.specs.Transfers.{Unaltered}
use Rattle.transfer.proofs.row.swap.swap_out.Given as goal

abbrev pub invariant-loop-i : goal.invariant-loop-i
invariant-loop-i g l = record {
  store : Unaltered g.S.Store l.initial.store l.store;
  taken : take l.i l.words-items ≡ map (λ n. g.S.Item.Element.packed (get_or (g.S.Store.cells l.initial.store) n g.S.Item.Element.blank)) (take l.i (take 16 l.swaps));
  left : drop l.i l.words-items ≡ drop l.i (replicate 16 (pair 0 0));
  whole : length l.words-items ≡ 16;
  few : l.i ≤ length l.swaps;
}
