use Rattle.std.proofs.Common.{◌≡◌, ◌≤◌, length, take}
use Rattle.store.proofs.Going.{Going}
use Rattle.store.proofs.replay.replay.Given as goal

abbrev pub invariant-loop-i : goal.invariant-loop-i
invariant-loop-i g l = record {
  going : Going (g.S.Store.cells l.initial.store) (g.S.Store.cells l.store) (take (length l.initial.places) l.accesses) l.initial.places l.places l.i;
  lender : g.S.Store.lender l.store ≡ g.S.Store.lender l.initial.store;
  few : l.i ≤ length l.accesses;
}
