use Rattle.std.proofs.Common.{◌≡◌, map, take, drop}
use Rattle.queue.specs.Laid.{Computes}
use Rattle.queue.proofs.places.lay.Given as goal

abbrev pub invariant-loop-i : goal.invariant-loop-i
invariant-loop-i g l = record {
  done : (h : g.row.A.Denot → g.row.B.Denot) → Computes (goal.F-post g l.change) h → take l.i l.places ≡ map h (take l.i l.values);
  rest : drop l.i l.places ≡ drop l.i l.initial.places;
}
