use Rattle.std.proofs.Common.{◌≡◌, ◌+◌, ◌≤◌, length}
use Rattle.setup.specs.Pieces.{lines_of}
use Rattle.rig.specs.Plans.{carried, rig_of}
use Rattle.rig.specs.Views.{plan_of}
use Rattle.rig.proofs.parse.parse.Given as goal

abbrev pub invariant-loop-written : goal.invariant-loop-written
invariant-loop-written l =
    (goal.iterator-loop-written).can_next l.written-iterator
    × (goal.iterator-loop-written).is_finite l.written-iterator
    × (carried (plan_of l.draft) l.line (lines_of l.written-iterator.0.now) ≡ rig_of l.text)
    × (l.line + length (lines_of l.written-iterator.0.now) ≤ length l.text)
