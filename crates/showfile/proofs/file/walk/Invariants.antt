use Rattle.std.proofs.Common.{◌≡◌, ◌<◌}
use Rattle.showfile.specs.Chain.{records}
use Rattle.showfile.proofs.Cycle.{place, Goes}
use Rattle.showfile.proofs.file.walk.Given as goal

abbrev pub invariant-loop-count : goal.invariant-loop-count
invariant-loop-count l =
    Goes l.bytes l.start l.count × (l.at ≡ place l.bytes l.start l.count) × (l.at < records l.bytes)
