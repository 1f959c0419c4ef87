use Rattle.element.specs.Levels.{words_level}
use Rattle.element.specs.Heads.{words_head}
use Rattle.store.specs.Packing.{elements}
use Rattle.driver.proofs.calls.kept_of.Goals as goal

pub returns-then-rig : goal.returns-then-rig
returns-then-rig c ws = rw c.if-rig.true (c.new.ensures (elements words_head ws) (record {}))

pub returns-else-rig : goal.returns-else-rig
returns-else-rig c ws = rw c.if-rig.false (c.new-else-rig.ensures (elements words_level ws) (record {}))
