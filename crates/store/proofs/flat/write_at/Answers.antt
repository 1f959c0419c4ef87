use Rattle.std.proofs.Common.{refl}
use Rattle.store.proofs.Within.{writes_beyond}
use Rattle.store.proofs.flat.write_at.Goals as goal

pub returns-else-n-cells : goal.returns-else-n-cells
returns-else-n-cells g c = writes_beyond _ _ _ _ c.if-n-cells.false refl
