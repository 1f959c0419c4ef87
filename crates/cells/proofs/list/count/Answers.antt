use Rattle.std.proofs.Common.{sym}
use Rattle.cells.proofs.CellLists.{length-cells}
use Rattle.cells.proofs.list.count.Goals as goal

pub returns : goal.returns
returns c = sym (length-cells c.args.bytes.now)
