use Rattle.std.proofs.Common.{sym}
use Rattle.store.proofs.Pairing.{length-elements}
use Rattle.store.proofs.packed.PackedStore.len.Goals as goal

pub returns : goal.returns
returns g c = sym (length-elements g.E.Element.unpacked _)
