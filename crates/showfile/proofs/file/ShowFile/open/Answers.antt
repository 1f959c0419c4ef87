use Rattle.showfile.proofs.Exact.{exactly}
use Rattle.showfile.proofs.file.ShowFile.open.Goals as goal

pub returns : goal.returns
returns c = exactly c.args.bytes.now c.checked.result c.checked.ensures
