use Rattle.command.proofs.Asking.{exactly}
use Rattle.command.proofs.decode.decode.Goals as goal

pub returns : goal.returns
returns c = exactly c.args.bytes.now c.checked.result c.checked.ensures
