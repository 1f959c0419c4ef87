use Rattle.std.proofs.Common.{refl}
use Rattle.part.proofs.Ones.{apart, one_part}
use Rattle.part.proofs.row.is_exclusive.Goals as goal

pub returns : goal.returns
returns c = record { value = refl; apart = apart c.args.read c.args.write; one = one_part }
