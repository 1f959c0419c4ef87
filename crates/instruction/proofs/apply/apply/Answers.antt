use Rattle.instruction.proofs.Calls.{applied}
use Rattle.instruction.proofs.apply.apply.Goals as goal

pub returns : goal.returns
returns g c =
    let set = c.args.set.now in
    let code = c.args.code in
    let xs = c.args.args.now in
    record {
      applied = applied (g.I.InstructionSet.meaning set code xs) c.args.places.now c.call.new.places c.call.result
          (g.met.I.InstructionSet.few set code xs) c.call.ensures.called;
      same = c.call.ensures.same;
    }
