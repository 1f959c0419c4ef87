use Rattle.std.proofs.Common.{length}
use Rattle.run.specs.Runs.{requests_of}
use Rattle.run.proofs.LedAll.{ran}
use Rattle.run.proofs.show.run.Goals as goal

pub returns-clause-ran : goal.returns-clause-ran
returns-clause-ran g c =
    ran g.S.Store g.S.Item.Element g.I.InstructionSet c.args.host.now c.play.new.host (requests_of c.args.file (length c.args.args.now) (length c.args.results.now)) c.args.log.now c.play.new.log c.play.ensures.played
