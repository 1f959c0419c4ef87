use Rattle.std.proofs.Common.{arith}
use Rattle.cells.specs.Cells.{cell_list}
use Rattle.isolation.specs.Tables.{at}
use Rattle.isolation.specs.Machine.{is_open, held_by}
use Rattle.isolation.proofs.Checks.{passed_instruct, passed_send, passed_receive}
use Rattle.host.specs.Parts.{turn_of}
use Rattle.host.specs.Hosted.{making_of}
use Rattle.host.proofs.host.Host.perform.Goals as goal

pub instruct-requires : goal.instruct-requires
instruct-requires g c =
    let h = c.args.self.now in
    let p = c.args.part.number in
    let m = at g.S.Item.Element.blank (g.S.Store.cells h.store) in
    let k = making_of {S = g.row.S.Denot} g.S.Item.Element g.I.InstructionSet h m in
    let few = rw c.in-Instruct.is at c.requires.few in
    let passed = rw c.in-Instruct.is at (c.requires.passed m) in
    record {
      few = omega (arith, few.0, c.requires.args);
      room = c.requires.results;
      fits = c.requires.fits;
      within = passed_instruct k (is_open (turn_of h.turn)) (held_by (turn_of h.turn) p) p c.in-Instruct.code (cell_list c.in-Instruct.xs.now) (cell_list c.in-Instruct.rs.now) passed;
    }

pub send-requires : goal.send-requires
send-requires g c =
    let h = c.args.self.now in
    let p = c.args.part.number in
    let m = at g.S.Item.Element.blank (g.S.Store.cells h.store) in
    let k = making_of {S = g.row.S.Denot} g.S.Item.Element g.I.InstructionSet h m in
    let passed = rw c.in-Send.is at (c.requires.passed m) in
    record {
      few = rw c.in-Send.is at c.requires.few;
      room = omega (arith, c.requires.args);
      port = passed_send k (is_open (turn_of h.turn)) (held_by (turn_of h.turn) p) p c.in-Send.port (cell_list c.in-Send.xs.now) passed;
    }

pub receive-requires : goal.receive-requires
receive-requires g c =
    let h = c.args.self.now in
    let p = c.args.part.number in
    let m = at g.S.Item.Element.blank (g.S.Store.cells h.store) in
    let k = making_of {S = g.row.S.Denot} g.S.Item.Element g.I.InstructionSet h m in
    let passed = rw c.in-Receive.is at (c.requires.passed m) in
    record {
      room = c.requires.results;
      fits = c.requires.fits;
      within = (passed_receive k (is_open (turn_of h.turn)) (held_by (turn_of h.turn) p) p c.in-Receive.port (cell_list c.in-Receive.rs.now) passed).1;
    }

pub returns-in-Restore-clause-does : goal.returns-in-Restore-clause-does
returns-in-Restore-clause-does g c = rw c.in-Restore.is c.restore.ensures.does

pub returns-in-Save-clause-does : goal.returns-in-Save-clause-does
returns-in-Save-clause-does g c = rw c.in-Save.is c.save.ensures.does

pub returns-in-Instruct-clause-does : goal.returns-in-Instruct-clause-does
returns-in-Instruct-clause-does g c = rw c.in-Instruct.is c.instruct.ensures.does

pub returns-in-Send-clause-does : goal.returns-in-Send-clause-does
returns-in-Send-clause-does g c = rw c.in-Send.is c.send.ensures.does

pub returns-in-Receive-clause-does : goal.returns-in-Receive-clause-does
returns-in-Receive-clause-does g c = rw c.in-Receive.is c.receive.ensures.does
