use Rattle.std.proofs.Common.{Ok, sym, ap, ◌∙◌}
use Rattle.std.proofs.lemmas.Bool.{lt-ltb}
use Rattle.part.specs.Sets.{parts}
use Rattle.cells.specs.Cells.{cell_list}
use Rattle.command.specs.Commands.{order_of}
use Rattle.command.specs.Order.{instruct}
use Rattle.isolation.specs.Machine.{is_open, held_by}
use Rattle.isolation.specs.Check.{pass, each, writable, sender, receiver}
use Rattle.host.specs.Parts.{turn_of}
use Rattle.host.specs.Hosted.{making_of}
use Rattle.host.proofs.Verdicts.{told_err, then_pass, turned, instruct_rest, sent, received, port_right}
use Rattle.host.proofs.host.Host.verdict.Goals as goal

pub returns-in_err-first_without-in-Instruct : goal.returns-in_err-first_without-in-Instruct
returns-in_err-first_without-in-Instruct g c = λ m.
    let h = c.args.self.now in
    let p = c.args.part.number in
    let k = making_of {S = g.row.S.Denot} g.S.Item.Element g.I.InstructionSet h m in
    let xs = cell_list c.in-Instruct.args.now in
    let rs = cell_list c.in-Instruct.results.now in
    told_err c.from_residual-in_err-first_without-in-Instruct.result c.in_err-first_without-in-Instruct.field-0.0 c.from_residual-in_err-first_without-in-Instruct.ensures.1
    ∙ sym (turned k (is_open (turn_of h.turn)) (held_by (turn_of h.turn) p) p c.args.part.below (order_of c.args.command) (instruct c.in-Instruct.code xs rs) (Ok tt)
    (ap order_of c.in-Instruct.is) (λ v. c.in_ok-without_turn-in-Instruct.ensures v) ∙ c.in_err-first_without-in-Instruct.ensures (each (writable k p) 8 rs pass))

pub returns-in_ok-first_without-in-Instruct : goal.returns-in_ok-first_without-in-Instruct
returns-in_ok-first_without-in-Instruct g c = λ m.
    let h = c.args.self.now in
    let p = c.args.part.number in
    let k = making_of {S = g.row.S.Denot} g.S.Item.Element g.I.InstructionSet h m in
    sym (instruct_rest k (is_open (turn_of h.turn)) (held_by (turn_of h.turn) p) p c.args.part.below (order_of c.args.command) c.in-Instruct.code (cell_list c.in-Instruct.args.now) (cell_list c.in-Instruct.results.now) c.first_without-in-Instruct.result
    (ap order_of c.in-Instruct.is) (λ v. c.in_ok-without_turn-in-Instruct.ensures v) (λ v. c.in_ok-first_without-in-Instruct.ensures v) c.first_without-in-Instruct.ensures)

pub returns-in_ok-turn_then_port-in-Send : goal.returns-in_ok-turn_then_port-in-Send
returns-in_ok-turn_then_port-in-Send g c = λ m.
    let h = c.args.self.now in
    let p = c.args.part.number in
    let k = making_of {S = g.row.S.Denot} g.S.Item.Element g.I.InstructionSet h m in
    let right = port_right p parts c.may_send-right.result (sender k p c.in-Send.port) (lt-ltb p parts c.args.part.below) c.may_send-right.ensures in
    let r = c.first_without-in-Send.result in
    sym (sent k (is_open (turn_of h.turn)) (held_by (turn_of h.turn) p) p c.args.part.below (order_of c.args.command) c.in-Send.port (cell_list c.in-Send.args.now) c.may_send-right.result (Ok tt)
    (ap order_of c.in-Send.is) right (λ v. c.in_ok-turn_then_port-in-Send.ensures v) ∙ (c.first_without-in-Send.ensures pass ∙ then_pass r))

pub returns-in_ok-turn_then_port-in-Receive : goal.returns-in_ok-turn_then_port-in-Receive
returns-in_ok-turn_then_port-in-Receive g c = λ m.
    let h = c.args.self.now in
    let p = c.args.part.number in
    let k = making_of {S = g.row.S.Denot} g.S.Item.Element g.I.InstructionSet h m in
    let right = port_right p parts c.may_receive-right.result (receiver k p c.in-Receive.port) (lt-ltb p parts c.args.part.below) c.may_receive-right.ensures in
    let r = c.first_without-in-Receive.result in
    sym (received k (is_open (turn_of h.turn)) (held_by (turn_of h.turn) p) p c.args.part.below (order_of c.args.command) c.in-Receive.port (cell_list c.in-Receive.results.now) c.may_receive-right.result (Ok tt)
    (ap order_of c.in-Receive.is) right (λ v. c.in_ok-turn_then_port-in-Receive.ensures v) ∙ (c.first_without-in-Receive.ensures pass ∙ then_pass r))
