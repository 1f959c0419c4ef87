use Rattle.std.proofs.Common.{◌≡◌, ◌<◌, List, map, length, take, set, ap, ◌∙◌, arith}
use mathlib.Core.Path.{fun_ext}
use Rattle.std.proofs.lemmas.Bool.{lt-ltb, le-ltb}
use Rattle.queue.specs.Packed.{elements, queue_at, unpacked_by}
use Rattle.queue.specs.Queue.{appended}
use Rattle.queue.proofs.Laying.{sent_all}
use Rattle.queue.proofs.Runs.{last_eight_lem}
use Rattle.queue.proofs.Unpacked.{changed, queue_at_lem, unpack_all, unpacked_appended}
use Rattle.queue.proofs.queues.Queues.send.Goals as goal

pub returns-then-port-ge-PORTS : goal.returns-then-port-ge-PORTS
returns-then-port-ge-PORTS g c =
    let o = queue_at g.E.Element.unpacked c.args.self.now in
    record {
      sent = sent_all o o c.args.port c.args.values.now (fun_ext (λ y. rw (le-ltb c.args.port 16 c.if-port-ge-PORTS.true)));
      run = last_eight_lem;
    }

pub returns : goal.returns
returns g c =
    let p = g.E.Element.packed in
    let u = g.E.Element.unpacked in
    let vs = c.args.values.now in
    let qs = c.args.self.now.queues in
    let m = c.of-message.result in
    let i = c.args.port in
    let h : c.args.port < length c.args.self.now.queues = omega arith in
    let back : map u (elements m) ≡ take 4 vs = ap (map u) c.of-message.ensures ∙ unpack_all p u g.met.E.Element.round (take 4 vs) in
    record {
      sent = sent_all (queue_at u c.args.self.now) (queue_at u (record { queues = set qs i c.append.new.self })) i vs
          (fun_ext (λ y. rw (lt-ltb c.args.port 16 c.if-port-ge-PORTS.false)
          (changed u c.args.self.now i c.append.new.self (appended (elements m)) (appended (take 4 vs)) c.if-port-ge-PORTS.false h
          (c.append.ensures ∙ ap (appended (elements m)) (queue_at_lem c.args.self.now i c.index-self-port.result c.if-port-ge-PORTS.false h))
          (λ o. unpacked_appended u (elements m) o ∙ ap (λ (xs : List _). appended xs (unpacked_by u o)) back) y)));
      run = last_eight_lem;
    }
