use Rattle.std.proofs.Common.{◌≡◌, ℕ, ◌<◌, min, List, map, length, set, sym, ap, ◌∙◌, arith}
use mathlib.Core.Path.{fun_ext}
use Rattle.std.proofs.lemmas.List.{length-map, length-take}
use Rattle.element.specs.declared.words.Words.{Words}
use Rattle.queue.specs.Packed.{elements, packed_at, queue_at}
use Rattle.queue.specs.Laid.{laid}
use Rattle.queue.specs.Queue.{Queue, empty, first, taken}
use Rattle.queue.proofs.Laying.{given, given_none, received_all, received_none}
use Rattle.queue.proofs.Unpacked.{changed, first_unpacked, queue_at_lem, queue_past, unpacked_taken}
use Rattle.queue.proofs.queues.Queues.receive.Goals as goal

pub returns-then-port-ge-PORTS : goal.returns-then-port-ge-PORTS
returns-then-port-ge-PORTS g c =
    let u = g.E.Element.unpacked in
    let o = queue_at u c.args.self.now in
    let e : queue_at u c.args.self.now c.args.port ≡ empty = queue_past u c.args.self.now c.args.port c.if-port-ge-PORTS.true in
    record {
      queues = received_all o o c.args.port (received_none o c.args.port e);
      given = given_none (o c.args.port) c.args.places.now e;
    }

pub returns : goal.returns
returns g c =
    let u = g.E.Element.unpacked in
    let qs = c.args.self.now.queues in
    let i = c.args.port in
    let m = c.take-first.result.message in
    let h : c.args.port < length c.args.self.now.queues = omega arith in
    let at_i = queue_at_lem c.args.self.now i c.index-self-port.result c.if-port-ge-PORTS.false h in
    let o = queue_at u c.args.self.now in
    let e : map u (elements m) ≡ first (o i).messages =
    ap (map u) c.take-first.ensures.message
    ∙ (ap (λ (q : Queue Words). map u (first q.messages)) at_i ∙ first_unpacked u (packed_at c.args.self.now i).messages) in
    let n : length (elements m) ≡ length (first (o i).messages) = sym (length-map (elements m) u) ∙ ap length e in
    record {
      queues = received_all o (queue_at u (record { queues = set qs i c.take-first.new.self })) i
          (fun_ext (λ y. changed u c.args.self.now i c.take-first.new.self taken taken c.if-port-ge-PORTS.false h (c.take-first.ensures.after ∙ ap taken at_i) (unpacked_taken u) y));
      given = given (o i) c.args.places.now c.unpack_into-count.new.places (record { count = c.unpack_into-count.result; missed = c.take-first.result.missed })
          (c.unpack_into-count.ensures.places ∙ ap (λ (xs : List _). laid xs c.args.places.now) e)
          (c.unpack_into-count.ensures.count ∙ ap (λ (k : ℕ). min k (length c.args.places.now)) n)
          (c.take-first.ensures.missed ∙ ap (λ (q : Queue Words). q.missed) at_i)
          (omega (arith, n, length-take m.len m.words, m.fits));
    }
