use Rattle.std.proofs.Common.{◌≡◌, ℕ, ◌+◌, ◌-◌, ◌<◌, ◌≤◌, List, [], map, length, take, drop, ap, ◌∙◌, ap₂, arith, rules}
use Rattle.queue.specs.Packed.{elements}
use Rattle.element.specs.declared.words.Words.{Words}
use Rattle.queue.proofs.Front.{front_pop, front_first}
use Rattle.queue.proofs.Unpacked.{first_is}
use Rattle.queue.proofs.port_queue.PortQueue.take.Goals as goal

pub returns-clause-after : goal.returns-clause-after
returns-clause-after c =
    let q = c.args.self.now in
    let k : q.len - 1 < length q.items = omega arith in
    let e : q.len - 1 + 1 ≡ q.len = omega arith in
    ap₂ (λ (ms : List (List Words)) (n : ℕ). record { messages = ms; missed = n })
    (ap (λ xs. map elements (take (q.len - 1) xs)) c.rotate_left.ensures.after ∙ front_pop elements q.items (q.len - 1) k
    ∙ ap (λ (n : ℕ). drop 1 (map elements (take n q.items))) e)
    (search rules)

pub returns-clause-message : goal.returns-clause-message
returns-clause-message c =
    let q = c.args.self.now in
    let p : 0 < q.len = omega arith in
    let f : q.len ≤ length q.items = omega arith in
    front_first elements q.items q.len c.index-self-0.result [] p f ∙ first_is (map elements (take q.len q.items))
