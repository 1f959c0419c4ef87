use Rattle.std.proofs.Common.{◌≡◌, ℕ, ◌<◌, ◌≤◌, List, [], ◌∷◌, ◌++◌, map, length, take, drop, set, sym, ap, ◌∙◌, ap₂, arith, rules}
use Rattle.queue.specs.Packed.{elements, messages_of}
use Rattle.element.specs.declared.words.Words.{Words}
use Rattle.queue.proofs.Front.{front_length, front_push, front_shift}
use Rattle.queue.proofs.Runs.{appended_room, appended_full}
use Rattle.queue.proofs.port_queue.PortQueue.append.Goals as goal

pub returns-then-n-lt-MESSAGES : goal.returns-then-n-lt-MESSAGES
returns-then-n-lt-MESSAGES c =
    let q = c.args.self.now in
    let f : q.len < length q.items = omega arith in
    let f' : q.len ≤ length q.items = omega arith in
    let l : length (map elements (take q.len q.items)) < 8 = rw (front_length elements q.items q.len f') c.if-n-lt-MESSAGES.true in
    ap (λ (ms : List (List Words)). record { messages = ms; missed = q.missed }) (front_push elements q.items q.len c.args.message f)
    ∙ sym (appended_room (elements c.args.message) (messages_of q) l)

pub returns-else-n-lt-MESSAGES : goal.returns-else-n-lt-MESSAGES
returns-else-n-lt-MESSAGES c =
    let q = c.args.self.now in
    let e : q.len ≡ 8 = omega arith in
    let f : 7 < length q.items = omega arith in
    let f' : q.len ≤ length q.items = omega arith in
    let l : 8 ≤ length (map elements (take q.len q.items)) = rw (front_length elements q.items q.len f') (omega arith) in
    let t : map elements (take q.len (set c.rotate_left.new.self 7 c.args.message)) ≡ drop 1 (map elements (take q.len q.items)) ++ elements c.args.message ∷ [] =
    rw (e, c.rotate_left.ensures.after) (front_shift elements q.items 7 c.args.message f) in
    ap₂ (λ (ms : List (List Words)) (n : ℕ). record { messages = ms; missed = n }) t (search rules)
    ∙ sym (appended_full (elements c.args.message) (messages_of q) l)
