-- What the code's messages and queues mean: packed elements, and the same as elements. Assumes nothing.
use Rattle.std.specs.Prelude.{ℕ, cond, List, map, take, nat_lt, slice_index_or}
use Rattle.element.specs.declared.words.Words.{Words}
use Rattle.queue.specs.Queue.{Queue, empty}
use Rattle.queue.specs.declared.message.Message.{Message}
use Rattle.queue.specs.declared.port_queue.PortQueue.{PortQueue}
use Rattle.queue.specs.declared.queues.Queues.{Queues}

-- the packed elements of a message
abbrev pub elements : Message → List Words
elements m = take m.len m.words

-- a queue of packed messages
abbrev pub messages_of : PortQueue → Queue Words
messages_of q = record { messages = map elements (take q.len q.items); missed = q.missed }

-- the queue of a port, packed; a port beyond the last has an empty one
abbrev pub packed_at : Queues → ℕ → Queue Words
packed_at qs x = cond (nat_lt x 16) (slice_index_or (map messages_of qs.queues) x empty) empty

-- packed messages as elements
abbrev pub unpacked_by : {E : Type 0} → (Words → E) → Queue Words → Queue E
unpacked_by u q = record { messages = map (map u) q.messages; missed = q.missed }

-- the queue of a port, as elements
abbrev pub queue_at : {E : Type 0} → (Words → E) → Queues → ℕ → Queue E
queue_at u qs x = unpacked_by u (packed_at qs x)
