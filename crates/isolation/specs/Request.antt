-- Requests and their answers. Assumes nothing.
use Rattle.std.specs.Prelude.{ℕ, Bool, true, false, cond, not, ◌&&◌, ◌||◌, List, length, ◌==◌, nat_le, nat_lt}
use Rattle.command.specs.Shape.{part_of, kind_of}
use Rattle.command.specs.Order.{Order, malformed, decoded}

-- a request: any bytes, a place, and how long the lists are that are lent as scratch for arguments and for results
pub record Request : Type 0 where
  pub place : ℕ
  pub bytes : List ℕ
  pub arg_room : ℕ
  pub result_room : ℕ

-- the bytes are a record of 32
abbrev pub whole : Request → Bool
whole c = length c.bytes == 32

-- both scratch lists are long enough
abbrev pub roomy : Request → Bool
roomy c = nat_le 8 c.arg_room && nat_le 4 c.result_room

abbrev pub part : Request → ℕ
part c = part_of c.bytes

abbrev pub kind : Request → ℕ
kind c = kind_of c.bytes

-- restore and save are the kinds of a turn
abbrev pub turn_kind : ℕ → Bool
turn_kind k = k == 1 || k == 2

-- a turn call: 32 bytes, kind 1 or 2
abbrev pub turn_call : Request → Bool
turn_call c = whole c && turn_kind (kind c)

-- a work command of n parts: 32 bytes, one of the parts, any other kind
abbrev pub work_command : ℕ → Request → Bool
work_command n c = whole c && (nat_lt (part c) n && not (turn_kind (kind c)))

-- what is asked, after refusals 1, 6, 7 and 8, in this order
unfoldable pub order : Request → Order
order c = cond (whole c) (cond (roomy c) (decoded c.bytes) (malformed 6 0)) (malformed 1 0)

-- an answer: a refusal's number and detail, or the missed count and the values
pub data Answer (E : Type 0) : Type 0 where
  refused : ℕ → ℕ → Answer E
  done : ℕ → List E → Answer E

abbrev pub granted : {E : Type 0} → Answer E → Bool
granted (refused n d) = false
granted (done m vs) = true

-- an entry of the log; part and kind are zero where the bytes are no record
pub record Entry (E : Type 0) : Type 0 where
  pub place : ℕ
  pub part : ℕ
  pub kind : ℕ
  pub answer : Answer E

abbrev pub entry : {E : Type 0} → Request → Answer E → Entry E
entry c a = record { place = c.place; part = cond (whole c) (part c) 0; kind = cond (whole c) (kind c) 0; answer = a }

-- what a system does with one request: its answer, and its state afterwards
pub record Step (E S : Type 0) : Type 0 where
  pub answer : Answer E
  pub after : S
