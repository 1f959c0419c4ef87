-- The shape of a command's record, as a list of 32 bytes. Assumes nothing.
use Rattle.std.specs.Prelude.{ℕ, ◌+◌, ◌*◌, ◌<◌, ◌≤◌, Bool, cond, ◌&&◌, ◌||◌, List, take, drop, ◌==◌, nat_lt, slice_index}

abbrev pub byte_at : List ℕ → ℕ → ℕ
byte_at bs i = slice_index bs i

-- byte 2 is the part, and byte 3 the kind: 1 restore, 2 save, 3 instruct, 4 send, 5 receive
abbrev pub part_of : List ℕ → ℕ
part_of bs = byte_at bs 2

abbrev pub kind_of : List ℕ → ℕ
kind_of bs = byte_at bs 3

abbrev pub known : ℕ → Bool
known k = nat_lt 0 k && nat_lt k 6

abbrev pub takes_port : ℕ → Bool
takes_port k = k == 4 || k == 5

-- how many arguments and results a kind may have at most
abbrev pub arg_limit : ℕ → ℕ
arg_limit k = cond (k == 3) 8 (cond (k == 4) 4 0)

abbrev pub result_limit : ℕ → ℕ
result_limit k = cond (k == 3 || k == 5) 4 0

-- the argument cells that byte 6 counts, and the result cells that byte 7 counts
abbrev pub arg_bytes : List ℕ → List ℕ
arg_bytes bs = take (2 * byte_at bs 6) (drop 8 bs)

abbrev pub result_bytes : List ℕ → List ℕ
result_bytes bs = take (2 * byte_at bs 7) (drop 24 bs)

-- the largest value that byte i, from 4 on, may have in a record of kind k with a arguments and r results:
-- code, port, the two counts, argument cells, result cells; a byte that is not used is zero
abbrev pub largest : ℕ → ℕ → ℕ → ℕ → ℕ
largest k a r i =
    cond (i == 4) (cond (k == 3) 255 0)
    (cond (i == 5) (cond (takes_port k) 255 0)
    (cond (i == 6) (arg_limit k)
    (cond (i == 7) (result_limit k)
    (cond (nat_lt i 24) (cond (nat_lt 0 (arg_limit k) && nat_lt i (8 + 2 * a)) 255 0)
    (cond (nat_lt 0 (result_limit k) && nat_lt i (24 + 2 * r)) 255 0)))))

unfoldable pub most : List ℕ → ℕ → ℕ
most bs i = largest (kind_of bs) (byte_at bs 6) (byte_at bs 7) i

-- byte i is at fault
abbrev pub Fault : List ℕ → ℕ → Type 0
Fault bs i = (4 ≤ i) × (i < 32) × (most bs i < byte_at bs i)
