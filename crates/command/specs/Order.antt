-- What the bytes of a record ask. Assumes nothing.
use Rattle.std.specs.Prelude.{ℕ, zero, suc, cond, List, length, ◌==◌, nat_le}
use Rattle.cells.specs.Cells.{cell_list}
use Rattle.command.specs.Shape.{byte_at, kind_of, known, most, arg_bytes, result_bytes}

-- work with cells and ports: a code or a port, then argument cells, then result cells
pub data Work : Type 0 where
  instruct : ℕ → List ℕ → List ℕ → Work
  send : ℕ → List ℕ → Work
  receive : ℕ → List ℕ → Work

-- what is asked of a part; `malformed` is refused with a number and a detail whatever the machine's state
pub data Order : Type 0 where
  malformed : ℕ → ℕ → Order
  restore : Order
  save : Order
  work : Work → Order

-- what a record of a known kind and a good shape asks
abbrev pub asked : List ℕ → Order
asked bs =
    cond (kind_of bs == 1) restore
    (cond (kind_of bs == 2) save
    (cond (kind_of bs == 3) (work (instruct (byte_at bs 4) (cell_list (arg_bytes bs)) (cell_list (result_bytes bs))))
    (cond (kind_of bs == 4) (work (send (byte_at bs 5) (cell_list (arg_bytes bs))))
    (work (receive (byte_at bs 5) (cell_list (result_bytes bs)))))))

-- the lowest byte at fault among n from i on is told; where there is none, the order stands
abbrev pub shaped : List ℕ → ℕ → ℕ → Order → Order
shaped bs i zero o = o
shaped bs i (suc n) o = cond (nat_le (byte_at bs i) (most bs i)) (shaped bs (suc i) n o) (malformed 8 i)

-- a record of 32 bytes: refusals 7 and 8, or what it asks
unfoldable pub decoded : List ℕ → Order
decoded bs = cond (known (kind_of bs)) (shaped bs 4 28 (asked bs)) (malformed 7 3)

-- any bytes: refusal 1 where they are not 32
abbrev pub ordered : List ℕ → Order
ordered bs = cond (length bs == 32) (decoded bs) (malformed 1 0)
