-- What a sheet says, and what a making, a grant and a swap make of it. Assumes nothing.
use Rattle.std.specs.Prelude.{ℕ, ◌^◌, Bool, cond, ◌&&◌, ◌||◌, List, [], ◌∷◌, ◌++◌, length, replicate, ◌==◌, bit_or, nat_lt, slice_index, slice_set}
use Rattle.part.specs.Sets.{bit}
use Rattle.part.specs.Rows.{exclusive}
use Rattle.cells.specs.Cells.{member}

-- the read row and the write row of each cell, how many cells there are, and the swapped ones in the order of swapping
pub record Rows : Type 0 where
  pub read : List ℕ
  pub write : List ℕ
  pub size : ℕ
  pub swaps : List ℕ

-- the rows after a change, and the number of the refusal, or 0
pub record Outcome : Type 0 where
  pub rows : Rows
  pub number : ℕ

-- the rows of one cell
abbrev pub read_row : Rows → ℕ → ℕ
read_row s c = slice_index s.read c

abbrev pub write_row : Rows → ℕ → ℕ
write_row s c = slice_index s.write c

-- no bits, and no swapped cells
abbrev pub blank : ℕ → Rows
blank n = record { read = replicate 512 0; write = replicate 512 0; size = n; swaps = [] }

-- a making: 14 for a size of 0 or over 512, with a sheet of one cell
abbrev pub made : ℕ → Outcome
made n = cond (nat_lt 0 n && nat_lt n 513) (record { rows = blank n; number = 0 }) (record { rows = blank 1; number = 14 })

-- a cell's rows once part p is granted mode m: 1 reads, 2 writes, 0 and 3 do both
abbrev pub granted_read : Rows → ℕ → ℕ → ℕ → ℕ
granted_read s c p m = cond (m == 2) (read_row s c) (bit_or (read_row s c) (2 ^ p))

abbrev pub granted_write : Rows → ℕ → ℕ → ℕ → ℕ
granted_write s c p m = cond (m == 1) (write_row s c) (bit_or (write_row s c) (2 ^ p))

-- the refusal of a grant among n parts, in the order of its checks
abbrev pub grant_number : ℕ → Rows → ℕ → ℕ → ℕ → ℕ
grant_number n s c p m =
    cond (nat_lt c s.size)
    (cond (nat_lt p n)
    (cond (nat_lt m 4)
    (cond (member s.swaps c) 16 (cond (exclusive (granted_read s c p m) (granted_write s c p m)) 0 16))
    18) 9) 15

abbrev pub granted_rows : Rows → ℕ → ℕ → ℕ → Rows
granted_rows s c p m = record {
  read = slice_set s.read c (granted_read s c p m);
  write = slice_set s.write c (granted_write s c p m);
  size = s.size;
  swaps = s.swaps;
}

-- a grant adds bits to the rows of its cell
abbrev pub granted : ℕ → Rows → ℕ → ℕ → ℕ → Outcome
granted n s c p m = record {
  rows = cond (grant_number n s c p m == 0) (granted_rows s c p m) s;
  number = grant_number n s c p m;
}

-- the refusal of a swap, in the order of its checks
abbrev pub swap_number : Rows → ℕ → ℕ
swap_number s c =
    cond (nat_lt c s.size)
    (cond (member s.swaps c) 16
    (cond (bit_or (read_row s c) (write_row s c) == 0) (cond (nat_lt (length s.swaps) 16) 0 17) 16)) 15

-- a swap puts its cell behind the swapped ones
abbrev pub swapped : Rows → ℕ → Outcome
swapped s c = record {
  rows = cond (swap_number s c == 0) (record { read = s.read; write = s.write; size = s.size; swaps = s.swaps ++ (c ∷ []) }) s;
  number = swap_number s c;
}

-- whoever has the turn reads and writes every swapped cell, and others by its bits
abbrev pub touchable : Rows → Bool → ℕ → ℕ → Bool
touchable s writing p c = nat_lt c s.size && (member s.swaps c || bit p (slice_index (cond writing s.write s.read) c))
