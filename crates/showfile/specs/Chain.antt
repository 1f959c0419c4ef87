-- A show file as a list of bytes, and the chain of records that starts at any of its records. Assumes nothing.
use Rattle.std.specs.Prelude.{◌≡◌, ℕ, zero, suc, ◌+◌, ◌*◌, ◌/◌, ◌%◌, ◌<◌, ◌≤◌, List, [], ◌∷◌, length, take, drop, ◌≢◌, slice_index}

-- how many records of 32 bytes a file has
abbrev pub records : List ℕ → ℕ
records bs = length bs / 32

-- the bytes of record i
abbrev pub record_at : List ℕ → ℕ → List ℕ
record_at bs i = take 32 (drop (32 * i) bs)

-- the next index that record i holds: its bytes 0 and 1, the low byte first
abbrev pub next_of : List ℕ → ℕ → ℕ
next_of bs i = slice_index bs (32 * i) + 256 * slice_index bs (32 * i + 1)

-- a next index that goes on: the index of a record, and not zero
abbrev pub Link : List ℕ → ℕ → Type 0
Link bs x = (0 < x) × (x < records bs)

-- record r is on the chain that starts at record i
pub data Reaches (bs : List ℕ) : ℕ → ℕ → Type 0 where
  here : {i : ℕ} → Reaches bs i i
  onward : {i j r : ℕ} → next_of bs i ≡ j → Link bs j → Reaches bs j r → Reaches bs i r

-- from record i the chain goes through the records ps, in this order, and then reaches zero
pub data Chain (bs : List ℕ) : ℕ → List ℕ → Type 0 where
  ends : {i : ℕ} → next_of bs i ≡ 0 → Chain bs i []
  goes : {i j : ℕ} {ps : List ℕ} → next_of bs i ≡ j → Link bs j → Chain bs j ps → Chain bs i (j ∷ ps)

-- record r is on the chain from i, and its next index is no record's
abbrev pub Leaves : List ℕ → ℕ → ℕ → Type 0
Leaves bs i r = Reaches bs i r × (records bs ≤ next_of bs r)

-- the chain from i stays in the file
abbrev pub Stays : List ℕ → ℕ → Type 0
Stays bs i = (r : ℕ) → Leaves bs i r → ⊥

-- the chain from i never reaches zero
abbrev pub NeverZero : List ℕ → ℕ → Type 0
NeverZero bs i = (r : ℕ) → Reaches bs i r → next_of bs r ≢ 0

-- the lengths that a file may have
abbrev pub Sized : List ℕ → Type 0
Sized bs = (0 < length bs) × (length bs ≤ 65536) × (length bs % 32 ≡ 0)

-- the head holds nothing but a next index
abbrev pub Clean : List ℕ → Type 0
Clean bs = (k : ℕ) → 2 ≤ k → k < 32 → slice_index bs k ≡ 0

-- the n records after record i, in chain order
abbrev pub links : List ℕ → ℕ → ℕ → List ℕ
links bs i zero = []
links bs i (suc n) = next_of bs i ∷ links bs (next_of bs i) n
