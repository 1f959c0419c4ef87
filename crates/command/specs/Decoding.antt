-- What decoding answers, and the law of a record's shape in the format's own words. Assumes nothing.
use Rattle.std.specs.Prelude.{◌≡◌, ℕ, ◌+◌, ◌*◌, ◌<◌, ◌≤◌, true, false, ◌⊎◌, ◌↔◌, List, length, Ok, Err, Result, ◌≢◌}
use Rattle.command.specs.Shape.{byte_at, kind_of, known, Fault}
use Rattle.command.specs.Order.{asked, ordered}
use Rattle.command.specs.Commands.{order_of, decoded_of, Few}
use Rattle.command.specs.declared.command.Command.{Command}
use Rattle.command.specs.declared.malformed.Malformed.{Malformed}
use Rattle.command.specs.declared.malformed.Malformed.TheVariants.{Length, Kind, Shape}

-- the bytes from 4 on that a record uses: by an instruct all but the port, by a send port and arguments, by a receive port and results;
-- of the cells those below the counts
pub data Uses (bs : List ℕ) : ℕ → Type 0 where
  code : kind_of bs ≡ 3 → Uses bs 4
  port : (kind_of bs ≡ 4) ⊎ (kind_of bs ≡ 5) → Uses bs 5
  arg_count : (kind_of bs ≡ 3) ⊎ (kind_of bs ≡ 4) → Uses bs 6
  result_count : (kind_of bs ≡ 3) ⊎ (kind_of bs ≡ 5) → Uses bs 7
  arg_cell : {i : ℕ} → (kind_of bs ≡ 3) ⊎ (kind_of bs ≡ 4) → 8 ≤ i → i < 24 → i < 8 + 2 * byte_at bs 6 → Uses bs i
  result_cell : {i : ℕ} → (kind_of bs ≡ 3) ⊎ (kind_of bs ≡ 5) → 24 ≤ i → i < 32 → i < 24 + 2 * byte_at bs 7 → Uses bs i

-- which bytes are at fault: one that is not used exactly when it is not zero, a count exactly when it is over its limit, another used byte never
pub record Shaped (bs : List ℕ) : Type 0 where
  pub unused : (i : ℕ) → 4 ≤ i → i < 32 → (Uses bs i → ⊥) → Fault bs i ↔ 0 < byte_at bs i
  pub instruct_args : kind_of bs ≡ 3 → Fault bs 6 ↔ 8 < byte_at bs 6
  pub send_args : kind_of bs ≡ 4 → Fault bs 6 ↔ 4 < byte_at bs 6
  pub results : (kind_of bs ≡ 3) ⊎ (kind_of bs ≡ 5) → Fault bs 7 ↔ 4 < byte_at bs 7
  pub used : (i : ℕ) → Uses bs i → (i ≢ 6) → (i ≢ 7) → byte_at bs i < 256 → Fault bs i → ⊥

-- the lowest byte at fault
abbrev pub Lowest : List ℕ → ℕ → Type 0
Lowest bs i = Fault bs i × ((k : ℕ) → k < i → Fault bs k → ⊥)

-- what the cases of a decoded command stand for
abbrev pub Asks : List ℕ → Command → Type 0
Asks bs c = (order_of c ≡ asked bs) × Few c

-- refusals 1, 7 and 8, each exactly under its condition and the earlier first; else what the record asks
pub record Decodes (bs : List ℕ) (r : Result Command Malformed) : Type 0 where
  pub bad_length : r ≡ Err Length ↔ (length bs ≢ 32)
  pub bad_kind : r ≡ Err Kind ↔ (length bs ≡ 32) × (known (kind_of bs) ≡ false)
  pub bad_shape : (i : ℕ) → r ≡ Err (Shape i) ↔ (length bs ≡ 32) × (known (kind_of bs) ≡ true) × Lowest bs i
  pub asks : (c : Command) → r ≡ Ok c → Asks bs c
  pub order : decoded_of r ≡ ordered bs
  pub shape : Shaped bs

-- the same by cases, one way
abbrev pub Cases : List ℕ → Result Command Malformed → Type 0
Cases bs (Ok c) = (length bs ≡ 32) × (known (kind_of bs) ≡ true) × ((k : ℕ) → Fault bs k → ⊥) × Asks bs c
Cases bs (Err Length) = length bs ≡ 32 → ⊥
Cases bs (Err Kind) = (length bs ≡ 32) × (known (kind_of bs) ≡ false)
Cases bs (Err (Shape i)) = (length bs ≡ 32) × (known (kind_of bs) ≡ true) × Lowest bs i
