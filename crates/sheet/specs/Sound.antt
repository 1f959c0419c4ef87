-- What the arrays of a sheet keep. Assumes nothing.
use Rattle.std.specs.Prelude.{◌≡◌, ℕ, ◌<◌, List, map, ◌≢◌, slice_index}
use Rattle.sheet.specs.declared.rights.Rights.{Rights}

-- the read row and the write row of each cell
abbrev pub reads : List Rights → List ℕ
reads rights = map (λ r. r.read) rights

abbrev pub writes : List Rights → List ℕ
writes rights = map (λ r. r.write) rights

-- the first n swapped cells are below the size
abbrev pub FrontWithin : ℕ → List ℕ → ℕ → Type 0
FrontWithin size swapped n = (i : ℕ) → i < n → slice_index swapped i < size

-- the row is zero at the first n swapped cells
abbrev pub FrontZero : List ℕ → List ℕ → ℕ → Type 0
FrontZero row swapped n = (i : ℕ) → i < n → slice_index row (slice_index swapped i) ≡ 0

-- the first n swapped cells are distinct
abbrev pub FrontDistinct : List ℕ → ℕ → Type 0
FrontDistinct swapped n = (i j : ℕ) → i < j → j < n → slice_index swapped i ≢ slice_index swapped j
