-- Commands as records of 32 bytes. Assumes nothing.
use Rattle.std.specs.Prelude.{ℕ, zero, suc, ◌/◌, ◌%◌, List, [], ◌∷◌, ◌++◌, length}
use Rattle.isolation.specs.Request.{Request}

-- room for n cell numbers, two bytes each; the rest is zero
abbrev pub cell_bytes : ℕ → List ℕ → List ℕ
cell_bytes zero xs = []
cell_bytes (suc n) [] = 0 ∷ 0 ∷ cell_bytes n []
cell_bytes (suc n) (x ∷ xs) = (x % 256) ∷ (x / 256) ∷ cell_bytes n xs

-- part, kind, code, port, argument cells, result cells
abbrev pub bytes : ℕ → ℕ → ℕ → ℕ → List ℕ → List ℕ → List ℕ
bytes p kind code port xs rs =
    0 ∷ 0 ∷ p ∷ kind ∷ code ∷ port ∷ length xs ∷ length rs ∷ (cell_bytes 8 xs ++ cell_bytes 4 rs)

-- a request with scratch enough, at place 1
abbrev pub request : List ℕ → Request
request bs = record { place = 1; bytes = bs; arg_room = 8; result_room = 4 }

abbrev pub restore : ℕ → Request
restore p = request (bytes p 1 0 0 [] [])

abbrev pub save : ℕ → Request
save p = request (bytes p 2 0 0 [] [])

abbrev pub instruct : ℕ → ℕ → List ℕ → List ℕ → Request
instruct p code xs rs = request (bytes p 3 code 0 xs rs)

abbrev pub send : ℕ → ℕ → List ℕ → Request
send p port xs = request (bytes p 4 0 port xs [])

abbrev pub receive : ℕ → ℕ → List ℕ → Request
receive p port rs = request (bytes p 5 0 port [] rs)
