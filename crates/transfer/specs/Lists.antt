-- Elements that go between a list of cells and places beside their numbers. Assumes nothing.
use Rattle.std.specs.Prelude.{ℕ, List, [], ◌∷◌, map, slice_index_or, slice_set}

-- the elements of the cells ns, in their order; z stands for a cell that is not there
abbrev pub elements_at : {E : Type 0} → E → List E → List ℕ → List E
elements_at z xs ns = map (λ n. slice_index_or xs n z) ns

-- the cells after each of ns took the value beside it, from the last to the first, and z where the values run short
abbrev pub stored : {E : Type 0} → E → List ℕ → List E → List E → List E
stored z [] vs xs = xs
stored z (n ∷ ns) [] xs = slice_set (stored z ns [] xs) n z
stored z (n ∷ ns) (v ∷ vs) xs = slice_set (stored z ns vs xs) n v
