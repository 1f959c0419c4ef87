-- The first elements of a store. Assumes nothing.
use Rattle.std.specs.Prelude.{ℕ, List, [], ◌∷◌}
use Rattle.element.specs.declared.words.Words.{Words}

-- the words of pairs, one after another
abbrev pub laid : List Words → List ℕ
laid [] = []
laid (w ∷ ws) = w.first ∷ (w.second ∷ laid ws)
