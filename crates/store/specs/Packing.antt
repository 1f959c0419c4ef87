-- Elements packed in a list of words. Assumes nothing.
use Rattle.std.specs.Prelude.{ℕ, ◌+◌, ◌*◌, List, [], ◌∷◌, Ok, Err, Result, slice_set}
use Rattle.element.specs.Pairs.{pair}
use Rattle.element.specs.declared.words.Words.{Words}

-- the elements that the words hold, two words each; an odd last word is none
abbrev pub elements : {E : Type 0} → (Words → E) → List ℕ → List E
elements u [] = []
elements u (a ∷ []) = []
elements u (a ∷ (b ∷ ws)) = u (pair a b) ∷ elements u ws

-- the words after a write to cell n: words 2n and 2n + 1 where it was accepted, and no other word ever
abbrev pub rewritten : {U F : Type 0} → Result U F → ℕ → Words → List ℕ → List ℕ
rewritten (Ok _) n w ws = slice_set (slice_set ws (2 * n) w.first) (2 * n + 1) w.second
rewritten (Err _) n w ws = ws
