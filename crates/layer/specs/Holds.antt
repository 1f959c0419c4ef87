-- Lists of held writes, the longest-held first. Assumes nothing.
use Rattle.std.specs.Prelude.{ℕ, Bool, true, cond, not, ◌&&◌, List, [], ◌∷◌, length, Some, None, Option, ◌==◌, slice_set, nat_lt}
use Rattle.element.specs.declared.words.Words.{Words}
use Rattle.layer.specs.declared.held_write.HeldWrite.{HeldWrite}

-- cell n is not held
abbrev pub absent : ℕ → List HeldWrite → Bool
absent n [] = true
absent n (w ∷ ws) = not (w.cell == n) && absent n ws

-- no cell is held twice
abbrev pub apart : List HeldWrite → Bool
apart [] = true
apart (w ∷ ws) = absent w.cell ws && apart ws

-- every held cell is below s
abbrev pub inside : ℕ → List HeldWrite → Bool
inside s [] = true
inside s (w ∷ ws) = nat_lt w.cell s && inside s ws

-- what is held for cell n
abbrev pub held_for : ℕ → List HeldWrite → Option Words
held_for n [] = None
held_for n (w ∷ ws) = cond (w.cell == n) (Some w.words) (held_for n ws)

-- one write more: in the place of its cell's write, which so keeps its age, or else as the newest
abbrev pub placed : List HeldWrite → HeldWrite → List HeldWrite
placed [] w = w ∷ []
placed (v ∷ ws) w = cond (v.cell == w.cell) (w ∷ ws) (v ∷ placed ws w)

-- 16 cells are held, and n is none of them
abbrev pub seventeenth : ℕ → List HeldWrite → Bool
seventeenth n ws = absent n ws && length ws == 16

-- how many writes a write to cell n first sends down: the longest-held, where n is a seventeenth cell
abbrev pub outgoing : ℕ → List HeldWrite → ℕ
outgoing n ws = cond (seventeenth n ws) 1 0

-- elements with held writes laid over them
abbrev pub laid : {E : Type 0} → (Words → E) → List E → List HeldWrite → List E
laid u xs [] = xs
laid u xs (w ∷ ws) = laid u (slice_set xs w.cell (u w.words)) ws
