-- The worked examples, in one list. Assumes nothing.
use Rattle.std.specs.Prelude.{◌≡◌, ℕ, List, ◌∷◌, ◌++◌, replicate, Err, Result}
use Rattle.examples.specs.Codes.{codes, Each}
use Rattle.examples.specs.Shows.{Shows}
use Rattle.showfile.specs.Opening.{Opened}
use Rattle.showfile.specs.declared.file.ShowFile.{ShowFile}
use Rattle.showfile.specs.declared.refusal.FileRefusal.{FileRefusal}
use Rattle.showfile.specs.declared.refusal.FileRefusal.TheVariants.{Outside, Endless}

-- a file of three records that hold these next indices and nothing else
abbrev pub three : ℕ → ℕ → ℕ → List ℕ
three a b c = a ∷ replicate 31 0 ++ (b ∷ replicate 31 0 ++ (c ∷ replicate 31 0))

-- opening these bytes is refused, and so
abbrev pub Refuses : List ℕ → FileRefusal → Type 0
Refuses bs why = (r : Result ShowFile FileRefusal) → Opened bs r → r ≡ Err why

pub record Examples : Type 0 where
  -- codes of the two instruction sets
  pub codes : Each codes
  -- next indices 1, 2, 1: the chain never reaches zero
  pub cycle : Refuses (three 1 2 1) Endless
  -- next indices 1, 2, 3: record 2 leads outside the file
  pub exit : Refuses (three 1 2 3) (Outside 2)
  -- commands on the machine and on the separate boxes: nine messages and two receives, a swapped cell counted up in turns, a cell named twice, and others
  pub shows : Shows
