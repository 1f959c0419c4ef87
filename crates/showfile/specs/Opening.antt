-- What opening a show file answers, and what reading it gives. Assumes nothing.
use Rattle.std.specs.Prelude.{◌≡◌, ℕ, ◌↔◌, List, [], ◌∷◌, Some, None, Ok, Err, Option, Result}
use Rattle.std.specs.Borrow.{Bor}
use Rattle.showfile.specs.Chain.{Chain, Leaves, Stays, NeverZero, Sized, Clean, links, record_at}
use Rattle.showfile.specs.declared.file.ShowFile.{ShowFile}
use Rattle.showfile.specs.declared.refusal.FileRefusal.{FileRefusal}
use Rattle.showfile.specs.declared.refusal.FileRefusal.TheVariants.{Length, Head, Outside, Endless}

-- the records that are still to come, in chain order
abbrev pub rest : ShowFile → List ℕ
rest f = links f.bytes.now f.at f.left

-- refusals 1 to 4, each exactly under its condition and the earlier first; else the chain that starts at the head
pub record Opened (bs : List ℕ) (r : Result ShowFile FileRefusal) : Type 0 where
  pub bad_length : r ≡ Err Length ↔ (Sized bs → ⊥)
  pub bad_head : r ≡ Err Head ↔ Sized bs × (Clean bs → ⊥)
  pub outside : (x : ℕ) → r ≡ Err (Outside x) ↔ Sized bs × Clean bs × Leaves bs 0 x
  pub endless : r ≡ Err Endless ↔ Sized bs × Clean bs × Stays bs 0 × NeverZero bs 0
  pub chained : (f : ShowFile) → r ≡ Ok f → (f.bytes.now ≡ bs) × Chain bs 0 (rest f)
  pub accepts : (ps : List ℕ) → Sized bs × Clean bs × Chain bs 0 ps → (f : ShowFile) × (r ≡ Ok f) × (rest f ≡ ps)

-- the same by cases, one way
abbrev pub Cases : List ℕ → Result ShowFile FileRefusal → Type 0
Cases bs (Ok f) = Sized bs × Clean bs × (f.bytes.now ≡ bs) × Chain bs 0 (rest f)
Cases bs (Err Length) = Sized bs → ⊥
Cases bs (Err Head) = Sized bs × (Clean bs → ⊥)
Cases bs (Err (Outside r)) = Sized bs × Clean bs × Leaves bs 0 r
Cases bs (Err Endless) = Sized bs × Clean bs × Stays bs 0 × NeverZero bs 0

-- what a walk along the chain from record i answers: how many records it has
abbrev pub Walked : List ℕ → ℕ → Result ℕ FileRefusal → Type 0
Walked bs i (Ok n) = Chain bs i (links bs i n)
Walked bs i (Err Length) = ⊥
Walked bs i (Err Head) = ⊥
Walked bs i (Err (Outside r)) = Leaves bs i r
Walked bs i (Err Endless) = Stays bs i × NeverZero bs i

-- one record read: it is the next of those to come, with its index
abbrev pub Steps : ShowFile → Option (ℕ × Bor (List ℕ)) → ShowFile → Type 0
Steps f None g = (rest f ≡ []) × (g ≡ f)
Steps f (Some y) g = (rest f ≡ y.0 ∷ rest g) × (g.bytes.now ≡ f.bytes.now) × (y.1.now ≡ record_at f.bytes.now y.0)
