-- A run at its end. Assumes nothing.
use Rattle.std.proofs.Common.{◌≡◌, ℕ, ◌≤◌, Ok}
use Rattle.std.proofs.lemmas.Bool.{le-leb}
use Rattle.run.specs.Runs.{answered}

pub answered_all : (n l a r : ℕ) → n ≤ l → 8 ≤ a → 4 ≤ r → answered n l a r ≡ Ok n
answered_all n l a r h p q = rw (le-leb 8 a p, le-leb 4 r q, le-leb n l h)
