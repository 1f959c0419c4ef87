-- On an exclusive sheet, what a part may write no other part may touch, swapped cells aside. Assumes nothing.
use Rattle.std.proofs.Common.{◌≡◌, ℕ, true, false, arith}
use Rattle.part.proofs.Ones.{apart}
use Rattle.isolation.specs.Making.{Making, Exclusive}
use Rattle.isolation.specs.Check.{writable, touchable}

pub unshared : {E : Type 0} (k : Making E) → Exclusive k → (p q n : ℕ) → k.swapped n ≡ false → touchable k q n ≡ true → (q ≡ p → ⊥) → writable k p n ≡ false
unshared k ex p q n f h d = grind (arith, apart (k.reads n) (k.writes n) (ex.single n) p q)
