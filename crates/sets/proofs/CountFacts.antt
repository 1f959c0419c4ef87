-- Faults come by the tables of counts. Assumes nothing.
use Rattle.std.proofs.Common.{◌≡◌, ℕ, List, [], ◌∷◌, length, Some, refl, arith}
use Rattle.std.proofs.lemmas.Bool.Decides.{nat_tests}
use Rattle.element.specs.declared.level.Level.{Level}
use Rattle.element.specs.declared.head.Head.{Head}
use Rattle.sets.specs.Takes.{all_of, one_of, two_of, three_of, onto, single}
use Rattle.sets.specs.Counts.{fault_at, fault_in, level_takes, head_takes}
use Rattle.sets.specs.LevelMeaning.{top_of, scaled, curved, faded, raised, level_meaning}
use Rattle.sets.specs.HeadMeaning.{tinted, shifted, flipped, head_meaning}

module _ {E : Type 0} where
  all_faults : (xs : List E) → fault_in (all_of xs) ≡ fault_at (Some (0, 4)) (length xs)
  all_faults xs = grind (arith, nat_tests)

  one_faults : (f : E → E) (xs : List E) → fault_in (single (onto f (one_of xs))) ≡ fault_at (Some (1, 1)) (length xs)
  one_faults f [] = refl
  one_faults f (a ∷ []) = refl
  one_faults f (a ∷ (b ∷ xs)) = grind (arith, nat_tests)

  two_faults : (f : E × E → E) (xs : List E) → fault_in (single (onto f (two_of xs))) ≡ fault_at (Some (2, 2)) (length xs)
  two_faults f [] = refl
  two_faults f (a ∷ []) = refl
  two_faults f (a ∷ (b ∷ [])) = refl
  two_faults f (a ∷ (b ∷ (c ∷ xs))) = grind (arith, nat_tests)

  three_faults : (f : E × E × E → E) (xs : List E) → fault_in (single (onto f (three_of xs))) ≡ fault_at (Some (3, 3)) (length xs)
  three_faults f [] = refl
  three_faults f (a ∷ []) = refl
  three_faults f (a ∷ (b ∷ [])) = refl
  three_faults f (a ∷ (b ∷ (c ∷ []))) = refl
  three_faults f (a ∷ (b ∷ (c ∷ (d ∷ xs)))) = grind (arith, nat_tests)

top_faults : (xs : List Level) → fault_in (single (top_of xs)) ≡ fault_at (Some (1, 8)) (length xs)
top_faults [] = refl
top_faults (a ∷ xs) = grind (arith, nat_tests)

pub level_faults : (code : ℕ) (xs : List Level) → fault_in (level_meaning code xs) ≡ fault_at (level_takes code) (length xs)
level_faults code xs =
    grind (
      arith,
      nat_tests,
      all_faults xs,
      top_faults xs,
      two_faults (λ p. scaled p.0 p.1) xs,
      one_faults curved xs,
      three_faults (λ p. faded p.0 p.1 p.2) xs,
      one_faults raised xs,
    )

pub head_faults : (code : ℕ) (xs : List Head) → fault_in (head_meaning code xs) ≡ fault_at (head_takes code) (length xs)
head_faults code xs =
    grind (arith, nat_tests, all_faults xs, two_faults (λ p. tinted p.0 p.1) xs, two_faults (λ p. shifted p.0 p.1) xs, one_faults flipped xs)
