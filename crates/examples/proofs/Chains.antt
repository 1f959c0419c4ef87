-- The examples of chains. Assumes nothing.
use Rattle.std.proofs.Common.{◌≡◌, ℕ, zero, suc, ◌<◌, List, ◌∷◌, ◌++◌, get_or, replicate, refl, arith, lit<, lit≤}
use Rattle.std.proofs.lemmas.Grind.{common_steps}
use Rattle.showfile.specs.Chain.{Link, here, onward, Sized, Clean}
use Rattle.showfile.proofs.Cycle.{place, endless}
use Rattle.examples.specs.Examples.{three, Refuses}
use Rattle.showfile.specs.declared.refusal.FileRefusal.TheVariants.{Outside, Endless}

goes3 : (P : ℕ → Type 0) → P 0 → P 1 → P 2 → (k : ℕ) → k < 3 → P k
goes3 P a b c zero h = a
goes3 P a b c (suc zero) h = b
goes3 P a b c (suc (suc zero)) h = c
goes3 P a b c (suc (suc (suc k))) h = absurd (omega arith)

zeros : (n j : ℕ) (xs : List ℕ) → j < n → get_or (replicate n 0 ++ xs) j 0 ≡ 0
zeros n j xs h = grind (arith, common_steps)

clean : (a b c : ℕ) → Clean (three a b c)
clean a b c zero low high = absurd (omega arith)
clean a b c (suc k) low high = zeros 31 k (b ∷ replicate 31 0 ++ (c ∷ replicate 31 0)) (omega arith)

sized : (a b c : ℕ) → Sized (three a b c)
sized a b c = (lit< tt, lit≤ tt, refl)

pub cycles : Refuses (three 1 2 1) Endless
cycles r o =
    let never = endless (three 1 2 1) 0 (lit< tt) (goes3 (λ k. Link (three 1 2 1) (place (three 1 2 1) 0 (suc k))) (lit< tt, lit< tt) (lit< tt, lit< tt) (lit< tt, lit< tt)) in
    o.endless.1 (sized 1 2 1, clean 1 2 1, never.0, never.1)

pub exits : Refuses (three 1 2 3) (Outside 2)
exits r o = (o.outside 2).1 (sized 1 2 3, clean 1 2 3, (onward refl (lit< tt, lit< tt) (onward refl (lit< tt, lit< tt) here), lit≤ tt))
