-- Laws of the level set's rules. Assumes nothing.
use Rattle.std.proofs.Common.{◌≡◌, ℕ, ◌+◌, ◌-◌, ◌*◌, ◌/◌, ◌≤◌, min, max, Bool, true, false, cond, ltb, List, [], ◌∷◌, length, Ok, Err, sym, refl, ap, ◌∙◌, subst, inl, inr, mul_comm, mul-add, arith, ltb-false, ltb-true}
use Rattle.std.proofs.lemmas.Nat.{mul-le}
use Rattle.element.specs.Same.{same_level}
use Rattle.element.specs.declared.level.Level.{Level}
use Rattle.element.specs.Levels.{level}
use Rattle.instruction.specs.declared.fault.SetFault.TheVariants.{WrongCount}
use Rattle.sets.specs.Takes.{single}
use Rattle.sets.specs.LevelMeaning.{higher, highest, scaled, faded, level_meaning}
use Rattle.sets.specs.LevelLaws.{Among, NoneOver}

-- a product with a number up to 255, over 255 and rounded
pub under : (a b : ℕ) → b ≤ 255 → (a * b + 127) / 255 ≤ a
under a b h = omega (arith, mul-le a b a 255 (omega arith) h)

pub scaled_exact : (a b : Level) → (scaled a b).value ≡ (a.value * b.value + 127) / 255
scaled_exact a b = omega (arith, under a.value b.value (omega (arith, b.byte)), a.byte)

-- shares s and t of two numbers lie between them
share : (a b s t : ℕ) → s + t ≡ 255 → (min a b ≤ (a * s + b * t + 127) / 255) × ((a * s + b * t + 127) / 255 ≤ max a b)
share a b s t e =
    let low = min a b in
    let high = max a b in
    let l : low * s + low * t ≡ low * 255 = sym (mul-add low s t) ∙ ap (λ n. low * n) e in
    let h : high * s + high * t ≡ high * 255 = sym (mul-add high s t) ∙ ap (λ n. high * n) e in (
      omega (arith, l, mul-le low s a s (omega arith) (omega arith), mul-le low t b t (omega arith) (omega arith)),
      omega (arith, h, mul-le a s high s (omega arith) (omega arith), mul-le b t high t (omega arith) (omega arith)),
    )

fade_share : (a b t : Level) → (min a.value b.value ≤ (a.value * (255 - t.value) + b.value * t.value + 127) / 255)
    × ((a.value * (255 - t.value) + b.value * t.value + 127) / 255 ≤ max a.value b.value)
fade_share a b t = share a.value b.value (255 - t.value) t.value (omega (arith, t.byte))

pub faded_exact : (a b t : Level) → (faded a b t).value ≡ (a.value * (255 - t.value) + b.value * t.value + 127) / 255
faded_exact a b t = omega (arith, (fade_share a b t).1, a.byte, b.byte)

pub faded_between : (a b t : Level) → (min a.value b.value ≤ (faded a b t).value) × ((faded a b t).value ≤ max a.value b.value)
faded_between a b t = (rw (faded_exact a b t) (fade_share a b t).0, rw (faded_exact a b t) (fade_share a b t).1)

pub scaled_under : (a b : Level) → ((scaled a b).value ≤ a.value) × ((scaled a b).value ≤ b.value)
scaled_under a b = (
  omega (arith, scaled_exact a b, under a.value b.value (omega (arith, b.byte))),
  omega (arith, scaled_exact a b, mul_comm a.value b.value, under b.value a.value (omega (arith, a.byte))),
)

higher_at : (b : Bool) (v a x : Level) → ltb a.value x.value ≡ b → (cond b x a).value ≤ v.value → (a.value ≤ v.value) × (x.value ≤ v.value)
higher_at true v a x t h = (omega (arith, ltb-true a.value x.value t), h)
higher_at false v a x t h = (h, omega (arith, ltb-false a.value x.value t))

over_more : (v a x : Level) (xs : List Level) → NoneOver v (higher a x ∷ xs) → NoneOver v (a ∷ x ∷ xs)
over_more v a x xs h =
    let p = higher_at (ltb a.value x.value) v a x refl h.0 in
    (p.0, (p.1, h.1))

among_at : (b : Bool) (v a x : Level) (xs : List Level) → Among v (cond b x a ∷ xs) → Among v (a ∷ x ∷ xs)
among_at true v a x xs h = inr h
among_at false v a x xs (inl e) = inl e
among_at false v a x xs (inr m) = inr (inr m)

highest_top : (a : Level) (xs : List Level) → Among (highest a xs) (a ∷ xs) × NoneOver (highest a xs) (a ∷ xs)
highest_top a [] = (inl refl, (omega arith, tt))
highest_top a (x ∷ xs) =
    let h = highest_top (higher a x) xs in
    let v = highest (higher a x) xs in
    (among_at (ltb a.value x.value) v a x xs h.0, over_more v a x xs h.1)

top_is : (b : Bool) (a : Level) (xs : List Level) (v : Level) → single (cond b (Err WrongCount) (Ok (highest a xs))) ≡ Ok (v ∷ []) → highest a xs ≡ v
top_is true a xs v e = cc
top_is false a xs v e = cc

pub tops : (xs : List Level) (v : Level) → level_meaning 2 xs ≡ Ok (v ∷ []) → Among v xs × NoneOver v xs
tops [] v e = cc
tops (a ∷ xs) v e =
    subst (λ (w : Level). Among w (a ∷ xs) × NoneOver w (a ∷ xs)) (top_is (ltb 7 (length xs)) a xs v e) (highest_top a xs)

pub full : (a : Level) → scaled a (level 255) ≡ a
full a = same_level (omega (arith, a.byte))

pub starts : (a b : Level) → faded a b (level 0) ≡ a
starts a b = same_level (omega (arith, a.byte))

pub ends : (a b : Level) → faded a b (level 255) ≡ b
ends a b = same_level (omega (arith, b.byte))
