-- Laws of the head set's rules. Assumes nothing.
use Rattle.std.proofs.Common.{◌≡◌, ℕ, ◌+◌, ◌-◌, ◌%◌, [], ◌∷◌, Ok, ap, ◌∙◌, arith}
use Rattle.element.specs.Same.{same_head}
use Rattle.element.specs.Back.{low_same}
use Rattle.element.specs.Bytes.{low_bytes}
use Rattle.element.specs.declared.colour.Colour.{Colour}
use Rattle.element.specs.declared.colour.Colour.TheVariants.{Open}
use Rattle.element.specs.declared.head.Head.{Head}
use Rattle.element.specs.Heads.{head}
use Rattle.sets.specs.HeadMeaning.{shifted, flipped, head_meaning}
use Rattle.sets.specs.HeadLaws.{parts}

-- a head's colour is its own low bytes
own : (a : Head) → low_bytes a.colour ≡ a.colour
own a = low_same a.colour a.coloured

same : (p p' t t' : ℕ) (c c' : Colour) → p ≡ p' → t ≡ t' → c ≡ c' → ◌≡◌ {A = ℕ × ℕ × Colour} (p, t, c) (p', t', c')
same p p' t t' c c' e f g = cc

pub tints : (a b : Head) → parts (head_meaning 2 (a ∷ b ∷ [])) ≡ Ok ((a.pan, a.tilt, b.colour) ∷ [])
tints a b = ap (λ (p : ℕ × ℕ × Colour). Ok (p ∷ [])) (same _ _ _ _ _ _ (omega (arith, a.panned)) (omega (arith, a.tilted)) (own b))

pub shifts : (a b : Head) → parts (head_meaning 3 (a ∷ b ∷ [])) ≡ Ok (((a.pan + b.pan) % 65536, (a.tilt + b.tilt) % 65536, a.colour) ∷ [])
shifts a b = ap (λ (p : ℕ × ℕ × Colour). Ok (p ∷ [])) (same _ _ _ _ _ _ (omega arith) (omega arith) (own a))

pub flips : (a : Head) → parts (head_meaning 4 (a ∷ [])) ≡ Ok (((a.pan + 32768) % 65536, 65535 - a.tilt, a.colour) ∷ [])
flips a = ap (λ (p : ℕ × ℕ × Colour). Ok (p ∷ [])) (same _ _ _ _ _ _ (omega arith) (omega (arith, a.tilted)) (own a))

pub still : (a : Head) → shifted a (head 0 0 Open) ≡ a
still a = same_head (omega (arith, a.panned)) (omega (arith, a.tilted)) (own a)

pub twice : (a : Head) → flipped (flipped a) ≡ a
twice a = same_head (omega (arith, a.panned)) (omega (arith, a.tilted)) (ap low_bytes (own a) ∙ own a)
