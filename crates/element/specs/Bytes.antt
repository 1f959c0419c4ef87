-- The parts of a colour are bytes. Assumes nothing.
use Rattle.std.specs.Prelude.{◌≡◌, ◌%◌, Bool, true, ◌&&◌, nat_lt, refl}
use Rattle.std.proofs.Common.{arith}
use Rattle.std.proofs.lemmas.Bool.Decides.{nat_tests}
use Rattle.element.specs.declared.colour.Colour.{Colour}
use Rattle.element.specs.declared.colour.Colour.TheVariants.{Open, Slot, Mix}

-- each part is below 256
abbrev pub in_bytes : Colour → Bool
in_bytes Open = true
in_bytes (Slot n) = nat_lt n 256
in_bytes (Mix r g b) = nat_lt r 256 && (nat_lt g 256 && nat_lt b 256)

-- the low 8 bits of each part
abbrev pub low_bytes : Colour → Colour
low_bytes Open = Open
low_bytes (Slot n) = Slot (n % 256)
low_bytes (Mix r g b) = Mix (r % 256) (g % 256) (b % 256)

pub low_in_bytes : (c : Colour) → in_bytes (low_bytes c) ≡ true
low_in_bytes Open = refl
low_in_bytes (Slot n) = grind (arith, nat_tests)
low_in_bytes (Mix r g b) = grind (arith, nat_tests)
