-- A colour comes back from its word. Assumes nothing.
use Rattle.std.specs.Prelude.{◌≡◌, true, refl}
use Rattle.std.proofs.Common.{arith}
use Rattle.std.proofs.lemmas.Bool.Decides.{nat_tests}
use Rattle.element.specs.declared.colour.Colour.{Colour}
use Rattle.element.specs.declared.colour.Colour.TheVariants.{Open, Slot, Mix}
use Rattle.element.specs.Bytes.{in_bytes, low_bytes}
use Rattle.element.specs.Colours.{colour_word, word_colour}

pub colour_back : (c : Colour) → in_bytes c ≡ true → word_colour (colour_word c) ≡ c
colour_back Open h = refl
colour_back (Slot n) h = grind (arith, nat_tests)
colour_back (Mix r g b) h = grind (arith, nat_tests)

-- what fits bytes is its own low bits
pub low_same : (c : Colour) → in_bytes c ≡ true → low_bytes c ≡ c
low_same Open h = refl
low_same (Slot n) h = grind (arith, nat_tests)
low_same (Mix r g b) h = grind (arith, nat_tests)
