-- How a colour packs into one word. Assumes nothing.
use Rattle.std.specs.Prelude.{ℕ, ◌+◌, ◌*◌, ◌/◌, ◌%◌, cond, ◌==◌}
use Rattle.element.specs.declared.colour.Colour.{Colour}
use Rattle.element.specs.declared.colour.Colour.TheVariants.{Open, Slot, Mix}

-- the top byte says the case, the bytes below hold its parts
abbrev pub colour_word : Colour → ℕ
colour_word Open = 0
colour_word (Slot n) = 0x01000000 + n
colour_word (Mix r g b) = 0x02000000 + r * 65536 + g * 256 + b

abbrev pub top_byte : ℕ → ℕ
top_byte w = w / 0x01000000 % 256

-- every top byte but 1 and 2 says open
abbrev pub word_colour : ℕ → Colour
word_colour w =
    cond (top_byte w == 1) (Slot (w % 256))
    (cond (top_byte w == 2) (Mix (w / 65536 % 256) (w / 256 % 256) (w % 256))
    Open)
