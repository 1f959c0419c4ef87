-- Heads, and how they pack. Assumes nothing.
use Rattle.std.specs.Prelude.{ℕ, ◌+◌, ◌*◌, ◌/◌, ◌%◌}
use Rattle.std.proofs.Common.{arith}
use Rattle.element.specs.declared.words.Words.{Words}
use Rattle.element.specs.declared.colour.Colour.{Colour}
use Rattle.element.specs.declared.head.Head.{Head}
use Rattle.element.specs.Pairs.{pair}
use Rattle.element.specs.Bytes.{low_bytes, low_in_bytes}
use Rattle.element.specs.Colours.{colour_word, word_colour}

-- the head of these parts: 16 low bits of pan and tilt, 8 of each part of the colour
abbrev pub head : ℕ → ℕ → Colour → Head
head p t c = record {
  pan = p % 65536;
  tilt = t % 65536;
  colour = low_bytes c;
  panned = omega arith;
  tilted = omega arith;
  coloured = low_in_bytes c;
}

-- word 0 has pan above tilt, word 1 the colour
abbrev pub head_words : Head → Words
head_words h = pair (h.pan * 65536 + h.tilt) (colour_word h.colour)

abbrev pub words_head : Words → Head
words_head w = head (w.first / 65536) (w.first % 65536) (word_colour w.second)
