-- Levels, and how they pack. Assumes nothing.
use Rattle.std.specs.Prelude.{ℕ, ◌%◌}
use Rattle.std.proofs.Common.{arith}
use Rattle.element.specs.declared.words.Words.{Words}
use Rattle.element.specs.declared.level.Level.{Level}
use Rattle.element.specs.Pairs.{pair}

-- the level in the low 8 bits of a number
abbrev pub level : ℕ → Level
level n = record { value = n % 256; byte = omega arith }

-- word 0 is the level, word 1 is 0
abbrev pub level_words : Level → Words
level_words l = pair l.value 0

-- the low 8 bits of word 0
abbrev pub words_level : Words → Level
words_level w = level w.first
