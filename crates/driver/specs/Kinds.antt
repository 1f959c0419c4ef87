-- The two kinds of element and their instruction sets, as a host over packed words has them. Assumes nothing.
use Rattle.element.specs.declared.element.Element.{Ghosts as Elements}
use Rattle.element.specs.declared.level.Level.{Level}
use Rattle.element.specs.declared.head.Head.{Head}
use Rattle.element.specs.declared.colour.Colour.TheVariants.{Open}
use Rattle.element.specs.Levels.{level, level_words, words_level}
use Rattle.element.specs.Heads.{head, head_words, words_head}
use Rattle.instruction.specs.declared.set.InstructionSet.{Ghosts as Sets}
use Rattle.sets.specs.declared.level_set.LevelSet.{LevelSet}
use Rattle.sets.specs.declared.head_set.HeadSet.{HeadSet}
use Rattle.sets.specs.LevelMeaning.{level_meaning}
use Rattle.sets.specs.HeadMeaning.{head_meaning}

abbrev pub levels : Elements Level
levels = record { blank = level 0; packed = level_words; unpacked = words_level }

abbrev pub level_codes : Sets LevelSet Level
level_codes = record { meaning = λ s. level_meaning }

abbrev pub heads : Elements Head
heads = record { blank = head 0 0 Open; packed = head_words; unpacked = words_head }

abbrev pub head_codes : Sets HeadSet Head
head_codes = record { meaning = λ s. head_meaning }
