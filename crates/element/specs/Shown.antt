-- Elements as people read them, in ASCII. Assumes nothing.
use Rattle.std.specs.Prelude.{ℕ, List, ◌++◌, codes, decimal}
use Rattle.element.specs.declared.level.Level.{Level}
use Rattle.element.specs.declared.head.Head.{Head}
use Rattle.element.specs.declared.colour.Colour.{Colour}
use Rattle.element.specs.declared.colour.Colour.TheVariants.{Open, Slot, Mix}

abbrev pub level_text : Level → List ℕ
level_text l = decimal l.value

abbrev pub colour_text : Colour → List ℕ
colour_text Open = codes "open"
colour_text (Slot n) = codes "slot " ++ decimal n
colour_text (Mix r g b) = codes "mix " ++ (decimal r ++ (codes " " ++ (decimal g ++ (codes " " ++ decimal b))))

abbrev pub head_text : Head → List ℕ
head_text h = codes "pan " ++ (decimal h.pan ++ (codes " tilt " ++ (decimal h.tilt ++ (codes " " ++ colour_text h.colour))))
