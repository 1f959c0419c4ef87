-- The refusals of a sheet in words. Assumes nothing.
use Rattle.std.specs.Prelude.{ℕ, List, codes}
use Rattle.sheet.specs.declared.refusal.Refusal.{Refusal}
use Rattle.sheet.specs.declared.refusal.Refusal.TheVariants.{Part, Size, Cell, Taken, Full, Mode}

abbrev pub sheet_text : Refusal → List ℕ
sheet_text Part = codes "the part is over 7"
sheet_text Size = codes "the number of cells is 0 or over 512"
sheet_text Cell = codes "the cell is beyond the cells"
sheet_text Taken = codes "the cell is swapped, or a part has it"
sheet_text Full = codes "16 cells are swapped already"
sheet_text Mode = codes "the mode is over 3"
