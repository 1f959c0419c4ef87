-- The numbers of the refusals to open a file. Assumes nothing.
use Rattle.std.specs.Prelude.{ℕ, List, ◌++◌, codes, decimal}
use Rattle.showfile.specs.declared.refusal.FileRefusal.{FileRefusal}
use Rattle.showfile.specs.declared.refusal.FileRefusal.TheVariants.{Length, Head, Outside, Endless}

abbrev pub number_of : FileRefusal → ℕ
number_of Length = 1
number_of Head = 2
number_of (Outside r) = 3
number_of Endless = 4

-- a refusal in words
abbrev pub text_of : FileRefusal → List ℕ
text_of Length = codes "refusal 1: the length is 0, over 65536 bytes or no multiple of 32"
text_of Head = codes "refusal 2: the head holds more than a next index"
text_of (Outside r) = codes "refusal 3: record " ++ (decimal r ++ codes " leads outside the file")
text_of Endless = codes "refusal 4: the chain never reaches zero"
