-- The problems of a line in words. Assumes nothing.
use Rattle.std.specs.Prelude.{ℕ, List, ◌++◌, codes, decimal}
use Rattle.setup.specs.declared.problem.LineProblem.{LineProblem}
use Rattle.setup.specs.declared.problem.LineProblem.TheVariants.{UnknownDirective, MissingWord, ExtraWord, NotNumber, TooLarge, UnknownKind, UnknownStore}

abbrev pub problem_text : LineProblem → List ℕ
problem_text UnknownDirective = codes "no such directive"
problem_text MissingWord = codes "a word is missing"
problem_text ExtraWord = codes "a word too many"
problem_text NotNumber = codes "not a number"
problem_text (TooLarge most) = codes "the number is over " ++ decimal most
problem_text UnknownKind = codes "the kind is neither level nor head"
problem_text UnknownStore = codes "the store is neither flat nor packed"
