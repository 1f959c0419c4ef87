-- The options by name. Assumes nothing.
use Rattle.std.specs.Prelude.{ℕ, cond, List, Some, None, codes, Option}
use Rattle.std.specs.Str.{bytes_eq}
use Rattle.console.specs.declared.flag.Flag.{Flag}
use Rattle.console.specs.declared.flag.Flag.TheVariants.{Log, Solo}

abbrev pub flag_of : List ℕ → Option Flag
flag_of w = cond (bytes_eq w (codes "--log")) (Some Log) (cond (bytes_eq w (codes "--solo")) (Some Solo) None)
