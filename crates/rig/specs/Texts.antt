-- The problems of a setup in words. Assumes nothing.
use Rattle.std.specs.Prelude.{ℕ, List, ◌++◌, codes, decimal}
use Rattle.port.specs.Sets as ports
use Rattle.port.specs.Texts.{port_text}
use Rattle.setup.specs.Problems as lines
use Rattle.sheet.specs.View.{number_of}
use Rattle.sheet.specs.Texts.{sheet_text}
use Rattle.rig.specs.declared.problem.Problem.{Problem}
use Rattle.rig.specs.declared.problem.Problem.TheVariants as the
use Rattle.rig.specs.declared.problem.SetupError.{SetupError}

abbrev pub problem_text : Problem → List ℕ
problem_text (the.Line p) = lines.problem_text p
problem_text the.Repeated = codes "this directive stands a second time"
problem_text the.Early = codes "`cells` has to stand before this line"
problem_text (the.Sheet r) = codes "refusal " ++ (decimal (number_of r) ++ (codes ": " ++ sheet_text r))
problem_text (the.Port r) = codes "refusal " ++ (decimal (ports.number_of r) ++ (codes ": " ++ port_text r))
problem_text the.Beyond = codes "refusal 20: the cell is beyond the cells"
problem_text the.NoKind = codes "the text ends without a `kind`"
problem_text the.NoCells = codes "the text ends without a `cells`"

abbrev pub error_text : SetupError → List ℕ
error_text e = codes "line " ++ (decimal e.line ++ (codes ": " ++ problem_text e.problem))
