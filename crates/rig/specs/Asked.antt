-- An accepted setup by the directives of its text, in their order. Assumes nothing.
use Rattle.std.specs.Prelude.{◌≡◌, ℕ, List, [], ◌∷◌, replicate, Some, None, Ok, Err, Option, Result, slice_set}
use Rattle.std.specs.Option.{option_map}
use Rattle.element.specs.Pairs.{pair}
use Rattle.element.specs.declared.words.Words.{Words}
use Rattle.part.specs.Sets.{parts}
use Rattle.port.specs.Sets.{no_sets, settled}
use Rattle.port.specs.declared.ports.Port.{Port}
use Rattle.sheet.specs.Rows.{Rows, made, granted, swapped}
use Rattle.setup.specs.Directives.{line_of}
use Rattle.setup.specs.Pieces.{lines_of}
use Rattle.setup.specs.declared.directive.Directive.{Directive}
use Rattle.setup.specs.declared.directive.Directive.TheVariants as the
use Rattle.setup.specs.declared.problem.LineProblem.{LineProblem}
use Rattle.rig.specs.Plans.{Rig}

-- what a line asks, in front of what the lines behind it ask
abbrev pub asking : Result (Option Directive) LineProblem → List Directive → List Directive
asking (Err e) ds = ds
asking (Ok None) ds = ds
asking (Ok (Some d)) ds = d ∷ ds

-- the directives of some lines, in their order
abbrev pub directives : List (List ℕ) → List Directive
directives [] = []
directives (l ∷ ls) = asking (line_of l) (directives ls)

-- what a directive makes of the sheet, the ports and the first elements
abbrev pub sheet_step : Option Rows → Directive → Option Rows
sheet_step s (the.Kind k) = s
sheet_step s (the.Store b) = s
sheet_step s (the.Layers n) = s
sheet_step s (the.Cells n) = Some (made n).rows
sheet_step s (the.Grant cell part mode) = option_map (λ r. (granted parts r cell part mode).rows) s
sheet_step s (the.Swap cell) = option_map (λ r. (swapped r cell).rows) s
sheet_step s (the.Port x senders receivers) = s
sheet_step s (the.Element cell words) = s

abbrev pub ports_step : List Port → Directive → List Port
ports_step ps (the.Kind k) = ps
ports_step ps (the.Store b) = ps
ports_step ps (the.Layers n) = ps
ports_step ps (the.Cells n) = ps
ports_step ps (the.Grant cell part mode) = ps
ports_step ps (the.Swap cell) = ps
ports_step ps (the.Port x senders receivers) = settled ps x senders receivers
ports_step ps (the.Element cell words) = ps

abbrev pub elements_step : List Words → Directive → List Words
elements_step es (the.Kind k) = es
elements_step es (the.Store b) = es
elements_step es (the.Layers n) = es
elements_step es (the.Cells n) = es
elements_step es (the.Grant cell part mode) = es
elements_step es (the.Swap cell) = es
elements_step es (the.Port x senders receivers) = es
elements_step es (the.Element cell words) = slice_set es cell words

-- one step after another
abbrev pub in_order : {X : Type 0} → (X → Directive → X) → X → List Directive → X
in_order f x [] = x
in_order f x (d ∷ ds) = in_order f (f x d) ds

-- the sheet, the ports and the first elements are what the directives make of none, in the order of the text
pub record Asked (text : List ℕ) (r : Rig) : Type 0 where
  pub sheet : Some r.rows ≡ in_order sheet_step None (directives (lines_of text))
  pub ports : r.ports ≡ in_order ports_step (replicate 16 no_sets) (directives (lines_of text))
  pub elements : r.elements ≡ in_order elements_step (replicate 512 (pair 0 0)) (directives (lines_of text))
