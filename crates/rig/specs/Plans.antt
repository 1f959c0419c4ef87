-- A setup as plain values, line by line. Assumes nothing.
use Rattle.std.specs.Prelude.{ℕ, ◌+◌, cond, List, [], ◌∷◌, replicate, Some, None, Ok, Err, Option, Result, ◌==◌, nat_lt, slice_set}
use Rattle.std.specs.Option.{unwrap_or}
use Rattle.element.specs.Pairs.{pair}
use Rattle.element.specs.declared.words.Words.{Words}
use Rattle.part.specs.Sets.{parts}
use Rattle.port.specs.Sets.{no_sets, settled}
use Rattle.port.specs.declared.ports.Port.{Port}
use Rattle.sheet.specs.Rows.{Rows, Outcome, made, granted, swapped}
use Rattle.setup.specs.Directives.{line_of}
use Rattle.setup.specs.Pieces.{lines_of}
use Rattle.setup.specs.declared.directive.Bottom.{Bottom}
use Rattle.setup.specs.declared.directive.Bottom.TheVariants.{Flat}
use Rattle.setup.specs.declared.directive.ElementKind.{ElementKind}
use Rattle.setup.specs.declared.directive.Directive.{Directive}
use Rattle.setup.specs.declared.directive.Directive.TheVariants as the
use Rattle.setup.specs.declared.problem.LineProblem.{LineProblem}

-- why a setup is refused: a line that cannot be read, a directive too many or too early, a refusal by its number, or something missing
pub data Trouble : Type 0 where
  unread : LineProblem → Trouble
  repeated : Trouble
  early : Trouble
  refused : ℕ → Trouble
  no_kind : Trouble
  no_cells : Trouble

-- a setup as far as its lines were read
pub record Plan : Type 0 where
  pub kind : Option ElementKind
  pub store : Option Bottom
  pub layers : Option ℕ
  pub rows : Option Rows
  pub ports : List Port
  pub elements : List Words

abbrev pub with_kind : Plan → Option ElementKind → Plan
with_kind p k = record { kind = k; store = p.store; layers = p.layers; rows = p.rows; ports = p.ports; elements = p.elements }

abbrev pub with_store : Plan → Option Bottom → Plan
with_store p b = record { kind = p.kind; store = b; layers = p.layers; rows = p.rows; ports = p.ports; elements = p.elements }

abbrev pub with_layers : Plan → Option ℕ → Plan
with_layers p n = record { kind = p.kind; store = p.store; layers = n; rows = p.rows; ports = p.ports; elements = p.elements }

abbrev pub with_rows : Plan → Rows → Plan
with_rows p s = record { kind = p.kind; store = p.store; layers = p.layers; rows = Some s; ports = p.ports; elements = p.elements }

abbrev pub with_ports : Plan → List Port → Plan
with_ports p ps = record { kind = p.kind; store = p.store; layers = p.layers; rows = p.rows; ports = ps; elements = p.elements }

abbrev pub with_elements : Plan → List Words → Plan
with_elements p es = record { kind = p.kind; store = p.store; layers = p.layers; rows = p.rows; ports = p.ports; elements = es }

-- before the first line
abbrev pub empty : Plan
empty = record { kind = None; store = None; layers = None; rows = None; ports = replicate 16 no_sets; elements = replicate 512 (pair 0 0) }

-- one step and then another, the first trouble being told
abbrev pub then : {X Y : Type 0} → Result X Trouble → (X → Result Y Trouble) → Result Y Trouble
then (Ok x) f = f x
then (Err t) f = Err t

-- what may stand once
abbrev pub once : {X : Type 0} → Option X → X → Result (Option X) Trouble
once None x = Ok (Some x)
once (Some y) x = Err repeated

-- the rows of an outcome, or its refusal
abbrev pub accepted : Outcome → Result Rows Trouble
accepted o = cond (o.number == 0) (Ok o.rows) (Err (refused o.number))

-- a sheet is made once
abbrev pub sized : Option Rows → ℕ → Result Rows Trouble
sized None n = accepted (made n)
sized (Some s) n = Err repeated

-- a change of the sheet, which must be there
abbrev pub changed : Option Rows → (Rows → Outcome) → Result Rows Trouble
changed None f = Err early
changed (Some s) f = accepted (f s)

-- an element for a cell of the sheet, in place of an earlier one
abbrev pub placed : Option Rows → List Words → ℕ → Words → Result (List Words) Trouble
placed None es c w = Err early
placed (Some s) es c w = cond (nat_lt c s.size) (Ok (slice_set es c w)) (Err (refused 20))

abbrev pub taken_element : Plan → ℕ → Words → Result Plan Trouble
taken_element p cell words = then (placed p.rows p.elements cell words) (λ es. Ok (with_elements p es))

-- what a directive makes of a setup
abbrev pub taken : Plan → Directive → Result Plan Trouble
taken p (the.Kind k) = then (once p.kind k) (λ o. Ok (with_kind p o))
taken p (the.Store b) = then (once p.store b) (λ o. Ok (with_store p o))
taken p (the.Layers n) = then (once p.layers n) (λ o. Ok (with_layers p o))
taken p (the.Cells n) = then (sized p.rows n) (λ s. Ok (with_rows p s))
taken p (the.Grant cell part mode) = then (changed p.rows (λ s. granted parts s cell part mode)) (λ s. Ok (with_rows p s))
taken p (the.Swap cell) = then (changed p.rows (λ s. swapped s cell)) (λ s. Ok (with_rows p s))
taken p (the.Port x senders receivers) = cond (nat_lt x 16) (Ok (with_ports p (settled p.ports x senders receivers))) (Err (refused 11))
taken p (the.Element cell words) = taken_element p cell words

-- what the reading of a line makes of a setup
abbrev pub taken_line : Plan → Result (Option Directive) LineProblem → Result Plan Trouble
taken_line p (Err e) = Err (unread e)
taken_line p (Ok None) = Ok p
taken_line p (Ok (Some d)) = taken p d

-- what a host is made from
pub record Rig : Type 0 where
  pub kind : ElementKind
  pub store : Bottom
  pub layers : ℕ
  pub rows : Rows
  pub ports : List Port
  pub elements : List Words

-- the end of the text: kind and cells must have stood; the store is flat and there are no layers where no line says so
abbrev pub ended : Plan → Option ElementKind → Option Rows → Result Rig Trouble
ended p None rows = Err no_kind
ended p (Some k) None = Err no_cells
ended p (Some k) (Some s) = Ok (record { kind = k; store = unwrap_or p.store Flat; layers = unwrap_or p.layers 0; rows = s; ports = p.ports; elements = p.elements })

-- where trouble stands
pub record Place : Type 0 where
  pub line : ℕ
  pub trouble : Trouble

-- a step at line n, and what follows where it is no trouble
abbrev pub then_at : {X Y : Type 0} → ℕ → Result X Trouble → (X → Result Y Place) → Result Y Place
then_at n (Ok x) f = f x
then_at n (Err t) f = Err (record { line = n; trouble = t })

-- lines in their order, after n others: the first trouble is told with its line
abbrev pub carried : Plan → ℕ → List (List ℕ) → Result Rig Place
carried p n [] = then_at n (ended p p.kind p.rows) (λ r. Ok r)
carried p n (l ∷ ls) = then_at (n + 1) (taken_line p (line_of l)) (λ q. carried q (n + 1) ls)

-- what a setup text asks
abbrev pub rig_of : List ℕ → Result Rig Place
rig_of text = carried empty 0 (lines_of text)
