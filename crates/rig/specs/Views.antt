-- What the code's values stand for. Assumes nothing.
use Rattle.std.specs.Prelude.{Ok, Err, Result}
use Rattle.std.specs.Option.{option_map}
use Rattle.port.specs.Sets as ports
use Rattle.sheet.specs.View as sheets
use Rattle.rig.specs.declared.draft.Draft.{Draft}
use Rattle.rig.specs.declared.whole_setup.Setup.{Setup}
use Rattle.rig.specs.declared.problem.Problem.{Problem}
use Rattle.rig.specs.declared.problem.Problem.TheVariants as the
use Rattle.rig.specs.declared.problem.SetupError.{SetupError}
use Rattle.rig.specs.Plans.{Plan, Rig, Place, Trouble, unread, repeated, early, refused, no_kind, no_cells}

-- a problem as trouble: a refusal is told by its number
abbrev pub trouble_of : Problem → Trouble
trouble_of (the.Line p) = unread p
trouble_of the.Repeated = repeated
trouble_of the.Early = early
trouble_of (the.Sheet r) = refused (sheets.number_of r)
trouble_of (the.Port r) = refused (ports.number_of r)
trouble_of the.Beyond = refused 20
trouble_of the.NoKind = no_kind
trouble_of the.NoCells = no_cells

-- a draft as a plan
abbrev pub plan_of : Draft → Plan
plan_of d = record {
  kind = d.kind;
  store = d.store;
  layers = d.layers;
  rows = option_map sheets.rows_of d.sheet;
  ports = d.ports.ports;
  elements = d.elements;
}

-- a setup as plain values
abbrev pub plain_of : Setup → Rig
plain_of s = record { kind = s.kind; store = s.store; layers = s.layers; rows = sheets.rows_of s.sheet; ports = s.ports.ports; elements = s.elements }

-- results by what they stand for
abbrev pub told : {X Y : Type 0} → (X → Y) → Result X Problem → Result Y Trouble
told f (Ok x) = Ok (f x)
told f (Err p) = Err (trouble_of p)

abbrev pub told_at : Result Setup SetupError → Result Rig Place
told_at (Ok s) = Ok (plain_of s)
told_at (Err e) = Err (record { line = e.line; trouble = trouble_of e.problem })
