-- What the outcome of opening or running a show tells. Assumes nothing.
use Rattle.std.specs.Prelude.{ℕ, Ok, Err, Result}
use Rattle.showfile.specs.declared.refusal.FileRefusal.{FileRefusal}
use Rattle.showfile.specs.declared.refusal.FileRefusal.TheVariants.{Length, Head, Outside, Endless}
use Rattle.showfile.specs.Refusals as file
use Rattle.run.specs.declared.refusal.RunRefusal.{RunRefusal}
use Rattle.run.specs.Refusals as run
use Rattle.driver.specs.declared.outcome.Outcome.{Outcome}

-- so many commands
abbrev pub commands_of : ℕ → Outcome
commands_of n = record { refusal = 0; at = 0; commands = n }

abbrev pub refused_by : ℕ → Outcome
refused_by n = record { refusal = n; at = 0; commands = 0 }

-- the record that a refusal names
abbrev pub named : FileRefusal → ℕ
named Length = 0
named Head = 0
named (Outside x) = x
named Endless = 0

abbrev pub unopened_by : FileRefusal → Outcome
unopened_by why = record { refusal = file.number_of why; at = named why; commands = 0 }

-- how a run of n commands ended
abbrev pub ended_as : ℕ → Result ℕ RunRefusal → Outcome
ended_as n (Ok m) = commands_of n
ended_as n (Err why) = refused_by (run.number_of why)
