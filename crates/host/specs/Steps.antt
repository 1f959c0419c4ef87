-- A step of the machine that the code takes. Assumes nothing.
use Rattle.std.specs.Prelude.{◌≡◌, ℕ, Ok, Err, Result}
use Rattle.element.specs.declared.element.Element.{Ghosts as Elements}
use Rattle.instruction.specs.declared.set.InstructionSet.{Ghosts as Sets}
use Rattle.store.specs.declared.store.Store.{Ghosts as Stores}
use Rattle.command.specs.declared.refusal.Refusal.{Refusal}
use Rattle.command.specs.Answers.{Answer, refusal_number, refusal_detail}
use Rattle.reply.specs.Told.{told}
use Rattle.isolation.specs.Making.{Making}
use Rattle.isolation.specs.Request.{Step}
use Rattle.isolation.specs.Check.{Verdict, pass, fail}
use Rattle.isolation.specs.Machine.{State}
use Rattle.host.specs.declared.host.Host.{Host}
use Rattle.host.specs.Logged.{told_of}
use Rattle.host.specs.Hosted.{state_of, fits_of, making_of}

-- the host was x and is y, and answered r: the step t of the machine; of the host all but the state stays
pub record Does {S I E : Type 0} (st : Stores S E) (el : Elements E) (is : Sets I E) (x y : Host S I E) (t : Making E → State E → Step E (State E)) (r : Answer) : Type 0 where
  pub state : (m : ℕ → E) → state_of st el y ≡ (t (making_of el is x m) (state_of st el x)).after
  pub making : (m : ℕ → E) → making_of el is y m ≡ making_of el is x m
  pub fits : fits_of st el y ≡ fits_of st el x
  pub answer : (m : ℕ → E) → told r ≡ told_of el.packed (t (making_of el is x m) (state_of st el x)).answer

-- what a check answered: go on, or a refusal
abbrev pub Checked : Type 0
Checked = Result (Unit {0}) Refusal

abbrev pub verdict_of : Checked → Verdict
verdict_of (Ok u) = pass
verdict_of (Err r) = fail (refusal_number r) (refusal_detail r)

-- a verdict that goes on with another
abbrev pub then : Checked → Verdict → Verdict
then (Ok u) v = v
then (Err r) v = fail (refusal_number r) (refusal_detail r)
