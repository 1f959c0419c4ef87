-- A step of the host's code, told in other words. Assumes nothing.
use Rattle.std.proofs.Common.{◌≡◌, ℕ, Ok, Err, sym, refl, ap, ◌∙◌, subst}
use Rattle.std.specs.Result.{IsErrAnd}
use Rattle.element.specs.declared.element.Element.{Ghosts as Elements}
use Rattle.instruction.specs.declared.set.InstructionSet.{Ghosts as Sets}
use Rattle.store.specs.declared.store.Store.{Ghosts as Stores}
use Rattle.command.specs.declared.refusal.Refusal.{Refusal}
use Rattle.command.specs.Answers.{Answer, refusal_number, refusal_detail}
use Rattle.isolation.specs.Making.{Making}
use Rattle.isolation.specs.Request.{Step, refused}
use Rattle.isolation.specs.Machine.{State}
use Rattle.host.specs.declared.host.Host.{Host}
use Rattle.host.specs.Logged.{told_of}
use Rattle.host.specs.Hosted.{state_of, making_of}
use Rattle.host.specs.Steps.{Does}

module _ {S I E : Type 0} (st : Stores S E) (el : Elements E) (is : Sets I E) (x y : Host S I E) where
  -- one step for another that is the same here
  pub does_same : (t t' : Making E → State E → Step E (State E)) (r : Answer) → ((m : ℕ → E) → t' (making_of el is x m) (state_of st el x) ≡ t (making_of el is x m) (state_of st el x)) →
      Does st el is x y t r → Does st el is x y t' r
  does_same t t' r e d = record {
    state = λ m. d.state m ∙ sym (ap (λ (a : Step E (State E)). a.after) (e m));
    making = d.making;
    fits = d.fits;
    answer = λ m. d.answer m ∙ sym (ap (λ (a : Step E (State E)). told_of el.packed a.answer) (e m));
  }

module _ {S I E : Type 0} (st : Stores S E) (el : Elements E) (is : Sets I E) (x : Host S I E) where
  -- a refusal, which alters nothing
  pub does_refuse : (t : Making E → State E → Step E (State E)) (why : Refusal) →
      ((m : ℕ → E) → t (making_of el is x m) (state_of st el x) ≡ record { answer = refused (refusal_number why) (refusal_detail why); after = state_of st el x }) →
      Does st el is x x t (Err why)
  does_refuse t why e = record {
    state = λ m. sym (ap (λ (a : Step E (State E)). a.after) (e m));
    making = λ m. refl;
    fits = refl;
    answer = λ m. sym (ap (λ (a : Step E (State E)). told_of el.packed a.answer) (e m));
  }

  -- the same, where `?` gave it back
  pub does_fail : (t : Making E → State E → Step E (State E)) (r : Answer) (why : Refusal) → IsErrAnd r (λ (e : Refusal). e ≡ why) →
      ((m : ℕ → E) → t (making_of el is x m) (state_of st el x) ≡ record { answer = refused (refusal_number why) (refusal_detail why); after = state_of st el x }) →
      Does st el is x x t r
  does_fail t (Ok v) why h e = absurd h
  does_fail t (Err other) why h e = subst (λ (f : Refusal). Does st el is x x t (Err f)) (sym h) (does_refuse t why e)
