-- One command on a host that a history led to. Assumes nothing.
use Rattle.std.proofs.Common.{◌≡◌, ℕ, Bool, List, get_or, Result, sym, ap, ◌∙◌, subst, ap₂}
use Rattle.element.specs.declared.words.Words.{Words}
use Rattle.element.specs.declared.element.Element.{Ghosts as Elements}
use Rattle.instruction.specs.declared.fault.SetFault.{SetFault}
use Rattle.instruction.specs.declared.set.InstructionSet.{Ghosts as Sets}
use Rattle.store.specs.declared.store.Store.{Ghosts as Stores}
use Rattle.sheet.specs.declared.sheet.Sheet.{Sheet}
use Rattle.sheet.specs.Sound.{reads, writes}
use Rattle.sheet.proofs.Keeps.{each_exclusive}
use Rattle.sheet.proofs.Members.{member_place}
use Rattle.port.specs.declared.ports.Ports.{Ports}
use Rattle.command.specs.declared.log.LogRecord.{LogRecord}
use Rattle.isolation.specs.Making.{Making, Exclusive}
use Rattle.isolation.specs.Request.{Request, Answer, Step, entry}
use Rattle.isolation.specs.Machine.{State, made, step, host_step}
use Rattle.isolation.specs.History.{state_after, answer_after}
use Rattle.isolation.proofs.History.{isolated_answer, after_push}
use Rattle.host.specs.declared.host.Host.{Host}
use Rattle.host.specs.Logged.{record_of}
use Rattle.host.specs.Hosted.{state_of, fits_of, making_of, making_with}
use Rattle.host.specs.Led.{Led, Shown}
use Rattle.host.specs.Commands.{Commanded}

-- the sheet's type makes every making exclusive
pub exclusive_of : {E : Type 0} (z : E) (f : ℕ → List E → Result (List E) SetFault) (sheet : Sheet) (ports : Ports) (m : ℕ → E) → Exclusive (making_with z f sheet ports m)
exclusive_of z f sheet ports m = record {
  single = each_exclusive sheet.rights;
  bare = λ n t.
      let i = member_place sheet.swapped sheet.count n t in
      (ap (λ (x : ℕ). get_or (reads sheet.rights) x 0) (sym i.2) ∙ sheet.unread i.0 i.1, ap (λ (x : ℕ). get_or (writes sheet.rights) x 0) (sym i.2) ∙ sheet.unwritten i.0 i.1);
}

pub shown : {E : Type 0} (p : E → Words) (k : Making E) → Exclusive k → (h : List Request) (c : Request) (r : LogRecord) → r ≡ record_of p (entry c (answer_after k h c)) → Shown p k h c r
shown p k ex h c r e =
    let i = isolated_answer k ex h c in
    record {
      machine = e;
      boxes = e ∙ ap (λ (a : Answer _). record_of p (entry c a)) i.boxes;
      alone = λ q l t. e ∙ ap (λ (a : Answer _). record_of p (entry c a)) (i.alone q l t);
      upstream = i.upstream;
    }

module _ {S I E : Type 0} (st : Stores S E) (el : Elements E) (is : Sets I E) (x : Host S I E) (k : Making E) (h : List Request) (led : Led st el is k h x) where
  pub exclusive_led : Exclusive k
  exclusive_led = subst Exclusive led.making (exclusive_of el.blank (is.meaning x.set) x.sheet x.ports k.cells)

  step_led : (c : Request) → host_step (fits_of st el x) (making_of el is x k.cells) c (state_of st el x) ≡ step k c (state_after k h)
  step_led c = ap (λ (b : Bool). host_step b (making_of el is x k.cells) c (state_of st el x)) led.accepted ∙ ap₂ (λ (j : Making E) (s : State E). step j c s) led.making led.state

module _ {S I E : Type 0} (st : Stores S E) (el : Elements E) (is : Sets I E) (x y : Host S I E) (c : Request) (r : LogRecord) where
  -- the isolation of an answer follows from what the answer and the state after it are
  pub commanded : ((m : ℕ → E) → r ≡ record_of el.packed (entry c (host_step (fits_of st el x) (making_of el is x m) c (state_of st el x)).answer)) →
      ((m : ℕ → E) → state_of st el y ≡ (host_step (fits_of st el x) (making_of el is x m) c (state_of st el x)).after) →
      ((m : ℕ → E) → making_of el is y m ≡ making_of el is x m) → fits_of st el y ≡ fits_of st el x → Commanded st el is x y c r
  commanded ans sta mk fit = record {
    answer = ans;
    state = sta;
    making = mk;
    fits = fit;
    isolated = λ k h led.
        shown el.packed k (exclusive_led st el is x k h led) h c r
        (ans k.cells ∙ ap (λ (t : Step E (State E)). record_of el.packed (entry c t.answer)) (step_led st el is x k h led c));
    led = λ k h led. record {
      making = mk k.cells ∙ led.making;
      accepted = fit ∙ led.accepted;
      state = sta k.cells ∙ (ap (λ (t : Step E (State E)). t.after) (step_led st el is x k h led c) ∙ sym (after_push (step k) (made k) h c));
    };
  }
