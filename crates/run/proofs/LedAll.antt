-- A run on a host that a history led to. Assumes nothing.
use Rattle.std.proofs.Common.{◌≡◌, ℕ, Bool, List, [], ◌∷◌, ◌++◌, map, length, take, drop, sym, refl, ap, ◌∙◌, subst, ap₂}
use lib.Seq.{take-append_seam}
use Rattle.std.proofs.lemmas.List.{length-map}
use Rattle.element.specs.declared.words.Words.{Words}
use Rattle.element.specs.declared.element.Element.{Ghosts as Elements}
use Rattle.instruction.specs.declared.set.InstructionSet.{Ghosts as Sets}
use Rattle.store.specs.declared.store.Store.{Ghosts as Stores}
use Rattle.command.specs.declared.log.LogRecord.{LogRecord}
use Rattle.isolation.specs.Making.{Making, Exclusive}
use Rattle.isolation.specs.Request.{Request, Step}
use Rattle.isolation.specs.Machine.{State, made, step, host_step}
use Rattle.isolation.specs.History.{log_of, after_all, state_after}
use Rattle.isolation.proofs.History.{after_push}
use Rattle.host.specs.declared.host.Host.{Host}
use Rattle.host.specs.Logged.{record_of}
use Rattle.host.specs.Hosted.{state_of, fits_of, making_of}
use Rattle.host.specs.Led.{Led}
use Rattle.host.proofs.Leading.{shown, exclusive_led}
use Rattle.run.specs.Runs.{ShownAll, Plays, Ran}
use Rattle.run.proofs.Filled.{length-log}

after_append : {E S : Type 0} (f : Request → S → Step E S) (s : S) (h cs : List Request) → after_all f s (h ++ cs) ≡ after_all f (after_all f s h) cs
after_append f s [] cs = refl
after_append f s (c ∷ h) cs = after_append f (f c s).after h cs

shown_all : {E : Type 0} (p : E → Words) (k : Making E) → Exclusive k → (h cs : List Request) → ShownAll p k h cs (map (record_of p) (log_of (step k) (state_after k h) cs))
shown_all p k ex h [] = tt
shown_all p k ex h (c ∷ cs) = (
  shown p k ex h c _ refl,
  subst (λ (s : State _). ShownAll p k (h ++ (c ∷ [])) cs (map (record_of p) (log_of (step k) s cs))) (after_push (step k) (made k) h c) (shown_all p k ex (h ++ (c ∷ [])) cs),
)

front : {V : Type 0} (n : ℕ) (xs ys : List V) → n ≡ length xs → take n (xs ++ ys) ≡ xs
front n xs ys e = ap (λ (i : ℕ). take i (xs ++ ys)) e ∙ take-append_seam xs ys

-- the isolation of a run follows from its log and the state after it
module _ {S I E : Type 0} (st : Stores S E) (el : Elements E) (is : Sets I E) (x y : Host S I E) (cs : List Request) (l l' : List LogRecord) (did : Plays st el is x y cs l l') where
  abbrev taking : (ℕ → E) → Request → State E → Step E (State E)
  taking m = host_step (fits_of st el x) (making_of el is x m)

  module _ (k : Making E) (h : List Request) (led : Led st el is k h x) where
    taken_is : taking k.cells ≡ step k
    taken_is = ap (λ (b : Bool). host_step b (making_of el is x k.cells)) led.accepted ∙ ap (λ (j : Making E). step j) led.making

    logged : take (length cs) l' ≡ map (record_of el.packed) (log_of (step k) (state_after k h) cs)
    logged =
        let rec = record_of el.packed in
        let done = log_of (taking k.cells) (state_of st el x) cs in
        ap (take (length cs)) (did.log k.cells)
        ∙ (front (length cs) (map rec done) (drop (length cs) l) (sym (length-map done rec ∙ length-log (taking k.cells) (state_of st el x) cs))
        ∙ ap₂ (λ (f : Request → State E → Step E (State E)) (s : State E). map rec (log_of f s cs)) taken_is led.state)

  pub ran : Ran st el is x y cs l l'
  ran = record {
    plays = did;
    isolated = λ k h led. subst (λ (rs : List LogRecord). ShownAll el.packed k h cs rs) (sym (logged k h led)) (shown_all el.packed k (exclusive_led st el is x k h led) h cs);
    led = λ k h led. record {
      making = did.making k.cells ∙ led.making;
      accepted = did.fits ∙ led.accepted;
      state = did.state k.cells ∙ (ap₂ (λ (f : Request → State E → Step E (State E)) (s : State E). after_all f s cs) (taken_is k h led) led.state ∙ sym (after_append (step k) (made k) h cs));
    };
  }
