-- A host seen as one whose store is the plain list of its elements. Assumes nothing.
use Rattle.std.proofs.Common.{◌≡◌, ℕ, Bool, List, ◌++◌, map, length, drop, sym, ap, ◌∙◌, ap₂}
use Rattle.element.specs.declared.element.Element.{Ghosts as Elements}
use Rattle.instruction.specs.declared.set.InstructionSet.{Ghosts as Sets}
use Rattle.store.specs.declared.store.Store.{Ghosts as Stores}
use Rattle.command.specs.declared.log.LogRecord.{LogRecord}
use Rattle.isolation.specs.Making.{Making}
use Rattle.isolation.specs.Request.{Request, Step, entry}
use Rattle.isolation.specs.Machine.{State, host_step}
use Rattle.isolation.specs.History.{log_of, after_all}
use Rattle.host.specs.declared.host.Host.{Host}
use Rattle.host.specs.declared.host.Kept.{Kept}
use Rattle.host.specs.Keeping.{resumed, listed}
use Rattle.host.specs.Logged.{record_of}
use Rattle.host.specs.Hosted.{state_of, fits_of, making_of}
use Rattle.host.specs.Commands.{Commanded}
use Rattle.host.proofs.Leading.{commanded}
use Rattle.run.specs.Runs.{Ran}
use Rattle.run.proofs.LedAll.{ran}

-- a making with the set of another
abbrev with_set : {E : Type 0} → Making E → Making E → Making E
with_set j k = record {
  null = j.null;
  set = k.set;
  parts = j.parts;
  size = j.size;
  reads = j.reads;
  writes = j.writes;
  swapped = j.swapped;
  sends = j.sends;
  receives = j.receives;
  cells = j.cells;
}

module _ {S I E : Type 0} (st : Stores S E) where
  abbrev pub plain : Host S I E → Host (List E) I E
  plain h = record { store = st.cells h.store; set = h.set; sheet = h.sheet; ports = h.ports; rows = h.rows; turn = h.turn; queues = h.queues }

  module _ (el : Elements E) (is : Sets I E) where
    -- A run on the host x, which goes on from k over s with set i, as one on plain lists. Afterwards it is y, kept as k' over s'; the meaning of
    -- its set is that of i.
    pub plain_ran : (k k' : Kept) (s s' : S) (i : I) (x y : Host S I E) (cs : List Request) (l l' : List LogRecord) →
        x ≡ resumed k s i → resumed k' y.store y.set ≡ y → s' ≡ y.store → Ran st el is x y cs l l' →
        Ran listed el is (resumed k (st.cells s) i) (resumed k' (st.cells s') i) cs l l'
    plain_ran k k' s s' i x y cs l l' ex ey es did =
        let x₀ = resumed k (st.cells s) i in
        let y₀ = resumed k' (st.cells s') i in
        let same : plain y ≡ resumed k' (st.cells s') y.set = ap plain (sym ey) ∙ ap (λ (t : S). resumed k' (st.cells t) y.set) (sym es) in
        let sx : state_of listed el (plain x) ≡ state_of listed el x₀ = ap (λ (h : Host S I E). state_of listed el (plain h)) ex in
        let fx : fits_of listed el (plain x) ≡ fits_of listed el x₀ = ap (λ (h : Host S I E). fits_of listed el (plain h)) ex in
        let mx = λ (m : ℕ → E). ap (λ (h : Host S I E). making_of el is (plain h) m) ex in
        let step = λ (m : ℕ → E). ap₂ (λ (b : Bool) (j : Making E). host_step b j) fx (mx m) in
        ran listed el is x₀ y₀ cs l l'
        (record {
          log = λ m. did.plays.log m ∙ ap₂ (λ (f : Request → State E → Step E (State E)) (t : State E). map (record_of el.packed) (log_of f t cs) ++ drop (length cs) l) (step m) sx;
          state = λ m. sym (ap (state_of listed el) same) ∙ (did.plays.state m ∙ ap₂ (λ (f : Request → State E → Step E (State E)) (t : State E). after_all f t cs) (step m) sx);
          making = λ m. ap (λ (j : Making E). with_set j (making_of el is x₀ m)) (sym (ap (λ (h : Host (List E) I E). making_of el is h m) same) ∙ (did.plays.making m ∙ mx m));
          fits = sym (ap (fits_of listed el) same) ∙ (did.plays.fits ∙ fx);
        })

    -- the same of one command
    pub plain_commanded : (k k' : Kept) (s s' : S) (i : I) (x y : Host S I E) (c : Request) (r : LogRecord) →
        x ≡ resumed k s i → resumed k' y.store y.set ≡ y → s' ≡ y.store → Commanded st el is x y c r →
        Commanded listed el is (resumed k (st.cells s) i) (resumed k' (st.cells s') i) c r
    plain_commanded k k' s s' i x y c r ex ey es did =
        let x₀ = resumed k (st.cells s) i in
        let y₀ = resumed k' (st.cells s') i in
        let same : plain y ≡ resumed k' (st.cells s') y.set = ap plain (sym ey) ∙ ap (λ (t : S). resumed k' (st.cells t) y.set) (sym es) in
        let fx : fits_of listed el (plain x) ≡ fits_of listed el x₀ = ap (λ (h : Host S I E). fits_of listed el (plain h)) ex in
        let mx = λ (m : ℕ → E). ap (λ (h : Host S I E). making_of el is (plain h) m) ex in
        let step = λ (m : ℕ → E). ap (λ (h : Host S I E). host_step (fits_of listed el (plain h)) (making_of el is (plain h) m) c (state_of listed el (plain h))) ex in
        commanded listed el is x₀ y₀ c r
        (λ m. did.answer m ∙ ap (λ (t : Step E (State E)). record_of el.packed (entry c t.answer)) (step m))
        (λ m. sym (ap (state_of listed el) same) ∙ (did.state m ∙ ap (λ (t : Step E (State E)). t.after) (step m)))
        (λ m. ap (λ (j : Making E). with_set j (making_of el is x₀ m)) (sym (ap (λ (h : Host (List E) I E). making_of el is h m) same) ∙ (did.making m ∙ mx m)))
        (sym (ap (fits_of listed el) same) ∙ (did.fits ∙ fx))
