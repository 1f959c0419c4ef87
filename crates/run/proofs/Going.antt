-- A run after some turns. Assumes nothing.
use Rattle.std.proofs.Common.{◌≡◌, ℕ, ◌+◌, ◌<◌, ◌≤◌, Bool, true, false, List, [], ◌∷◌, ◌++◌, map, length, get_or, take, drop, set, sym, ap, ◌∙◌, subst, ap₂, arith, length-drop}
use Rattle.std.proofs.lemmas.List.{drop_more, length-set, take_all, length-map}
use Rattle.element.specs.declared.element.Element.{Ghosts as Elements}
use Rattle.instruction.specs.declared.set.InstructionSet.{Ghosts as Sets}
use Rattle.store.specs.declared.store.Store.{Ghosts as Stores}
use Rattle.command.specs.declared.log.LogRecord.{LogRecord}
use Rattle.showfile.specs.Chain.{record_at}
use Rattle.isolation.specs.Making.{Making}
use Rattle.isolation.specs.Request.{roomy, order, entry, Step}
use Rattle.isolation.specs.Machine.{State, host_step}
use Rattle.isolation.specs.History.{log_of, after_all}
use Rattle.isolation.proofs.Steps.{rooms}
use Rattle.host.specs.declared.host.Host.{Host}
use Rattle.host.specs.Logged.{record_of}
use Rattle.host.specs.Hosted.{state_of, fits_of, making_of}
use Rattle.host.specs.Commands.{Commanded}
use Rattle.run.specs.Runs.{request_with, request_at, Left, Plays}
use Rattle.run.proofs.Filled.{Filled, filled_more}

-- of scratch a command feels only whether it is enough
order_room : (p a r a' r' : ℕ) (bs : List ℕ) → roomy (request_with p bs a r) ≡ true → roomy (request_with p bs a' r') ≡ true → order (request_with p bs a r) ≡ order (request_with p bs a' r')
unfolding order
order_room p a r a' r' bs e f = rw (e, f)

step_room : {E : Type 0} (fits : Bool) (k : Making E) (s : State E) (p a r a' r' : ℕ) (bs : List ℕ) → roomy (request_with p bs a r) ≡ true → roomy (request_with p bs a' r') ≡ true →
    host_step fits k (request_with p bs a r) s ≡ host_step fits k (request_with p bs a' r') s
step_room true k s p a r a' r' bs e f = rw (order_room p a r a' r' bs e f)
step_room false k s p a r a' r' bs e f = rw (e, f)

pub record Going {S I E : Type 0} (st : Stores S E) (el : Elements E) (is : Sets I E) (bs ps : List ℕ) (h0 : Host S I E) (old : List LogRecord) (args0 results0 : List E)
    (left : List ℕ) (n : ℕ) (h : Host S I E) (new : List LogRecord) (args results : List E) : Type 0 where
  pub room : length ps ≤ length old
  pub long : length new ≡ length old
  pub within : n ≤ length ps
  pub left_is : left ≡ drop n ps
  pub filled : (m : ℕ → E) → Filled (host_step (fits_of st el h0) (making_of el is h0 m)) (record_of el.packed) (state_of st el h0) old ps (request_at bs (length args0) (length results0)) n new (state_of st el h)
  pub making : (m : ℕ → E) → making_of el is h m ≡ making_of el is h0 m
  pub fits : fits_of st el h ≡ fits_of st el h0
  pub lender : st.lender h.store ≡ st.lender h0.store
  pub args_left : Left n args0 args
  pub results_left : Left n results0 results

module _ {S I E : Type 0} (st : Stores S E) (el : Elements E) (is : Sets I E) (bs ps : List ℕ) (h0 : Host S I E) (old : List LogRecord) (args0 results0 : List E) where
  to_come : (left left' : List ℕ) (n p : ℕ) (h : Host S I E) (new : List LogRecord) (args results : List E) →
      Going st el is bs ps h0 old args0 results0 left n h new args results → left ≡ p ∷ left' → n < length ps
  to_come left left' n p h new args results w e = omega (arith, simp length-drop at (ap length (sym e ∙ w.left_is)))

  going_at : (left left' : List ℕ) (n p : ℕ) (h h' : Host S I E) (new : List LogRecord) (args results args' results' : List E) (bytes : List ℕ) (r : LogRecord) →
      8 ≤ length args0 → 4 ≤ length results0 → Going st el is bs ps h0 old args0 results0 left n h new args results → left ≡ p ∷ left' → bytes ≡ record_at bs p →
      Commanded st el is h h' (request_with p bytes 8 4) r → st.lender h'.store ≡ st.lender h.store → length args' ≡ length args → length results' ≡ length results →
      Going st el is bs ps h0 old args0 results0 left' (n + 1) h' (set new n r) args' results'
  going_at left left' n p h h' new args results args' results' bytes r ra rr w e be did lend la lr =
      let more : n < length ps = to_come left left' n p h new args results w e in
      let both : p ∷ left' ≡ get_or ps n 0 ∷ drop (n + 1) ps = sym e ∙ (w.left_is ∙ drop_more ps n 0 more) in
      let here : p ≡ get_or ps n 0 = cc in
      let next : left' ≡ drop (n + 1) ps = cc in
      let c = request_with p bytes 8 4 in
      let c0 = request_at bs (length args0) (length results0) p in
      let small : roomy (request_with p (record_at bs p) 8 4) ≡ true = rooms (request_with p (record_at bs p) 8 4) (omega arith) (omega arith) in
      let large : roomy (request_at bs (length args0) (length results0) p) ≡ true = rooms (request_at bs (length args0) (length results0) p) ra rr in
      let f = λ (m : ℕ → E). host_step (fits_of st el h0) (making_of el is h0 m) in
      let host = λ (m : ℕ → E). ap₂ (λ (b : Bool) (k : Making E). host_step b k c (state_of st el h)) w.fits (w.making m) in
      let scratch = λ (m : ℕ → E). ap (λ (x : List ℕ). f m (request_with p x 8 4) (state_of st el h)) be
      ∙ step_room (fits_of st el h0) (making_of el is h0 m) (state_of st el h) p 8 4 (length args0) (length results0) (record_at bs p) small large in
      let entries = λ (t : Step E (State E)). ap (λ (x : List ℕ). record_of el.packed (entry (request_with p x 8 4) t.answer)) be in
      record {
        room = w.room;
        long = length-set new n r ∙ w.long;
        within = omega arith;
        left_is = next;
        filled = λ m. filled_more (f m) (record_of el.packed) (state_of st el h0) old ps (request_at bs (length args0) (length results0)) n new (state_of st el h) p r (state_of st el h')
            more (omega (arith, w.room)) here (w.filled m)
            (did.answer m ∙ (ap (λ (t : Step E (State E)). record_of el.packed (entry c t.answer)) (host m ∙ scratch m) ∙ entries (f m c0 (state_of st el h))))
            (did.state m ∙ ap (λ (t : Step E (State E)). t.after) (host m ∙ scratch m));
        making = λ m. did.making m ∙ w.making m;
        fits = did.fits ∙ w.fits;
        lender = lend ∙ w.lender;
        args_left = record { long = la ∙ w.args_left.long; untouched = λ z. absurd (omega arith) };
        results_left = record { long = lr ∙ w.results_left.long; untouched = λ z. absurd (omega arith) };
      }

  -- the same, with the place in the log and the count afterwards as they came
  pub going_more : (left left' : List ℕ) (n i n' p : ℕ) (h h' : Host S I E) (new : List LogRecord) (args results args' results' : List E) (bytes : List ℕ) (r : LogRecord) →
      i ≡ n → n' ≡ n + 1 → 8 ≤ length args0 → 4 ≤ length results0 → Going st el is bs ps h0 old args0 results0 left n h new args results → left ≡ p ∷ left' → bytes ≡ record_at bs p →
      Commanded st el is h h' (request_with p bytes 8 4) r → st.lender h'.store ≡ st.lender h.store → length args' ≡ length args → length results' ≡ length results →
      Going st el is bs ps h0 old args0 results0 left' n' h' (set new i r) args' results'
  going_more left left' n i n' p h h' new args results args' results' bytes r at next ra rr w e be did lend la lr =
      subst (λ (j : ℕ). Going st el is bs ps h0 old args0 results0 left' n' h' (set new j r) args' results') (sym at)
      (subst (λ (j : ℕ). Going st el is bs ps h0 old args0 results0 left' j h' (set new n r) args' results') (sym next)
      (going_at left left' n p h h' new args results args' results' bytes r ra rr w e be did lend la lr))

  going_end : (left : List ℕ) (n : ℕ) (h : Host S I E) (new : List LogRecord) (args results : List E) →
      Going st el is bs ps h0 old args0 results0 left n h new args results → left ≡ [] → n ≡ length ps
  going_end left n h new args results w e = omega (arith, w.within, simp length-drop at (ap length (sym e ∙ w.left_is)))

  -- all of them were done
  pub going_played : (left : List ℕ) (n : ℕ) (h : Host S I E) (new : List LogRecord) (args results : List E) →
      Going st el is bs ps h0 old args0 results0 left n h new args results → left ≡ [] → Plays st el is h0 h (map (request_at bs (length args0) (length results0)) ps) old new
  going_played left n h new args results w e =
      let req = request_at bs (length args0) (length results0) in
      let rec = record_of el.packed in
      let s0 = state_of st el h0 in
      let f = λ (m : ℕ → E). host_step (fits_of st el h0) (making_of el is h0 m) in
      let full : n ≡ length ps = going_end left n h new args results w e in
      let all : take n ps ≡ ps = take_all n ps (omega (arith, full)) in
      let long : n ≡ length (map req ps) = full ∙ sym (length-map ps req) in
      record {
        log = λ m. (w.filled m).log_is ∙ ap₂ (λ (qs : List ℕ) (i : ℕ). map rec (log_of (f m) s0 (map req qs)) ++ drop i old) all long;
        state = λ m. (w.filled m).state_is ∙ ap (λ (qs : List ℕ). after_all (f m) s0 (map req qs)) all;
        making = w.making;
        fits = w.fits;
      }
