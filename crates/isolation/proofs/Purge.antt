-- What is left of a history is answered as it was: first by the separate boxes, then by the machine. Of one request this uses
-- the claim on one step, and nothing else of what a request does. Assumes nothing.
use Rattle.std.proofs.Common.{◌≡◌, ℕ, Bool, true, false, cond, not, ◌&&◌, ◌||◌, ltb, ◌⊎◌, List, [], ◌∷◌, sym, refl, ap, ◌∙◌, subst, ap₂, inl, inr, arith}
use Rattle.std.proofs.lemmas.Bool.{false≢true, cases_Bool, and_parts}
use Rattle.port.specs.Upstream.{Closed}
use Rattle.command.specs.Order.{Order, malformed, restore, save, work}
use Rattle.isolation.specs.Tables.{any}
use Rattle.isolation.specs.Making.{Making, Exclusive}
use Rattle.isolation.specs.Request.{Request, whole, part, kind, turn_kind, order, granted, Entry, entry}
use Rattle.isolation.specs.Check.{Verdict, pass, fail, check}
use Rattle.isolation.specs.Boxes.{Boxes, separate, box_act, box_step}
use Rattle.isolation.specs.History.{log_of, machine_log, box_log, is_left, purge, kept}
use Rattle.isolation.specs.OneStep.{Alike, GrantedAlike, OneStep}
use Rattle.isolation.proofs.Tables.{any_here, any_none}
use Rattle.isolation.proofs.Checks.{passed_part}
use Rattle.isolation.proofs.Orders.{Suits, suits_order}
use Rattle.isolation.proofs.OneStep.{alike_same, one_step}
use Rattle.isolation.proofs.Simulate.{as_boxes}

-- a member's request that is not left was refused, so it altered nothing
stays : {E : Type 0} (k : Making E) (v : Verdict) (p : ℕ) (o : Order) (f t : Bool) → Suits f t o → (b : Boxes E) (busy mine : Bool) → check k busy mine p o ≡ v →
    (((f && t) && granted (box_act k v p o b).answer) || (f && (ltb p k.parts && not t))) ≡ false → (box_act k v p o b).after ≡ b
stays k (fail n d) p o f t s b busy mine e h = refl
stays k pass p (malformed n d) f t s b busy mine e h = refl
stays k pass p restore f t s b busy mine e h = absurd (grind (arith, s.0, s.1))
stays k pass p save f t s b busy mine e h = absurd (grind (arith, s.0, s.1))
stays k pass p (work w) f t s b busy mine e h = absurd (grind (arith, s.0, s.1, passed_part k busy mine p (work w) e))

dropped : {E : Type 0} (k : Making E) (u : ℕ → Bool) → OneStep k u → (c : Request) (b b' : Boxes E) → is_left k u c (box_step k c b).answer ≡ false →
    Alike k u b b' → Alike k u (box_step k c b).after b'
dropped {E} k u one c b b' e l = go (cases_Bool (u (part c)))
  where
    go : (u (part c) ≡ true) ⊎ (u (part c) ≡ false) → Alike k u (box_step k c b).after b'
    go (inl t) =
        subst (λ (x : Boxes E). Alike k u x b')
        (sym (stays k _ (part c) (order c) (whole c) (turn_kind (kind c)) (suits_order c) b (any k.parts b.marks) (b.marks (part c)) refl
        (grind (arith, t, e)))) l
    go (inr f) = one.other c b b' l f

-- no mark but a member's is open
abbrev Shut : {E : Type 0} → (ℕ → Bool) → Boxes E → Type 0
Shut u b = (q : ℕ) → u q ≡ false → b.marks q ≡ false

shut_act : {E : Type 0} (k : Making E) (u : ℕ → Bool) (v : Verdict) (p : ℕ) (o : Order) (b : Boxes E) → u p ≡ true → Shut u b → Shut u (box_act k v p o b).after
shut_act k u (fail n d) p o b t s = s
shut_act k u pass p (malformed n d) b t s = s
shut_act k u pass p restore b t s = λ q z. grind (arith, s q z)
shut_act k u pass p save b t s = λ q z. grind (arith, s q z)
shut_act k u pass p (work w) b t s = s

-- where no mark is open in the first boxes, none is in the second
all_shut : {E : Type 0} (k : Making E) (u : ℕ → Bool) (b b' : Boxes E) → Alike k u b b' → Shut u b' → any k.parts b.marks ≡ false → any k.parts b'.marks ≡ false
all_shut k u b b' l s e = any_none k.parts b'.marks (λ q h. grind (arith, l.marks q, s q, any_here k.parts q b.marks h))

-- a turn call that the first boxes grant, the second grant too
granted_too : {E : Type 0} (k : Making E) (p : ℕ) (o : Order) (f t : Bool) → Suits f t o → (b b' : Boxes E) (busy busy' mine : Bool) → (busy ≡ false → busy' ≡ false) →
    (f && t) ≡ true → granted (box_act k (check k busy mine p o) p o b).answer ≡ true → granted (box_act k (check k busy' mine p o) p o b').answer ≡ true
granted_too k p (malformed n d) f t s b b' busy busy' mine h e g = absurd (false≢true g)
granted_too k p restore f t s b b' busy busy' mine h e g = grind arith
granted_too k p save f t s b b' busy busy' mine h e g = grind arith
granted_too k p (work w) f t s b b' busy busy' mine h e g = absurd (grind (arith, s.1))

granted_alike : {E : Type 0} (k : Making E) (u : ℕ → Bool) (c : Request) (b b' : Boxes E) → is_left k u c (box_step k c b).answer ≡ true → Alike k u b b' → Shut u b' → GrantedAlike k c b b'
granted_alike k u c b b' h l s e =
    let a = and_parts (u (part c)) _ h in
    let g : granted (box_step k c b).answer ≡ true = grind (arith, a.1, e) in
    let g' : granted (box_act k (check k (any k.parts b'.marks) (b.marks (part c)) (part c) (order c)) (part c) (order c) b').answer ≡ true =
    granted_too k (part c) (order c) (whole c) (turn_kind (kind c)) (suits_order c) b b' (any k.parts b.marks) (any k.parts b'.marks) (b.marks (part c))
    (all_shut k u b b' l s) e g in
    g ∙ sym (subst (λ (m : Bool). granted (box_act k (check k (any k.parts b'.marks) m (part c) (order c)) (part c) (order c) b').answer ≡ true) (l.marks (part c) a.0) g')

-- the boxes
alike_run : {E : Type 0} (k : Making E) (u : ℕ → Bool) → OneStep k u → (cs : List Request) (b b' : Boxes E) → Alike k u b b' → Shut u b' →
    log_of (box_step k) b' (purge k u cs (log_of (box_step k) b cs)) ≡ kept k u cs (log_of (box_step k) b cs)
alike_run k u one [] b b' l s = refl
alike_run {E} k u one (c ∷ cs) b b' l s = go (alike_run k u one cs (box_step k c b).after) (is_left k u c (box_step k c b).answer) refl
  where
    rest : List (Entry E)
    rest = log_of (box_step k) (box_step k c b).after cs

    go : ((x : Boxes E) → Alike k u (box_step k c b).after x → Shut u x → log_of (box_step k) x (purge k u cs rest) ≡ kept k u cs rest) →
        (y : Bool) → is_left k u c (box_step k c b).answer ≡ y →
        log_of (box_step k) b' (cond y (c ∷ purge k u cs rest) (purge k u cs rest)) ≡ cond y (entry c (box_step k c b).answer ∷ kept k u cs rest) (kept k u cs rest)
    go ih true e =
        let g = granted_alike k u c b b' e l s in
        let t = (and_parts (u (part c)) _ e).0 in
        ap₂ ◌∷◌ (ap (entry c) (sym (one.answer c b b' l g t))) (ih (box_step k c b').after (one.after c b b' l g) (shut_act k u _ (part c) (order c) b' t s))
    go ih false e = ih b' (dropped k u one c b b' e l) s

-- the machine
pub alone : {E : Type 0} (k : Making E) → Exclusive k → (p : ℕ) (u : ℕ → Bool) → Closed k.parts k.sends k.receives p u → (h : List Request) →
    machine_log k (purge k u h (machine_log k h)) ≡ kept k u h (machine_log k h)
alone {E} k ex p u cl h =
    as_boxes k ex (purge k u h (machine_log k h))
    ∙ subst (λ (es : List (Entry E)). box_log k (purge k u h es) ≡ kept k u h es) (sym (as_boxes k ex h))
    (alike_run k u (one_step k p u cl) h (separate k) (separate k) (alike_same k u (separate k)) (λ q z. refl))
