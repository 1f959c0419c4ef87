-- The machine's step where it is known how far the checks go: what a host's code needs, arm by arm. Assumes nothing.
use Rattle.std.proofs.Common.{◌≡◌, ℕ, suc, ◌+◌, ◌<◌, ◌≤◌, Bool, true, false, cond, ◌⊎◌, List, length, get_or, drop, sym, inl, inr, add-one, arith, drop-cons}
use Rattle.std.proofs.lemmas.List.{drop_all}
use Rattle.std.proofs.lemmas.Bool.{cases_Bool, le-leb, lt-leb, lt-ltb}
use Rattle.command.specs.Shape.{part_of}
use Rattle.command.specs.Order.{Work, Order, malformed, work, decoded}
use Rattle.isolation.specs.Making.{Making}
use Rattle.isolation.specs.Request.{Request, whole, roomy, order, refused}
use Rattle.isolation.specs.Check.{Verdict, pass, fail, each, may, check}
use Rattle.isolation.specs.Machine.{State, is_open, held_by, act, record_step, host_step}

-- room
pub rooms : (c : Request) → 8 ≤ c.arg_room → 4 ≤ c.result_room → roomy c ≡ true
rooms c a b = rw (le-leb 8 c.arg_room a, le-leb 4 c.result_room b)

pub no_room : (c : Request) → (c.arg_room < 8) ⊎ ((8 ≤ c.arg_room) × (c.result_room < 4)) → roomy c ≡ false
no_room c (inl a) = rw (lt-leb 8 c.arg_room a)
no_room c (inr h) = rw (le-leb 8 c.arg_room h.0, lt-leb 4 c.result_room h.1)

-- refusals 1, 6 and 19, and the step of a whole record
order_short : (c : Request) → roomy c ≡ false → order c ≡ malformed (cond (whole c) 6 1) 0
unfolding order
order_short c r = elim (cases_Bool (whole c)) [ inl t ↦ rw (t, r) | inr f ↦ rw f ]

order_torn : (c : Request) → whole c ≡ false → order c ≡ malformed 1 0
unfolding order
order_torn c f = rw f

order_whole : (c : Request) → whole c ≡ true → roomy c ≡ true → order c ≡ decoded c.bytes
unfolding order
order_whole c w r = rw (w, r)

module _ {E : Type 0} (k : Making E) (c : Request) (s : State E) where
  pub step_short : (fits : Bool) → roomy c ≡ false → host_step fits k c s ≡ record { answer = refused (cond (whole c) 6 1) 0; after = s }
  step_short true r = rw (order_short c r)
  step_short false r = rw r

  pub step_torn : (fits : Bool) → whole c ≡ false → host_step fits k c s ≡ record { answer = refused 1 0; after = s }
  step_torn true f = rw (order_torn c f)
  step_torn false f = rw f

  pub step_misfit : (fits : Bool) → fits ≡ false → whole c ≡ true → roomy c ≡ true → host_step fits k c s ≡ record { answer = refused 19 0; after = s }
  step_misfit true e w r = let z : ◌≡◌ {A = ℕ} 0 1 = cc in absurd (omega arith)
  step_misfit false e w r = rw (w, r)

  pub step_record : (fits : Bool) → fits ≡ true → whole c ≡ true → roomy c ≡ true → host_step fits k c s ≡ record_step k c.bytes s
  step_record true e w r = rw (order_whole c w r)
  step_record false e w r = let z : ◌≡◌ {A = ℕ} 0 1 = cc in absurd (omega arith)

-- a whole record that is malformed, that fails a check, and that passes them all
module _ {E : Type 0} (k : Making E) (bs : List ℕ) (s : State E) where
  pub step_malformed : (n d : ℕ) → malformed n d ≡ decoded bs → record_step k bs s ≡ record { answer = refused n d; after = s }
  step_malformed n d e = rw (sym e)

  pub step_fail : (o : Order) (n d : ℕ) → o ≡ decoded bs → fail n d ≡ check k (is_open s.turn) (held_by s.turn (part_of bs)) (part_of bs) o →
      record_step k bs s ≡ record { answer = refused n d; after = s }
  step_fail o n d e f = rw (sym e, sym f)

  pub step_pass : (o : Order) → o ≡ decoded bs → pass ≡ check k (is_open s.turn) (held_by s.turn (part_of bs)) (part_of bs) o →
      record_step k bs s ≡ act k pass (part_of bs) o s
  step_pass o e f = rw (sym e, sym f)

-- work of a part that has the turn
pub work_check : {E : Type 0} (k : Making E) (busy mine : Bool) (p : ℕ) → p < k.parts → mine ≡ true → (w : Work) → check k busy mine p (work w) ≡ may k p w
work_check k busy mine p l t w = rw (lt-ltb p k.parts l, t)

-- refusal 12, cell by cell
module _ (f : ℕ → Bool) (from : ℕ) (ns : List ℕ) (i : ℕ) (v : Verdict) where
  pub each_more : i < length ns → f (get_or ns i 0) ≡ true → each f (from + i) (drop i ns) v ≡ each f (from + (i + 1)) (drop (i + 1) ns) v
  each_more h t =
      let e : suc (from + i) ≡ from + suc i = omega arith in
      rw (add-one i, drop-cons ns i 0 h, t, e)

  pub each_stop : i < length ns → f (get_or ns i 0) ≡ false → each f (from + i) (drop i ns) v ≡ fail 12 (from + i)
  each_stop h t = rw (drop-cons ns i 0 h, t)

  pub each_end : length ns ≤ i → each f (from + i) (drop i ns) v ≡ v
  each_end h = rw (drop_all i ns h)
