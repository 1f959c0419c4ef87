-- The rules that the machine and the separate boxes keep. Assumes nothing.
use Rattle.std.proofs.Common.{◌≡◌, ℕ, zero, suc, ◌<◌, ◌≤◌, Bool, true, false, cond, ◌&&◌, eqb, List, [], ◌∷◌, map, length, get_or, sym, refl, ap, ◌∙◌, subst, not-suc-le-zero, arith, length-drop}
use Rattle.std.proofs.lemmas.Grind.{common_steps}
use mathlib.Core.Path.{fun_ext}
use Rattle.std.proofs.lemmas.Bool.{eqb-true, false≢true, true≢false, both_ways, and_parts}
use Rattle.cells.specs.Cells.{member, beside}
use Rattle.queue.specs.Queue.{Queue, empty, appended, taken}
use Rattle.command.specs.Order.{Work, instruct, send, receive, Order, malformed, restore, save, work}
use Rattle.isolation.specs.Tables.{replace, change}
use Rattle.isolation.specs.Making.{Making, Outcome, fault, gives}
use Rattle.isolation.specs.Request.{Request, whole, part, kind, turn_kind, order, granted}
use Rattle.isolation.specs.Check.{Verdict, pass, fail, check, writable}
use Rattle.isolation.specs.Effect.{put, Effect, settle, effect}
use Rattle.isolation.specs.Machine.{State, made, is_open, held_by, act, step}
use Rattle.isolation.specs.Boxes.{Boxes, box_act}
use Rattle.isolation.specs.History.{after_all}
use Rattle.isolation.specs.Rules.{Written, Bounded, Rules}
use Rattle.isolation.proofs.Tables.{replace_there, change_there}
use Rattle.isolation.proofs.Checks.{passed_part, passed_work, passed_send, passed_receive}
use Rattle.isolation.proofs.Local.{frame}
use Rattle.isolation.proofs.Orders.{Suits, suits_order}

-- results
first_value : {E : Type 0} (z : E) (ns : List ℕ) (vs : List E) (i : ℕ) → i < length ns → ((j : ℕ) → j < i → get_or ns j 0 ≡ get_or ns i 0 → ⊥) →
    beside z ns vs (get_or ns i 0) ≡ get_or vs i z
first_value z [] vs i l f = absurd (not-suc-le-zero l)
first_value z (n ∷ ns) [] zero l f = refl
first_value z (n ∷ ns) [] (suc i) l f = refl
first_value z (n ∷ ns) (v ∷ vs) zero l f = grind arith
first_value z (n ∷ ns) (v ∷ vs) (suc i) l f = grind (arith, f 0 (omega arith), first_value z ns vs i (omega arith) (λ j h e. f (suc j) (omega arith) e))

named_there : (ns : List ℕ) (i : ℕ) → i < length ns → member ns (get_or ns i 0) ≡ true
named_there [] i l = absurd (not-suc-le-zero l)
named_there (n ∷ ns) zero l = grind arith
named_there (n ∷ ns) (suc i) l = grind (arith, named_there ns i (omega arith))

pub written : {E : Type 0} (z : E) (ns : List ℕ) (vs : List E) (m : ℕ → E) → Written z ns vs m (put z ns vs m)
written z ns vs m = record {
  named = λ i l f. rw (named_there ns i l) (first_value z ns vs i l f);
  others = λ n f. rw f;
}

-- refusals
record Same {E : Type 0} (m : ℕ → E) (q : ℕ → Queue E) (e : Effect E) : Type 0 where
  cells : e.cells ≡ m
  queues : e.queues ≡ q

refused_settle : {E : Type 0} (z : E) (x : Outcome E) (rs : List ℕ) (m : ℕ → E) (q : ℕ → Queue E) → granted (settle z x rs m q).answer ≡ false → Same m q (settle z x rs m q)
refused_settle z (fault f) rs m q g = record { cells = refl; queues = refl }
refused_settle z (gives vs) rs m q g = absurd (true≢false g)

refused_effect : {E : Type 0} (k : Making E) (w : Work) (m : ℕ → E) (q : ℕ → Queue E) → granted (effect k w m q).answer ≡ false → Same m q (effect k w m q)
refused_effect k (instruct c xs rs) m q g = refused_settle k.null (k.set c (map m xs)) rs m q g
refused_effect k (send x xs) m q g = absurd (true≢false g)
refused_effect k (receive x rs) m q g = absurd (true≢false g)

refused_act : {E : Type 0} (k : Making E) (v : Verdict) (p : ℕ) (o : Order) (s : State E) → granted (act k v p o s).answer ≡ false → (act k v p o s).after ≡ s
refused_act k (fail n d) p o s g = refl
refused_act k pass p (malformed n d) s g = refl
refused_act k pass p restore s g = absurd (true≢false g)
refused_act k pass p save s g = absurd (true≢false g)
refused_act {E} k pass p (work w) s g =
    let e : Same s.cells s.queues (effect k w s.cells s.queues) = refused_effect k w s.cells s.queues g in
    ap (λ (m : ℕ → E). record { cells = m; save_rows = s.save_rows; turn = s.turn; queues = (effect k w s.cells s.queues).queues }) e.cells
    ∙ ap (λ (q : ℕ → Queue E). record { cells = s.cells; save_rows = s.save_rows; turn = s.turn; queues = q }) e.queues

replace_same : {V : Type 0} (f : ℕ → V) (p : ℕ) (v : V) → v ≡ f p → replace f p v ≡ f
replace_same f p v e = fun_ext (λ i. grind arith)

refused_box : {E : Type 0} (k : Making E) (v : Verdict) (p : ℕ) (o : Order) (b : Boxes E) → granted (box_act k v p o b).answer ≡ false → (box_act k v p o b).after ≡ b
refused_box k (fail n d) p o b g = refl
refused_box k pass p (malformed n d) b g = refl
refused_box k pass p restore b g = absurd (true≢false g)
refused_box k pass p save b g = absurd (true≢false g)
refused_box {E} k pass p (work w) b g =
    let e : Same (b.cells p) b.queues (effect k w (b.cells p) b.queues) = refused_effect k w (b.cells p) b.queues g in
    ap (λ (m : ℕ → ℕ → E). record { cells = m; marks = b.marks; queues = (effect k w (b.cells p) b.queues).queues })
    (replace_same b.cells p (effect k w (b.cells p) b.queues).cells e.cells)
    ∙ ap (λ (q : ℕ → Queue E). record { cells = b.cells; marks = b.marks; queues = q }) e.queues

-- turn calls, and what is none
turn_act : {E : Type 0} (k : Making E) (v : Verdict) (p : ℕ) (o : Order) (f t : Bool) → Suits f t o → (s : State E) → (f && t) ≡ false → (act k v p o s).after.turn ≡ s.turn
turn_act k (fail n d) p o f t u s e = refl
turn_act k pass p (malformed n d) f t u s e = refl
turn_act k pass p restore f t u s e = absurd (grind (arith, u.0, u.1))
turn_act k pass p save f t u s e = absurd (grind (arith, u.0, u.1))
turn_act k pass p (work w) f t u s e = refl

unwritten_act : {E : Type 0} (k : Making E) (v : Verdict) (p : ℕ) (o : Order) (f t : Bool) → Suits f t o → (s : State E) (busy mine : Bool) → check k busy mine p o ≡ v → (n : ℕ) →
    (f && t) ≡ false → writable k p n ≡ false → (act k v p o s).after.cells n ≡ s.cells n
unwritten_act k (fail n d) p o f t u s busy mine c i e h = refl
unwritten_act k pass p (malformed n d) f t u s busy mine c i e h = refl
unwritten_act k pass p restore f t u s busy mine c i e h = absurd (grind (arith, u.0, u.1))
unwritten_act k pass p save f t u s busy mine c i e h = absurd (grind (arith, u.0, u.1))
unwritten_act k pass p (work w) f t u s busy mine c i e h = frame k p w (passed_work k busy mine p w c) s.cells s.queues i h

record Moved {E : Type 0} (b b' : Boxes E) : Type 0 where
  cells : b'.cells ≡ b.cells
  queues : b'.queues ≡ b.queues

moved : {E : Type 0} (k : Making E) (v : Verdict) (p : ℕ) (o : Order) (f t : Bool) → Suits f t o → (b : Boxes E) → (f && t) ≡ true → Moved b (box_act k v p o b).after
moved k (fail n d) p o f t u b e = record { cells = refl; queues = refl }
moved k pass p (malformed n d) f t u b e = record { cells = refl; queues = refl }
moved k pass p restore f t u b e = record { cells = refl; queues = refl }
moved k pass p save f t u b e = record { cells = refl; queues = refl }
moved k pass p (work w) f t u b e = absurd (both_ways t u.1 (and_parts f t e).1)

unmarked : {E : Type 0} (k : Making E) (v : Verdict) (p : ℕ) (o : Order) (f t : Bool) → Suits f t o → (b : Boxes E) → (f && t) ≡ false → (box_act k v p o b).after.marks ≡ b.marks
unmarked k (fail n d) p o f t u b e = refl
unmarked k pass p (malformed n d) f t u b e = refl
unmarked k pass p restore f t u b e = absurd (grind (arith, u.0, u.1))
unmarked k pass p save f t u b e = absurd (grind (arith, u.0, u.1))
unmarked k pass p (work w) f t u b e = refl

-- other parts
other_cells_lem : {E : Type 0} (k : Making E) (v : Verdict) (p : ℕ) (o : Order) (b : Boxes E) (q : ℕ) → (q ≡ p → ⊥) → (box_act k v p o b).after.cells q ≡ b.cells q
other_cells_lem k (fail n d) p o b q h = refl
other_cells_lem k pass p (malformed n d) b q h = refl
other_cells_lem k pass p restore b q h = refl
other_cells_lem k pass p save b q h = refl
other_cells_lem k pass p (work w) b q h = replace_there b.cells (effect k w (b.cells p) b.queues).cells p q h

other_marks_lem : {E : Type 0} (k : Making E) (v : Verdict) (p : ℕ) (o : Order) (b : Boxes E) (q : ℕ) → (q ≡ p → ⊥) → (box_act k v p o b).after.marks q ≡ b.marks q
other_marks_lem k (fail n d) p o b q h = refl
other_marks_lem k pass p (malformed n d) b q h = refl
other_marks_lem k pass p restore b q h = replace_there b.marks true p q h
other_marks_lem k pass p save b q h = replace_there b.marks false p q h
other_marks_lem k pass p (work w) b q h = refl

-- bounds
record Small {E : Type 0} (q : Queue E) : Type 0 where
  messages : length q.messages ≤ 8
  missed : q.missed ≤ 255

small_appended : {E : Type 0} (m : List E) (q : Queue E) → Small q → Small (appended m q)
small_appended m q s = record { messages = grind (arith, common_steps, s.messages); missed = grind (arith, s.missed) }

small_taken : {E : Type 0} (q : Queue E) → Small q → Small (taken q)
small_taken q s = record { messages = omega (arith, s.messages, length-drop 1 q.messages); missed = omega arith }

record Queued {E : Type 0} (q : ℕ → Queue E) : Type 0 where
  small : (x : ℕ) → Small (q x)
  ports : (x : ℕ) → 16 ≤ x → q x ≡ empty

queued_change : {E : Type 0} (q : ℕ → Queue E) (x : ℕ) (g : Queue E → Queue E) → x < 16 → ((o : Queue E) → Small o → Small (g o)) → Queued q → Queued (change q x g)
queued_change {E} q x g l h s = record {
  small = λ y. go y (eqb y x) (s.small y);
  ports = λ y m. change_there q g x y (λ e. absurd (omega (arith, e))) ∙ s.ports y m;
}
  where
    go : (y : ℕ) (b : Bool) → Small (q y) → Small (cond b (g (q y)) (q y))
    go y true t = h (q y) t
    go y false t = t

queued_settle : {E : Type 0} (z : E) (x : Outcome E) (rs : List ℕ) (m : ℕ → E) (q : ℕ → Queue E) → Queued q → Queued (settle z x rs m q).queues
queued_settle z (fault f) rs m q s = s
queued_settle z (gives vs) rs m q s = s

queued_effect : {E : Type 0} (k : Making E) (busy mine : Bool) (p : ℕ) (w : Work) → check k busy mine p (work w) ≡ pass → (m : ℕ → E) (q : ℕ → Queue E) → Queued q → Queued (effect k w m q).queues
queued_effect k busy mine p (instruct c xs rs) e m q s = queued_settle k.null (k.set c (map m xs)) rs m q s
queued_effect k busy mine p (send x xs) e m q s = queued_change q x (appended (map m xs)) (passed_send k busy mine p x xs e) (small_appended (map m xs)) s
queued_effect k busy mine p (receive x rs) e m q s = queued_change q x taken (passed_receive k busy mine p x rs e).0 small_taken s

bounded_made : {E : Type 0} (k : Making E) → Bounded k (made k)
bounded_made k = record {
  turn = λ p e. absurd (false≢true e);
  save_rows = λ p n e. refl;
  messages = λ x. omega arith;
  missed = λ x. omega arith;
  ports = λ x l. refl;
}

bounded_act : {E : Type 0} (k : Making E) (v : Verdict) (p : ℕ) (o : Order) (s : State E) (busy mine : Bool) → check k busy mine p o ≡ v → Bounded k s → Bounded k (act k v p o s).after
bounded_act k (fail n d) p o s busy mine e b = b
bounded_act k pass p (malformed n d) s busy mine e b = b
bounded_act k pass p restore s busy mine e b = record {
  turn = λ q h. subst (λ (i : ℕ). i < k.parts) (sym (eqb-true q p h)) (passed_part k busy mine p restore e);
  save_rows = b.save_rows;
  messages = b.messages;
  missed = b.missed;
  ports = b.ports;
}
bounded_act k pass p save s busy mine e b = record {
  turn = λ q h. absurd (false≢true h);
  save_rows = λ q n f. grind (arith, b.save_rows q n f);
  messages = b.messages;
  missed = b.missed;
  ports = b.ports;
}
bounded_act k pass p (work w) s busy mine e b =
    let q : Queued (effect k w s.cells s.queues).queues =
    queued_effect k busy mine p w e s.cells s.queues (record { small = λ x. record { messages = b.messages x; missed = b.missed x }; ports = b.ports }) in
    record { turn = b.turn; save_rows = b.save_rows; messages = λ x. (q.small x).messages; missed = λ x. (q.small x).missed; ports = q.ports }

bounded_run : {E : Type 0} (k : Making E) (h : List Request) (s : State E) → Bounded k s → Bounded k (after_all (step k) s h)
bounded_run k [] s b = b
bounded_run k (c ∷ h) s b =
    bounded_run k h (step k c s).after (bounded_act k _ (part c) (order c) s (is_open s.turn) (held_by s.turn (part c)) refl b)

pub rules : {E : Type 0} (k : Making E) → Rules k
rules k = record {
  refused = λ c s. refused_act k _ (part c) (order c) s;
  box_refused = λ c b. refused_box k _ (part c) (order c) b;
  turn = λ c s. turn_act k _ (part c) (order c) (whole c) (turn_kind (kind c)) (suits_order c) s;
  unwritten = λ c s n. unwritten_act k _ (part c) (order c) (whole c) (turn_kind (kind c)) (suits_order c) s (is_open s.turn) (held_by s.turn (part c)) refl n;
  box_cells = λ c b e. (moved k _ (part c) (order c) (whole c) (turn_kind (kind c)) (suits_order c) b e).cells;
  box_queues = λ c b e. (moved k _ (part c) (order c) (whole c) (turn_kind (kind c)) (suits_order c) b e).queues;
  box_marks = λ c b. unmarked k _ (part c) (order c) (whole c) (turn_kind (kind c)) (suits_order c) b;
  other_cells = λ c b. other_cells_lem k _ (part c) (order c) b;
  other_marks = λ c b. other_marks_lem k _ (part c) (order c) b;
  bounded = λ h. bounded_run k h (made k) (bounded_made k);
}
