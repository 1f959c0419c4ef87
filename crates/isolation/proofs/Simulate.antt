-- The machine answers as the separate boxes do. Assumes nothing.
use Rattle.std.proofs.Common.{◌≡◌, ℕ, Bool, true, false, cond, not, eqb, ltb, ◌⊎◌, List, [], ◌∷◌, sym, refl, ap, ◌∙◌, subst, ap₂, inl, inr, arith}
use Rattle.std.proofs.lemmas.Bool.{ne_eqb, ltb-true, true≢false, cases_eq, not-true}
use Rattle.command.specs.Order.{Order, malformed, restore, save, work}
use Rattle.isolation.specs.Tables.{replace, any}
use Rattle.isolation.specs.Making.{Making, Exclusive}
use Rattle.isolation.specs.Request.{Request, part, order, entry, Step}
use Rattle.isolation.specs.Check.{touchable, Verdict, pass, fail, may, check}
use Rattle.isolation.specs.Effect.{effect}
use Rattle.isolation.specs.Machine.{Turn, closed, opened, is_open, held_by, State, made, act, step}
use Rattle.isolation.specs.Boxes.{Boxes, separate, box_act, box_step}
use Rattle.isolation.specs.History.{log_of, machine_log, box_log}
use Rattle.isolation.proofs.Tables.{replace_here, replace_there, any_here, any_none}
use Rattle.isolation.proofs.Checks.{when_pass}
use Rattle.isolation.proofs.Local.{SameEffect, same_effect, frame}
use Rattle.isolation.proofs.Exclusive.{unshared}

-- turns
not_open : (t : Turn) → is_open t ≡ false → (q : ℕ) → held_by t q ≡ false
not_open closed e q = refl
not_open (opened p) e q = absurd (true≢false e)

held_one : (t : Turn) (p q : ℕ) → held_by t p ≡ true → held_by t q ≡ eqb q p
held_one closed p q e = cc
held_one (opened r) p q e = grind arith

-- what a part sees: the cells, but its save row in place of the swapped ones while it has not the turn
abbrev seen : {E : Type 0} → Making E → State E → ℕ → ℕ → E
seen k s p n = cond (k.swapped n) (cond (held_by s.turn p) (s.cells n) (s.save_rows p n)) (s.cells n)

-- the boxes are as the machine's parts see it
record Like {E : Type 0} (k : Making E) (s : State E) (r : Boxes E) : Type 0 where
  marks : (p : ℕ) → r.marks p ≡ held_by s.turn p
  busy : any k.parts r.marks ≡ is_open s.turn
  queues : (y : ℕ) → r.queues y ≡ s.queues y
  cells : (p n : ℕ) → touchable k p n ≡ true → r.cells p n ≡ seen k s p n

like_start : {E : Type 0} (k : Making E) → Like k (made k) (separate k)
like_start k = record { marks = λ p. refl; busy = any_none k.parts (λ p. false) (λ q h. refl); queues = λ y. refl; cells = λ p n t. refl }

record SameStep {E : Type 0} (k : Making E) (x : Step E (State E)) (y : Step E (Boxes E)) : Type 0 where
  answer : x.answer ≡ y.answer
  after : Like k x.after y.after

cond_same : {V : Type 0} (b : Bool) (x : V) → cond b x x ≡ x
cond_same b x = grind arith

like_act : {E : Type 0} (k : Making E) → Exclusive k → (v : Verdict) (p : ℕ) (w : Order) (s : State E) (r : Boxes E) →
    check k (is_open s.turn) (held_by s.turn p) p w ≡ v → Like k s r → SameStep k (act k v p w s) (box_act k v p w r)
like_act k so (fail n d) p w s r e l = record { answer = refl; after = l }
like_act k so pass p (malformed n d) s r e l = record { answer = refl; after = l }
like_act k so pass p restore s r e l =
    let a = when_pass (ltb p k.parts) _ _ _ e in
    let b = when_pass (not (is_open s.turn)) _ _ _ a.1 in
    let f : (q : ℕ) → held_by s.turn q ≡ false = not_open s.turn (not-true (is_open s.turn) b.0) in
    record {
      answer = refl;
      after = record {
        marks = λ q. grind (arith, l.marks q, f q);
        busy = any_here k.parts p (replace r.marks p true) (ltb-true p k.parts a.0) (replace_here r.marks true p p refl);
        queues = l.queues;
        cells = λ q n t.
            grind (arith, l.cells q n t, f q);
      };
    }
like_act k so pass p save s r e l =
    let a = when_pass (ltb p k.parts) _ _ _ e in
    let b = when_pass (held_by s.turn p) _ _ _ a.1 in
    let f : (q : ℕ) → held_by s.turn q ≡ eqb q p = λ q. held_one s.turn p q b.0 in
    let g : (q : ℕ) → replace r.marks p false q ≡ false = λ q. grind (arith, l.marks q, f q) in
    record {
      answer = refl;
      after = record {
        marks = g;
        busy = any_none k.parts (replace r.marks p false) (λ q h. g q);
        queues = l.queues;
        cells = λ q n t.
            grind (arith, l.cells q n t, f q);
      };
    }
like_act {E} k so pass p (work w) s r e l =
    let a = when_pass (ltb p k.parts) _ _ _ e in
    let b = when_pass (held_by s.turn p) _ _ _ a.1 in
    let own : (m : ℕ → E) (q n : ℕ) → q ≡ p → cond (k.swapped n) (cond (held_by s.turn q) (m n) (s.save_rows q n)) (m n) ≡ m n =
    λ m q n d. ap (λ (h : Bool). cond (k.swapped n) (cond h (m n) (s.save_rows q n)) (m n)) (ap (held_by s.turn) d ∙ b.0) ∙ cond_same (k.swapped n) (m n) in
    let x : SameEffect k p (λ _. Unit {0}) (effect k w s.cells s.queues) (effect k w (r.cells p) r.queues) =
    same_effect k p (λ _. Unit {0}) (λ y h. tt) w b.1 s.cells (r.cells p) s.queues r.queues
    (λ n t. sym (l.cells p n t ∙ own s.cells p n refl)) (λ y t. sym (l.queues y)) in
    record {
      answer = x.answer;
      after = record {
        marks = l.marks;
        busy = l.busy;
        queues = λ y. sym (x.queues y tt);
        cells = λ q n t. go b.0 b.1 x own q n t (cases_eq q p);
      };
    }
  where
    m₁ : ℕ → E
    m₁ = (effect k w s.cells s.queues).cells

    m₂ : ℕ → E
    m₂ = (effect k w (r.cells p) r.queues).cells

    go : held_by s.turn p ≡ true → may k p w ≡ pass →
        SameEffect k p (λ _. Unit {0}) (effect k w s.cells s.queues) (effect k w (r.cells p) r.queues) →
        ((m : ℕ → E) (q n : ℕ) → q ≡ p → cond (k.swapped n) (cond (held_by s.turn q) (m n) (s.save_rows q n)) (m n) ≡ m n) →
        (q n : ℕ) → touchable k q n ≡ true → (q ≡ p) ⊎ (q ≡ p → ⊥) →
        replace r.cells p m₂ q n ≡ cond (k.swapped n) (cond (held_by s.turn q) (m₁ n) (s.save_rows q n)) (m₁ n)
    go h ok x own q n t (inl d) =
        ap (λ (f : ℕ → E). f n) (replace_here r.cells m₂ p q d) ∙ (sym (x.cells n (subst (λ (z : ℕ). touchable k z n ≡ true) d t)) ∙ sym (own m₁ q n d))
    go h ok x own q n t (inr d) =
        let f : held_by s.turn q ≡ false = held_one s.turn p q h ∙ ne_eqb q p d in
        let i : k.swapped n ≡ false → m₁ n ≡ s.cells n = λ z. frame k p w ok s.cells s.queues n (unshared k so p q n z t d) in
        ap (λ (f : ℕ → E). f n) (replace_there r.cells m₂ p q d) ∙ (l.cells q n t ∙ grind (arith, f, i))

like_step : {E : Type 0} (k : Making E) → Exclusive k → (c : Request) (s : State E) (r : Boxes E) → Like k s r → SameStep k (step k c s) (box_step k c r)
like_step k so c s r l =
    subst (λ (v : Verdict). SameStep k (step k c s) (box_act k v (part c) (order c) r)) same
    (like_act k so _ (part c) (order c) s r refl l)
  where
    same : check k (is_open s.turn) (held_by s.turn (part c)) (part c) (order c) ≡ check k (any k.parts r.marks) (r.marks (part c)) (part c) (order c)
    same = ap₂ (λ (a b : Bool). check k a b (part c) (order c)) (sym l.busy) (sym (l.marks (part c)))

like_run : {E : Type 0} (k : Making E) → Exclusive k → (cs : List Request) (s : State E) (r : Boxes E) → Like k s r → log_of (step k) s cs ≡ log_of (box_step k) r cs
like_run k so [] s r l = refl
like_run k so (c ∷ cs) s r l =
    let b = like_step k so c s r l in
    ap₂ ◌∷◌ (ap (entry c) b.answer) (like_run k so cs (step k c s).after (box_step k c r).after b.after)

pub as_boxes : {E : Type 0} (k : Making E) → Exclusive k → (cs : List Request) → machine_log k cs ≡ box_log k cs
as_boxes k so cs = like_run k so cs (made k) (separate k) (like_start k)
