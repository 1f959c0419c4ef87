-- One request on two sets of boxes that are alike for a closed set of parts. Assumes nothing.
use Rattle.std.proofs.Common.{◌≡◌, ℕ, ◌<◌, Bool, true, false, ◌&&◌, eqb, ltb, ◌⊎◌, sym, refl, ap, ◌∙◌, subst, inl, inr, arith}
use Rattle.std.proofs.lemmas.Bool.{eq-eqb, ne_eqb, cases_eq, cases_Bool, both_ways, and_parts, and_from}
use Rattle.part.specs.Sets.{bit}
use Rattle.port.specs.Upstream.{Closed}
use Rattle.command.specs.Order.{Order, malformed, restore, save, work}
use Rattle.isolation.specs.Tables.{replace, any}
use Rattle.isolation.specs.Making.{Making}
use Rattle.isolation.specs.Request.{Request, whole, part, kind, turn_kind, turn_call, order, granted, Step}
use Rattle.isolation.specs.Check.{Verdict, pass, fail, may, check, touchable}
use Rattle.isolation.specs.Effect.{Effect, effect}
use Rattle.isolation.specs.Boxes.{Boxes, box_act, box_step}
use Rattle.isolation.specs.OneStep.{Heard, Alike, GrantedAlike, OneStep}
use Rattle.isolation.proofs.Tables.{cond_two, replace_there}
use Rattle.isolation.proofs.Checks.{passed_part, passed_work}
use Rattle.isolation.proofs.Local.{SameEffect, same_effect, frame_queues}
use Rattle.isolation.proofs.Orders.{Suits, suits_order}

pub alike_same : {E : Type 0} (k : Making E) (u : ℕ → Bool) (b : Boxes E) → Alike k u b b
alike_same k u b = record { marks = λ q t. refl; cells = λ q t n c. refl; queues = λ y h. refl }

alike_sym : {E : Type 0} (k : Making E) (u : ℕ → Bool) (b b' : Boxes E) → Alike k u b b' → Alike k u b' b
alike_sym k u b b' l = record { marks = λ q t. sym (l.marks q t); cells = λ q t n c. sym (l.cells q t n c); queues = λ y h. sym (l.queues y h) }

pub other_part : (u : ℕ → Bool) (p q : ℕ) → u p ≡ false → u q ≡ true → q ≡ p → ⊥
other_part u p q f t e = grind arith

-- an order of a part that is no member alters nothing that members see
outside : {E : Type 0} (k : Making E) (u : ℕ → Bool) (a : ℕ) → Closed k.parts k.sends k.receives a u → (v : Verdict) (p : ℕ) (o : Order) (b b' : Boxes E) (busy mine : Bool) →
    check k busy mine p o ≡ v → u p ≡ false → Alike k u b b' → Alike k u (box_act k v p o b).after b'
outside k u a cl (fail n d) p o b b' busy mine e f l = l
outside k u a cl pass p (malformed n d) b b' busy mine e f l = l
outside k u a cl pass p restore b b' busy mine e f l = record {
  marks = λ q t. grind (arith, l.marks q t);
  cells = l.cells;
  queues = l.queues;
}
outside k u a cl pass p save b b' busy mine e f l = record {
  marks = λ q t. grind (arith, l.marks q t);
  cells = l.cells;
  queues = l.queues;
}
outside {E} k u a cl pass p (work w) b b' busy mine e f l =
    let real : p < k.parts = passed_part k busy mine p (work w) e in
    let ok : may k p w ≡ pass = passed_work k busy mine p w e in
    let x : Effect E = effect k w (b.cells p) b.queues in
    record {
      marks = l.marks;
      cells = λ q t n c. ap (λ (h : ℕ → E). h n) (replace_there b.cells x.cells p q (other_part u p q f t)) ∙ l.cells q t n c;
      queues = λ y h.
          let r = and_parts (ltb y 16) (bit h.who (k.receives y)) h.hears in
          frame_queues k p w ok (b.cells p) b.queues y (λ i s. both_ways (u p) f (cl.up y h.who p i h.exists real h.member r.1 s))
          ∙ l.queues y h;
    }

-- the same order of a member, with the same verdict, is answered alike and leaves the boxes alike
record Both {E : Type 0} (k : Making E) (u : ℕ → Bool) (x y : Step E (Boxes E)) : Type 0 where
  answer : x.answer ≡ y.answer
  after : Alike k u x.after y.after

inside : {E : Type 0} (k : Making E) (u : ℕ → Bool) (v : Verdict) (p : ℕ) (o : Order) (b b' : Boxes E) (busy mine : Bool) →
    check k busy mine p o ≡ v → u p ≡ true → Alike k u b b' → Both k u (box_act k v p o b) (box_act k v p o b')
inside k u (fail n d) p o b b' busy mine e t l = record { answer = refl; after = l }
inside k u pass p (malformed n d) b b' busy mine e t l = record { answer = refl; after = l }
inside k u pass p restore b b' busy mine e t l = record {
  answer = refl;
  after = record { marks = λ q z. cond_two (eqb q p) refl (l.marks q z); cells = l.cells; queues = l.queues };
}
inside k u pass p save b b' busy mine e t l = record {
  answer = refl;
  after = record { marks = λ q z. cond_two (eqb q p) refl (l.marks q z); cells = l.cells; queues = l.queues };
}
inside {E} k u pass p (work w) b b' busy mine e t l =
    let real : p < k.parts = passed_part k busy mine p (work w) e in
    let ok : may k p w ≡ pass = passed_work k busy mine p w e in
    let x : SameEffect k p (Heard k u) (effect k w (b.cells p) b.queues) (effect k w (b'.cells p) b'.queues) =
    same_effect k p (Heard k u) (λ y h. record { who = p; exists = real; member = t; hears = h }) w ok
    (b.cells p) (b'.cells p) b.queues b'.queues (l.cells p t) l.queues in
    record {
      answer = x.answer;
      after = record { marks = l.marks; cells = λ q z n c. go x q n z c (cases_eq q p); queues = x.queues };
    }
  where
    m : ℕ → E
    m = (effect k w (b.cells p) b.queues).cells

    m' : ℕ → E
    m' = (effect k w (b'.cells p) b'.queues).cells

    go : SameEffect k p (Heard k u) (effect k w (b.cells p) b.queues) (effect k w (b'.cells p) b'.queues) →
        (q n : ℕ) → u q ≡ true → touchable k q n ≡ true → (q ≡ p) ⊎ (q ≡ p → ⊥) → replace b.cells p m q n ≡ replace b'.cells p m' q n
    go x q n z c (inl d) = rw (eq-eqb q p d) (x.cells n (subst (λ (i : ℕ). touchable k i n ≡ true) d c))
    go x q n z c (inr d) = rw (ne_eqb q p d) (l.cells q z n c)

-- a turn call that is granted in both or in neither has the same verdict in both
same_verdict : {E : Type 0} (k : Making E) (p : ℕ) (o : Order) (f t : Bool) → Suits f t o → (b b' : Boxes E) (busy busy' mine : Bool) →
    ((f && t) ≡ true → granted (box_act k (check k busy mine p o) p o b).answer ≡ granted (box_act k (check k busy' mine p o) p o b').answer) →
    check k busy mine p o ≡ check k busy' mine p o
same_verdict k p (malformed n d) f t s b b' busy busy' mine g = refl
same_verdict k p restore f t s b b' busy busy' mine g = grind (arith, g (and_from f t s.0 s.1))
same_verdict k p save f t s b b' busy busy' mine g = refl
same_verdict k p (work w) f t s b b' busy busy' mine g = refl

-- a member's request, granted alike where it is a turn call
both : {E : Type 0} (k : Making E) (u : ℕ → Bool) (c : Request) (b b' : Boxes E) → Alike k u b b' → GrantedAlike k c b b' → u (part c) ≡ true → Both k u (box_step k c b) (box_step k c b')
both {E} k u c b b' l g t =
    subst (λ (v : Verdict). Both k u (box_step k c b) (box_act k v p (order c) b')) verdict
    (inside k u (check k busy (b.marks p) p (order c)) p (order c) b b' busy (b.marks p) refl t l)
  where
    p : ℕ
    p = part c

    busy : Bool
    busy = any k.parts b.marks

    verdict : check k busy (b.marks p) p (order c) ≡ check k (any k.parts b'.marks) (b'.marks p) p (order c)
    verdict =
        let g' = subst (λ (m : Bool). turn_call c ≡ true → granted (box_step k c b).answer ≡ granted (box_act k (check k (any k.parts b'.marks) m p (order c)) p (order c) b').answer)
        (sym (l.marks p t)) g in
        same_verdict k p (order c) (whole c) (turn_kind (kind c)) (suits_order c) b b' busy (any k.parts b'.marks) (b.marks p) g'
        ∙ ap (λ (m : Bool). check k (any k.parts b'.marks) m p (order c)) (l.marks p t)

other : {E : Type 0} (k : Making E) (u : ℕ → Bool) (a : ℕ) → Closed k.parts k.sends k.receives a u → (c : Request) (b b' : Boxes E) →
    Alike k u b b' → u (part c) ≡ false → Alike k u (box_step k c b).after b'
other k u a cl c b b' l f = outside k u a cl _ (part c) (order c) b b' (any k.parts b.marks) (b.marks (part c)) refl f l

pub one_step : {E : Type 0} (k : Making E) (p : ℕ) (u : ℕ → Bool) → Closed k.parts k.sends k.receives p u → OneStep k u
one_step {E} k a u cl = record {
  after = λ c b b' l g. go c b b' l g (cases_Bool (u (part c)));
  answer = λ c b b' l g t. (both k u c b b' l g t).answer;
  other = other k u a cl;
}
  where
    go : (c : Request) (b b' : Boxes E) → Alike k u b b' → GrantedAlike k c b b' → (u (part c) ≡ true) ⊎ (u (part c) ≡ false) →
        Alike k u (box_step k c b).after (box_step k c b').after
    go c b b' l g (inl t) = (both k u c b b' l g t).after
    go c b b' l g (inr f) =
        let x : Alike k u (box_step k c b).after b' = other k u a cl c b b' l f in
        alike_sym k u _ _ (other k u a cl c b' (box_step k c b).after (alike_sym k u _ _ x) f)
