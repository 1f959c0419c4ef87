-- Values laid over the first places, and what a send and a receive make of all queues.
-- Assumes nothing.
use Rattle.std.proofs.Common.{◌≡◌, ℕ, ◌<◌, ◌≤◌, min, ◌⊎◌, List, [], ◌∷◌, ◌++◌, length, take, drop, sym, refl, ap, ◌∙◌, subst, ap₂, inl, inr, arith}
use mathlib.Core.Path.{fun_ext}
use Rattle.std.proofs.lemmas.List.{take_all, drop_all, take_at, length-take-le}
use Rattle.std.proofs.lemmas.Bool.{cases_eq, cases_lt, lt-ltb, eq-eqb, ne_eqb}
use Rattle.queue.specs.Queue.{Queue, empty, appended, first, taken}
use Rattle.queue.specs.declared.queues.Taken.{Taken}
use Rattle.queue.specs.Runs.{Holds, last_eight}
use Rattle.queue.specs.Laid.{laid}
use Rattle.queue.specs.Ports.{sent, received, Sent, Received, Given}
use Rattle.queue.proofs.Runs.{holds_more, holds_taken}

-- the first n, where n is cut to the length
pub take_min : {X : Type 0} (xs : List X) (n k : ℕ) → n ≡ min (length xs) k → take n xs ≡ take k xs
take_min xs n k e = go (cases_lt k (length xs))
  where
    go : (k < length xs) ⊎ (length xs ≤ k) → take n xs ≡ take k xs
    go (inl h) = let d : n ≡ k = omega arith in ap (λ (i : ℕ). take i xs) d
    go (inr h) = take_all n xs (omega arith) ∙ sym (take_all k xs h)

pub laid_min : {X : Type 0} (vs ps : List X) (n : ℕ) → n ≡ min (length vs) (length ps) → laid vs ps ≡ take n vs ++ drop n ps
laid_min vs ps n e = go (cases_lt (length ps) (length vs))
  where
    go : (length ps < length vs) ⊎ (length vs ≤ length ps) → laid vs ps ≡ take n vs ++ drop n ps
    go (inl h) =
        let d : length ps ≡ n = omega arith in
        ap₂ ◌++◌ (ap (λ (i : ℕ). take i vs) d) (drop_all (length vs) ps (omega arith) ∙ sym (drop_all n ps (omega arith)))
    go (inr h) =
        let d : length vs ≡ n = omega arith in
        ap₂ ◌++◌ (take_all (length ps) vs h ∙ sym (take_all n vs (omega arith))) (ap (λ (i : ℕ). drop i ps) d)

-- what was laid, as far as there were places
pub laid_front : {X : Type 0} (vs ps : List X) (n : ℕ) → n ≡ min (length vs) (length ps) → take n (laid vs ps) ≡ take (length ps) vs
laid_front vs ps n e =
    let l : length (take n vs) ≡ n = length-take-le n vs (omega arith) in
    ap (take n) (laid_min vs ps n e) ∙ take_at (take n vs) (drop n ps) n l ∙ take_min vs n (length ps) e

pub given : {E : Type 0} (q : Queue E) (before after : List E) (r : Taken) → after ≡ laid (first q.messages) before →
    r.count ≡ min (length (first q.messages)) (length before) → r.missed ≡ q.missed → length (first q.messages) ≤ 4 → Given q before after r
given q before after r p c m f = record {
  places = p;
  count = c;
  missed = m;
  few = f;
  whole = λ h. ap (take r.count) p ∙ laid_front (first q.messages) before r.count c ∙ take_all (length before) (first q.messages) (omega arith);
}

-- no message: the places stay
pub given_none : {E : Type 0} (q : Queue E) (before : List E) → q ≡ empty → Given q before before (record { count = 0; missed = 0 })
given_none q before e = subst (λ (x : Queue _). Given x before before (record { count = 0; missed = 0 })) (sym e)
    (given empty before before (record { count = 0; missed = 0 })
    (sym (ap (λ (xs : List _). xs ++ before) (take_all (length before) [] (omega arith)))) (omega arith) refl (omega arith))

pub sent_all : {E : Type 0} (o o' : ℕ → Queue E) (x : ℕ) (vs : List E) → o' ≡ sent x vs o → Sent o o' x vs
sent_all o o' x vs e = record {
  after = e;
  run = λ h ms k.
      let d : sent x vs o x ≡ appended (take 4 vs) (o x) = rw (lt-ltb x 16 h, eq-eqb x x refl) in
      subst (λ (q : Queue _). Holds (ms ++ (take 4 vs ∷ [])) q) (sym (ap (λ (f : ℕ → Queue _). f x) e ∙ d)) (holds_more ms (o x) (take 4 vs) k);
}

pub received_all : {E : Type 0} (o o' : ℕ → Queue E) (x : ℕ) → o' ≡ received x o → Received o o' x
received_all o o' x e = record {
  after = e;
  run = λ ms k.
      let d : received x o x ≡ taken (o x) = rw (eq-eqb x x refl) in
      subst (λ (q : Queue _). Holds (drop 1 (last_eight ms)) q) (sym (ap (λ (f : ℕ → Queue _). f x) e ∙ d)) (holds_taken ms (o x) k);
}

-- taking from an empty queue leaves all queues as they were
pub received_none : {E : Type 0} (o : ℕ → Queue E) (x : ℕ) → o x ≡ empty → o ≡ received x o
received_none o x e = fun_ext (λ y. elim (cases_eq y x) [
  | inl d ↦ rw (eq-eqb y x d) (ap o d ∙ (e ∙ sym (ap taken (ap o d ∙ e))))
  | inr d ↦ rw (ne_eqb y x d)
])
