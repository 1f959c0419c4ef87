use Rattle.std.proofs.Common.{◌≡◌, ℕ, zero, suc, ◌+◌, ◌-◌, ◌<◌, ◌≤◌, Bool, true, false, not, eqb, ◌≢◌, List, [], ◌∷◌, ◌++◌, length, get_or, take, drop, set, Some, None, Option, Ok, sym, refl, ap, ◌∙◌, subst, inl, inr, arith, length-set, length-take}
use Rattle.element.specs.Pairs.{pair}
use Rattle.element.specs.declared.words.Words.{Words}
use Rattle.std.proofs.lemmas.List.{take_more_set, take-append-le, set-set, set_comm}
use Rattle.std.proofs.lemmas.Bool.{and_parts, and_from, and_left, and_right, eqb-true, eqb-false, eq-eqb, ne_eqb, not-true, not_from_true, not_from_false, cond_both, cond-true, cond-false, cases_eq, lt-ltb}
use Rattle.std.specs.Option.{is_some}
use Rattle.std.specs.List.{position, position_from}
use Rattle.std.proofs.lemmas.Iterator.Adapters.{position_from-zero}
use Rattle.store.specs.Meaning.{element}
use Rattle.store.proofs.Within.{element_set_same, element_set_other}
use Rattle.layer.specs.declared.held_write.HeldWrite.{HeldWrite}
use Rattle.layer.specs.Holds.{absent, apart, inside, held_for, placed, seventeenth, laid}

-- the tests, as facts
pub absent_parts : (n : ℕ) (e : HeldWrite) (es : List HeldWrite) → absent n (e ∷ es) ≡ true → (e.cell ≡ n → ⊥) × (absent n es ≡ true)
absent_parts n e es h =
    let p = and_parts (not (eqb e.cell n)) (absent n es) h in (eqb-false e.cell n (not-true _ p.0), p.1)

pub absent_from : (n : ℕ) (e : HeldWrite) (es : List HeldWrite) → (e.cell ≡ n → ⊥) → absent n es ≡ true → absent n (e ∷ es) ≡ true
absent_from n e es ne t = and_from _ _ (not_from_false _ (ne_eqb e.cell n ne)) t

pub apart_parts : (e : HeldWrite) (es : List HeldWrite) → apart (e ∷ es) ≡ true → (absent e.cell es ≡ true) × (apart es ≡ true)
apart_parts e es h = and_parts _ _ h

-- the first write to cell n is at place i
abbrev pub HeldAt : ℕ → ℕ → List HeldWrite → Type 0
HeldAt n i [] = ⊥
HeldAt n zero (w ∷ ws) = w.cell ≡ n
HeldAt n (suc i) (w ∷ ws) = (w.cell ≢ n) × HeldAt n i ws

-- what a search finds
search_none : (n k : ℕ) (es : List HeldWrite) → position_from (λ (w : HeldWrite). eqb w.cell n) k es ≡ None → absent n es ≡ true
search_none n k [] q = refl
search_none n k (e ∷ es) q =
    elim (cases_eq e.cell n) [
      | inl h ↦ (let s : Some k ≡ None = sym (cond-true (eqb e.cell n) _ _ (eq-eqb e.cell n h)) ∙ q in
          let z : ◌≡◌ {A = ℕ} 0 1 = cc in absurd (omega arith))
      | inr h ↦ absent_from n e es h (search_none n (k + 1) es (sym (cond-false (eqb e.cell n) _ _ (ne_eqb e.cell n h)) ∙ q))
    ]

search_some : (n k i : ℕ) (es : List HeldWrite) → position_from (λ (w : HeldWrite). eqb w.cell n) k es ≡ Some i → (k ≤ i) × HeldAt n (i - k) es
search_some n k i [] q = let z : ◌≡◌ {A = ℕ} 0 1 = cc in absurd (omega arith)
search_some n k i (e ∷ es) q =
    elim (cases_eq e.cell n) [
      | inl h ↦ (let s : Some k ≡ Some i = sym (cond-true (eqb e.cell n) _ _ (eq-eqb e.cell n h)) ∙ q in
          let w : k ≡ i = cc in
          let v : 0 ≡ i - k = omega arith in
          (omega arith, subst (λ (j : ℕ). HeldAt n j (e ∷ es)) v h))
      | inr h ↦ (let p = search_some n (k + 1) i es (sym (cond-false (eqb e.cell n) _ _ (ne_eqb e.cell n h)) ∙ q) in
          let l : k + 1 ≤ i = p.0 in
          let v : suc (i - (k + 1)) ≡ i - k = omega arith in
          (omega arith, subst (λ (j : ℕ). HeldAt n j (e ∷ es)) v (h, p.1)))
    ]

pub held_found : (n i : ℕ) (es : List HeldWrite) → Some i ≡ position (λ (w : HeldWrite). eqb w.cell n) es → HeldAt n i es
held_found n i es q =
    let v : i - 0 ≡ i = omega arith in
    subst (λ (j : ℕ). HeldAt n j es) v (search_some n 0 i es (sym (position_from-zero (λ (w : HeldWrite). eqb w.cell n) es) ∙ sym q)).1

pub held_missed : (n : ℕ) (es : List HeldWrite) → None ≡ position (λ (w : HeldWrite). eqb w.cell n) es → absent n es ≡ true
held_missed n es q = search_none n 0 es (sym (position_from-zero (λ (w : HeldWrite). eqb w.cell n) es) ∙ sym q)

pub held_at_less : (n i : ℕ) (es : List HeldWrite) → HeldAt n i es → i < length es
held_at_less n i [] h = absurd h
held_at_less n zero (e ∷ es) h = omega arith
held_at_less n (suc i) (e ∷ es) h = let k = held_at_less n i es h.1 in omega arith

-- a write in place, and one more
pub placed_at : (n i : ℕ) (es : List HeldWrite) (e : HeldWrite) → HeldAt n i es → e.cell ≡ n → placed es e ≡ set es i e
placed_at n i [] e h q = absurd h
placed_at n zero (x ∷ es) e h q =
    cond_both (eqb x.cell e.cell) (e ∷ es) (x ∷ placed es e) (λ l. l ≡ e ∷ es) (λ _. refl)
    (λ t. absurd (eqb-false x.cell e.cell t (h ∙ sym q)))
placed_at n (suc i) (x ∷ es) e h q =
    cond_both (eqb x.cell e.cell) (e ∷ es) (x ∷ placed es e) (λ l. l ≡ x ∷ set es i e)
    (λ t. absurd (h.0 (eqb-true x.cell e.cell t ∙ q)))
    (λ _. ap (λ l. x ∷ l) (placed_at n i es e h.1 q))

pub placed_new : (es : List HeldWrite) (e : HeldWrite) → absent e.cell es ≡ true → placed es e ≡ es ++ e ∷ []
placed_new [] e h = refl
placed_new (x ∷ es) e h =
    let p = absent_parts e.cell x es h in
    cond_both (eqb x.cell e.cell) (e ∷ es) (x ∷ placed es e) (λ l. l ≡ x ∷ (es ++ e ∷ []))
    (λ t. absurd (p.0 (eqb-true x.cell e.cell t)))
    (λ _. ap (λ l. x ∷ l) (placed_new es e p.1))

pub absent_placed : (n : ℕ) (es : List HeldWrite) (e : HeldWrite) → absent n es ≡ true → (e.cell ≡ n → ⊥) → absent n (placed es e) ≡ true
absent_placed n [] e h ne = absent_from n e [] ne refl
absent_placed n (x ∷ es) e h ne =
    let p = absent_parts n x es h in
    cond_both (eqb x.cell e.cell) (e ∷ es) (x ∷ placed es e) (λ l. absent n l ≡ true)
    (λ _. absent_from n e es ne p.1)
    (λ _. absent_from n x (placed es e) p.0 (absent_placed n es e p.1 ne))

pub apart_placed : (es : List HeldWrite) (e : HeldWrite) → apart es ≡ true → apart (placed es e) ≡ true
apart_placed [] e h = refl
apart_placed (x ∷ es) e h =
    let p = apart_parts x es h in
    cond_both (eqb x.cell e.cell) (e ∷ es) (x ∷ placed es e) (λ l. apart l ≡ true)
    (λ t. and_from _ _ (rw (← eqb-true x.cell e.cell t) p.0) p.1)
    (λ t. and_from _ _ (absent_placed x.cell es e p.0 (λ q. eqb-false x.cell e.cell t (sym q))) (apart_placed es e p.1))

-- a write below the size is held among writes below the size
pub inside_placed : (k : ℕ) (es : List HeldWrite) (e : HeldWrite) → inside k es ≡ true → e.cell < k → inside k (placed es e) ≡ true
inside_placed k [] e h l = and_from _ _ (lt-ltb e.cell k l) refl
inside_placed k (x ∷ es) e h l =
    let p = and_parts _ _ h in
    cond_both (eqb x.cell e.cell) (e ∷ es) (x ∷ placed es e) (λ t. inside k t ≡ true)
    (λ _. and_from _ _ (lt-ltb e.cell k l) p.1)
    (λ _. and_from _ _ p.0 (inside_placed k es e p.1 l))

-- the meaning of the held writes
module _ {X : Type 0} (f : Words → X) where
  pub length-laid : (xs : List X) (es : List HeldWrite) → length (laid f xs es) ≡ length xs
  length-laid xs [] = refl
  length-laid xs (e ∷ es) = length-laid (set xs e.cell (f e.words)) es ∙ length-set xs _ _

  pub laid_set : (xs : List X) (n : ℕ) (x : X) (es : List HeldWrite) → absent n es ≡ true → laid f (set xs n x) es ≡ set (laid f xs es) n x
  laid_set xs n x [] h = refl
  laid_set xs n x (e ∷ es) h =
      let p = absent_parts n e es h in
      ap (λ l. laid f l es) (set_comm xs n e.cell x (f e.words) (λ q. p.0 (sym q)))
      ∙ laid_set (set xs e.cell (f e.words)) n x es p.1

  pub laid_placed : (xs : List X) (es : List HeldWrite) (e : HeldWrite) → apart es ≡ true → laid f xs (placed es e) ≡ set (laid f xs es) e.cell (f e.words)
  laid_placed xs [] e h = refl
  laid_placed xs (x ∷ es) e h =
      let p = apart_parts x es h in
      cond_both (eqb x.cell e.cell) (e ∷ es) (x ∷ placed es e) (λ l. laid f xs l ≡ set (laid f xs (x ∷ es)) e.cell (f e.words))
      (λ t.
      let q = eqb-true x.cell e.cell t in
      let a : absent e.cell es ≡ true = rw (← q) p.0 in
      laid_set xs e.cell (f e.words) es a
      ∙ sym (ap (λ l. set l e.cell (f e.words)) (ap (λ m. laid f (set xs m (f x.words)) es) q ∙ laid_set xs e.cell (f x.words) es a)
      ∙ set-set (laid f xs es) e.cell _ _))
      (λ _. laid_placed (set xs x.cell (f x.words)) es e p.1)

-- the first of the held, and the others after a turn of the whole table by one
pub take_first : (es : List HeldWrite) (n : ℕ) (d : HeldWrite) → 0 < n → n ≤ length es → take n es ≡ get_or es 0 d ∷ take (n - 1) (drop 1 es ++ take 1 es)
take_first [] n d h l = absurd (omega arith)
take_first (e ∷ es) zero d h l = absurd (omega arith)
take_first (e ∷ es) (suc n) d h l =
    let k : n ≤ length es = omega arith in
    let q : suc n - 1 ≡ n = omega arith in
    rw q (ap (λ t. e ∷ t) (sym (take-append-le n es (e ∷ []) k)))

pub take_of_set : {X : Type 0} (n : ℕ) (xs : List X) (i : ℕ) (a : X) → take n (set xs i a) ≡ set (take n xs) i a
take_of_set zero xs i a = refl
take_of_set (suc n) [] i a = refl
take_of_set (suc n) (x ∷ xs) zero a = refl
take_of_set (suc n) (x ∷ xs) (suc i) a = ap (λ t. x ∷ t) (take_of_set n xs i a)

-- the table's array and count
pub split_first : (es ts : List HeldWrite) (n : ℕ) (d : HeldWrite) → 0 < n → n ≤ length es → ts ≡ drop 1 es ++ take 1 es → take n es ≡ get_or es 0 d ∷ take (n - 1) ts
split_first es ts n d h l q = take_first es n d h l ∙ ap (λ t. get_or es 0 d ∷ take (n - 1) t) (sym q)

pub apart_rest : (es ts : List HeldWrite) (n : ℕ) → 0 < n → n ≤ length es → ts ≡ drop 1 es ++ take 1 es → apart (take n es) ≡ true → apart (take (n - 1) ts) ≡ true
apart_rest es ts n h l q a =
    let d : HeldWrite = record { cell = 0; words = pair 0 0 } in
    (apart_parts (get_or es 0 d) (take (n - 1) ts) (ap apart (sym (split_first es ts n d h l q)) ∙ a)).1

pub held_below : (n i k m : ℕ) (es : List HeldWrite) → HeldAt n i (take k es) → k ≤ m → i < m
held_below n i k m es h l = let p = held_at_less n i (take k es) h in omega (arith, simp length-take at p)

pub put_in_place : (es : List HeldWrite) (k i : ℕ) (e : HeldWrite) → HeldAt e.cell i (take k es) → take k (set es i e) ≡ placed (take k es) e
put_in_place es k i e h = take_of_set k es i e ∙ sym (placed_at e.cell i (take k es) e h refl)

pub put_last : (es : List HeldWrite) (k : ℕ) (e : HeldWrite) → absent e.cell (take k es) ≡ true → k < length es → take (k + 1) (set es k e) ≡ placed (take k es) e
put_last es k e a l = take_more_set es k e l ∙ sym (placed_new (take k es) e a)

-- what is held for a cell
pub held_not_absent : (n i : ℕ) (es : List HeldWrite) → HeldAt n i es → absent n es ≡ false
held_not_absent n i [] h = absurd h
held_not_absent n zero (e ∷ es) h = and_left _ _ (not_from_true _ (eq-eqb e.cell n h))
held_not_absent n (suc i) (e ∷ es) h = and_right _ _ (held_not_absent n i es h.1)

-- in a full table a search misses exactly the seventeenth cells
pub search_misses : (n : ℕ) (es : List HeldWrite) (o : Option ℕ) (r : Bool) → o ≡ position (λ (w : HeldWrite). eqb w.cell n) es → is_some o ≡ not r →
    true ≡ eqb (length es) 16 → r ≡ seventeenth n es
search_misses n es None true h e q = rw (held_missed n es h, ← q) refl
search_misses n es None false h e q = let z : ◌≡◌ {A = ℕ} 0 1 = cc in absurd (omega arith)
search_misses n es (Some i) true h e q = let z : ◌≡◌ {A = ℕ} 0 1 = cc in absurd (omega arith)
search_misses n es (Some i) false h e q = rw (held_not_absent n i es (held_found n i es h)) refl

pub held_for_at : (n i : ℕ) (es : List HeldWrite) (d : HeldWrite) → HeldAt n i es → held_for n es ≡ Some (get_or es i d).words
held_for_at n i [] d h = absurd h
held_for_at n zero (e ∷ es) d h = cond-true (eqb e.cell n) _ _ (eq-eqb e.cell n h)
held_for_at n (suc i) (e ∷ es) d h = cond-false (eqb e.cell n) _ _ (ne_eqb e.cell n h.0) ∙ held_for_at n i es d h.1

pub held_for_none : (n : ℕ) (es : List HeldWrite) → absent n es ≡ true → held_for n es ≡ None
held_for_none n [] h = refl
held_for_none n (e ∷ es) h =
    let p = absent_parts n e es h in cond-false (eqb e.cell n) _ _ (ne_eqb e.cell n p.0) ∙ held_for_none n es p.1

pub none_absent : (n : ℕ) (es : List HeldWrite) → held_for n es ≡ None → absent n es ≡ true
none_absent n [] h = refl
none_absent n (e ∷ es) h =
    elim (cases_eq e.cell n) [
      | inl q ↦ (let s : Some e.words ≡ None = sym (cond-true (eqb e.cell n) (Some e.words) (held_for n es) (eq-eqb e.cell n q)) ∙ h in
          let z : ◌≡◌ {A = ℕ} 0 1 = cc in absurd (omega arith))
      | inr q ↦ absent_from n e es q (none_absent n es (sym (cond-false (eqb e.cell n) (Some e.words) (held_for n es) (ne_eqb e.cell n q)) ∙ h))
    ]

pub apart_drop : (k : ℕ) (es : List HeldWrite) → apart es ≡ true → apart (drop k es) ≡ true
apart_drop zero es h = h
apart_drop (suc k) [] h = refl
apart_drop (suc k) (e ∷ es) h = apart_drop k es (apart_parts e es h).1

module _ {X : Type 0} (f : Words → X) where
  pub laid_parts : (k : ℕ) (xs : List X) (es : List HeldWrite) → laid f (laid f xs (take k es)) (drop k es) ≡ laid f xs es
  laid_parts zero xs es = refl
  laid_parts (suc k) xs [] = refl
  laid_parts (suc k) xs (e ∷ es) = laid_parts k (set xs e.cell (f e.words)) es

  pub element_absent : (xs : List X) (es : List HeldWrite) (n : ℕ) → absent n es ≡ true → element (laid f xs es) n ≡ element xs n
  element_absent xs [] n h = refl
  element_absent xs (e ∷ es) n h =
      let p = absent_parts n e es h in
      element_absent (set xs e.cell (f e.words)) es n p.1 ∙ element_set_other xs e.cell n (f e.words) p.0

  pub element_held : (xs : List X) (es : List HeldWrite) (n : ℕ) (w : Words) → n < length xs → apart es ≡ true → held_for n es ≡ Some w → element (laid f xs es) n ≡ Ok (f w)
  element_held xs [] n w l s h = let z : ◌≡◌ {A = ℕ} 0 1 = cc in absurd (omega arith)
  element_held xs (e ∷ es) n w l s h =
      let p = apart_parts e es s in
      elim (cases_eq e.cell n) [
        | inl q ↦ (let here : Some e.words ≡ Some w = sym (cond-true (eqb e.cell n) (Some e.words) (held_for n es) (eq-eqb e.cell n q)) ∙ h in
            let same : e.words ≡ w = cc in
            let a : absent n es ≡ true = rw (← q) p.0 in
            element_absent (set xs e.cell (f e.words)) es n a
            ∙ (ap (λ (m : ℕ). element (set xs m (f e.words)) n) q ∙ (element_set_same xs n (f e.words) l ∙ ap (λ (v : Words). Ok (f v)) same)))
        | inr q ↦ (let k : n < length (set xs e.cell (f e.words)) = rw length-set l in
            element_held (set xs e.cell (f e.words)) es n w k p.1
            (sym (cond-false (eqb e.cell n) (Some e.words) (held_for n es) (ne_eqb e.cell n q)) ∙ h))
      ]
