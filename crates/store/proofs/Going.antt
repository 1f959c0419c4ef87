-- The loop that performs accesses.
use Rattle.std.proofs.Common.{◌≡◌, ℕ, ◌+◌, ◌<◌, min, List, [], ◌∷◌, ◌++◌, length, get_or, take, drop, set, sym, ap, ◌∙◌, ap₂, inl, inr, arith, length-take}
use Rattle.std.proofs.lemmas.List.{append_assoc, append-nil, take-append-drop, take_more_set, drop-set-lt, drop-drop, drop_more, drop_all, get_or-take}
use Rattle.std.proofs.lemmas.Bool.{cases_lt}
use Rattle.store.specs.declared.access.Access.{Access}
use Rattle.store.specs.Sequences.{AnswerOf, answer, after, answers, after_all, Answered}

-- after i accesses of `todo` the store, which meant xs, means ys, and the first i places have the answers
pub record Going {E : Type 0} (xs ys : List E) (todo : List (Access E)) (before places : List (AnswerOf E)) (i : ℕ) : Type 0 where
  pub front : take i places ++ answers ys (drop i todo) ≡ answers xs todo
  pub cells : after_all ys (drop i todo) ≡ after_all xs todo
  pub back : drop i places ≡ drop i before

module _ {E : Type 0} where
  pub going_more : (xs ys zs : List E) (accesses : List (Access E)) (before places : List (AnswerOf E)) (i : ℕ) (a : Access E) (r : AnswerOf E) →
      i < length accesses → i < length before → length places ≡ length before → a ≡ get_or accesses i a → r ≡ answer ys a → zs ≡ after ys a →
      Going xs ys (take (length before) accesses) before places i → Going xs zs (take (length before) accesses) before (set places i r) (i + 1)
  going_more xs ys zs accesses before places i a r h k l e p q s =
      let todo = take (length before) accesses in
      let m : i < length (take (length before) accesses) = omega (arith, length-take (length before) accesses) in
      let here : a ≡ get_or todo i a = e ∙ sym (get_or-take (length before) accesses i a k) in
      let next : drop i todo ≡ a ∷ drop (i + 1) todo = drop_more todo i a m ∙ ap (λ (b : Access E). b ∷ drop (i + 1) todo) (sym here) in
      record {
        front =
            ap₂ (λ (t : List (AnswerOf E)) (w : List E). t ++ answers w (drop (i + 1) todo)) (take_more_set places i r (omega arith)) q
            ∙ (append_assoc (take i places) (r ∷ []) (answers (after ys a) (drop (i + 1) todo))
            ∙ (ap (λ (b : AnswerOf E). take i places ++ (b ∷ answers (after ys a) (drop (i + 1) todo))) p
            ∙ (ap (λ (t : List (Access E)). take i places ++ answers ys t) (sym next) ∙ s.front)));
        cells =
            ap (λ (w : List E). after_all w (drop (i + 1) todo)) q ∙ (ap (λ (t : List (Access E)). after_all ys t) (sym next) ∙ s.cells);
        back =
            drop-set-lt (i + 1) places i r (omega arith)
            ∙ (sym (drop-drop 1 i places) ∙ (ap (λ (t : List (AnswerOf E)). drop 1 t) s.back ∙ drop-drop 1 i before));
      }

  past_all : (accesses : List (Access E)) (before : List (AnswerOf E)) (i : ℕ) → i ≡ min (length accesses) (length before) → drop i before ≡ drop (length accesses) before
  past_all accesses before i h =
      elim (cases_lt (length before) (length accesses)) [
        | inl k ↦ drop_all i before (omega arith) ∙ sym (drop_all (length accesses) before (omega arith))
        | inr k ↦ (let e : i ≡ length accesses = omega arith in ap (λ (j : ℕ). drop j before) e)
      ]

  pub going_end : (xs ys : List E) (accesses : List (Access E)) (before places : List (AnswerOf E)) (i : ℕ) → i ≡ min (length accesses) (length before) →
      Going xs ys (take (length before) accesses) before places i →
      Answered xs ys accesses before places
  going_end xs ys accesses before places i h s =
      let todo = take (length before) accesses in
      let none : drop i todo ≡ [] = drop_all i todo (omega (arith, length-take (length before) accesses)) in
      let front : take i places ≡ answers xs todo =
      sym (append-nil (take i places)) ∙ (ap (λ (t : List (Access E)). take i places ++ answers ys t) (sym none) ∙ s.front) in
      record {
        told = sym (take-append-drop i places) ∙ ap₂ (λ (t w : List (AnswerOf E)). t ++ w) front (s.back ∙ past_all accesses before i h);
        left = ap (λ (t : List (Access E)). after_all ys t) (sym none) ∙ s.cells;
      }
