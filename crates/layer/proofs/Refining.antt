-- A layer as lists answers as the list that it means.
use Rattle.std.proofs.Common.{◌≡◌, ℕ, ◌<◌, true, false, cond, ltb, List, [], ◌∷◌, length, take, drop, set, Some, None, Ok, Err, Option, sym, refl, ap, ◌∙◌, ap₂, inl, inr, arith}
use Rattle.std.proofs.lemmas.List.{set_past}
use Rattle.std.proofs.lemmas.Bool.{lt-ltb, le-ltb, cases_lt, cond-true, cond-false}
use Rattle.element.specs.declared.element.Element.{Ghosts as Elements}
use Rattle.element.specs.declared.words.Words.{Words}
use Rattle.store.specs.declared.access.Access.{Access}
use Rattle.store.specs.declared.access.Access.TheVariants.{Read, Write}
use Rattle.store.specs.declared.fault.StoreFault.TheVariants.{Beyond}
use Rattle.store.specs.Meaning.{element}
use Rattle.store.specs.Sequences.{AnswerOf, of_read, of_write, answer, after, answers, after_all}
use Rattle.store.proofs.Within.{element_beyond}
use Rattle.layer.specs.Holds.{apart, held_for, outgoing, laid}
use Rattle.layer.specs.Layers.{Layer, Call, ask, flushing, fresh, asked, meaning, looked, layer_element, holding, flushed, layer_after, layer_answer, layer_answers, layer_after_all, Transparent}
use Rattle.layer.proofs.Holding.{length-laid, laid_placed, laid_parts, apart_placed, apart_drop, none_absent, element_absent, element_held}

module _ {E : Type 0} (el : Elements E) where
  pub length-meaning : (l : Layer E) → length (meaning el l) ≡ length l.below
  length-meaning l = length-laid el.unpacked l.below l.held

  looked_right : (l : Layer E) (n : ℕ) → n < length l.below → apart l.held ≡ true → (o : Option Words) → held_for n l.held ≡ o → element (meaning el l) n ≡ looked el l n o
  looked_right l n h s (Some w) e = element_held el.unpacked l.below l.held n w h s e
  looked_right l n h s None e = element_absent el.unpacked l.below l.held n (none_absent n l.held e)

  -- a read
  pub read_right : (l : Layer E) (n : ℕ) → apart l.held ≡ true → element (meaning el l) n ≡ layer_element el l n
  read_right l n s =
      elim (cases_lt n (length l.below)) [
        | inl h ↦ looked_right l n h s (held_for n l.held) refl ∙ sym (cond-true (ltb n (length l.below)) (looked el l n (held_for n l.held)) (Err Beyond) (lt-ltb n (length l.below) h))
        | inr h ↦ element_beyond (meaning el l) n (omega (arith, length-meaning l)) ∙ sym (cond-false (ltb n (length l.below)) (looked el l n (held_for n l.held)) (Err Beyond) (le-ltb n (length l.below) h))
      ]

  -- a write
  apart_holding : (l : Layer E) (n : ℕ) (x : E) → apart l.held ≡ true → apart (holding el l n x).held ≡ true
  apart_holding l n x s = apart_placed (drop (outgoing n l.held) l.held) (record { cell = n; words = el.packed x }) (apart_drop (outgoing n l.held) l.held s)

  pub meaning_holding : (l : Layer E) (n : ℕ) (x : E) → apart l.held ≡ true → el.unpacked (el.packed x) ≡ x → meaning el (holding el l n x) ≡ set (meaning el l) n x
  meaning_holding l n x s e =
      let u = el.unpacked in
      let k = outgoing n l.held in
      laid_placed u (laid u l.below (take k l.held)) (drop k l.held) (record { cell = n; words = el.packed x }) (apart_drop k l.held s)
      ∙ ap₂ (λ (xs : List E) (y : E). set xs n y) (laid_parts u k l.below l.held) e

  -- a layer where no cell is held twice stays one, and means what the accesses make of its meaning
  module _ (round : (x : E) → el.unpacked (el.packed x) ≡ x) where
    pub after_apart : (l : Layer E) (a : Access E) → apart l.held ≡ true → apart (layer_after el l a).held ≡ true
    after_apart l (Read n) s = s
    after_apart l (Write n x) s =
        elim (ltb n (length l.below)) as (λ b. apart (cond b (holding el l n x) l).held ≡ true) [ true ↦ apart_holding l n x s | false ↦ s ]

    pub after_right : (l : Layer E) (a : Access E) → apart l.held ≡ true → meaning el (layer_after el l a) ≡ after (meaning el l) a
    after_right l (Read n) s = refl
    after_right l (Write n x) s =
        elim (cases_lt n (length l.below)) [
          | inl h ↦ ap (meaning el) (cond-true (ltb n (length l.below)) (holding el l n x) l (lt-ltb n (length l.below) h)) ∙ meaning_holding l n x s (round x)
          | inr h ↦ ap (meaning el) (cond-false (ltb n (length l.below)) (holding el l n x) l (le-ltb n (length l.below) h))
              ∙ sym (set_past (meaning el l) n x (omega (arith, length-meaning l)))
        ]

    answer_right : (l : Layer E) (a : Access E) → apart l.held ≡ true → layer_answer el l a ≡ answer (meaning el l) a
    answer_right l (Read n) s = ap of_read (sym (read_right l n s))
    answer_right l (Write n x) s = ap (λ (k : ℕ). of_write (cond (ltb n k) (Ok tt) (Err Beyond))) (sym (length-meaning l))

    answers_right : (l : Layer E) (calls : List (Call E)) → apart l.held ≡ true → layer_answers el l calls ≡ answers (meaning el l) (asked calls)
    answers_right l [] s = refl
    answers_right l (ask a ∷ more) s =
        ap₂ (λ (r : AnswerOf E) (rs : List (AnswerOf E)). r ∷ rs) (answer_right l a s)
        (answers_right (layer_after el l a) more (after_apart l a s) ∙ ap (λ (xs : List E). answers xs (asked more)) (after_right l a s))
    answers_right l (flushing ∷ more) s = answers_right (flushed el l) more refl

    left_right : (l : Layer E) (calls : List (Call E)) → apart l.held ≡ true → meaning el (layer_after_all el l calls) ≡ after_all (meaning el l) (asked calls)
    left_right l [] s = refl
    left_right l (ask a ∷ more) s =
        left_right (layer_after el l a) more (after_apart l a s) ∙ ap (λ (xs : List E). after_all xs (asked more)) (after_right l a s)
    left_right l (flushing ∷ more) s = left_right (flushed el l) more refl

    pub transparent : (xs : List E) → Transparent el xs
    transparent xs = record { replies = λ calls. answers_right (fresh xs) calls refl; left = λ calls. left_right (fresh xs) calls refl }
