-- A queue holds the last eight messages.
-- Assumes nothing.
use Rattle.std.proofs.Common.{◌≡◌, ℕ, ◌+◌, ◌-◌, ◌<◌, ◌≤◌, min, ◌⊎◌, List, [], ◌∷◌, ◌++◌, length, drop, sym, refl, ap, ◌∙◌, subst, inl, inr, arith}
use Rattle.std.proofs.lemmas.List.{length-drop, length_push, drop-drop, drop-append-le, append_assoc, append-nil}
use Rattle.std.proofs.lemmas.Bool.{lt-ltb, le-ltb, cases_lt}
use Rattle.queue.specs.Queue.{Queue, empty, appended, taken}
use Rattle.queue.specs.Runs.{Holds, last_eight, appended_all, LastEight}

pub appended_room : {E : Type 0} (m : List E) (q : Queue E) → length q.messages < 8 →
    appended m q ≡ record { messages = q.messages ++ (m ∷ []); missed = q.missed }
appended_room m q h = rw (lt-ltb (length q.messages) 8 h)

pub appended_full : {E : Type 0} (m : List E) (q : Queue E) → 8 ≤ length q.messages →
    appended m q ≡ record { messages = drop 1 q.messages ++ (m ∷ []); missed = min 255 (q.missed + 1) }
appended_full m q h = rw (le-ltb (length q.messages) 8 h)

drop_zero : {X : Type 0} (n : ℕ) (xs : List X) → n ≡ 0 → drop n xs ≡ xs
drop_zero n xs e = ap (λ (k : ℕ). drop k xs) e

module _ {E : Type 0} where
  last_length : (ms : List (List E)) → length (last_eight ms) ≡ length ms - (length ms - 8)
  last_length ms = length-drop (length ms - 8) ms

  pub holds_more : (ms : List (List E)) (q : Queue E) (m : List E) → Holds ms q → Holds (ms ++ (m ∷ [])) (appended m q)
  holds_more ms q m h = go (cases_lt (length ms) 8)
    where
      n : length (ms ++ (m ∷ [])) ≡ length ms + 1
      n = length_push ms m

      l : length q.messages ≡ length ms - (length ms - 8)
      l = ap length h.messages ∙ last_length ms

      go : (length ms < 8) ⊎ (8 ≤ length ms) → Holds (ms ++ (m ∷ [])) (appended m q)
      go (inl k) =
          let e = appended_room m q (omega (arith, l)) in
          record {
            messages = ap (λ (x : Queue E). x.messages) e ∙ (ap (λ (xs : List (List E)). xs ++ (m ∷ [])) (h.messages ∙ drop_zero (length ms - 8) ms (omega arith))
                ∙ sym (drop_zero (length (ms ++ (m ∷ [])) - 8) (ms ++ (m ∷ [])) (omega (arith, n))));
            missed = ap (λ (x : Queue E). x.missed) e ∙ omega (arith, n, h.missed);
          }
      go (inr k) =
          let e = appended_full m q (omega (arith, l)) in
          let d : length (ms ++ (m ∷ [])) - 8 ≡ length ms - 8 + 1 = omega (arith, n) in
          record {
            messages = ap (λ (x : Queue E). x.messages) e
                ∙ (ap (λ (xs : List (List E)). drop 1 xs ++ (m ∷ [])) h.messages
                ∙ (ap (λ (xs : List (List E)). xs ++ (m ∷ [])) (drop-drop 1 (length ms - 8) ms)
                ∙ (sym (drop-append-le (length ms - 8 + 1) ms (m ∷ []) (omega arith))
                ∙ ap (λ (j : ℕ). drop j (ms ++ (m ∷ []))) (sym d))));
            missed = ap (λ (x : Queue E). x.missed) e ∙ omega (arith, d, h.missed);
          }

  -- a take leaves the rest, and missed begins again
  pub holds_taken : (ms : List (List E)) (q : Queue E) → Holds ms q → Holds (drop 1 (last_eight ms)) (taken q)
  holds_taken ms q h =
      let l : length (drop 1 (last_eight ms)) ≤ 7 = omega (arith, length-drop 1 (last_eight ms), last_length ms) in
      record {
        messages = ap (drop 1) h.messages ∙ sym (drop_zero (length (drop 1 (last_eight ms)) - 8) (drop 1 (last_eight ms)) (omega arith));
        missed = omega arith;
      }

  all_after : (ms ns : List (List E)) (q : Queue E) → Holds ns q → Holds (ns ++ ms) (appended_all ms q)
  all_after [] ns q h = subst (λ (xs : List (List E)). Holds xs q) (sym (append-nil ns)) h
  all_after (m ∷ ms) ns q h =
      subst (λ (xs : List (List E)). Holds xs (appended_all ms (appended m q))) (append_assoc ns (m ∷ []) ms)
      (all_after ms (ns ++ (m ∷ [])) (appended m q) (holds_more ns q m h))

  pub last_eight_lem : LastEight E
  last_eight_lem ms = all_after ms [] empty (record { messages = refl; missed = refl })
