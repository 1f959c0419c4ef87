-- Loops that write values to cells, and what they make of each cell.
use Rattle.std.proofs.Common.{◌≡◌, ℕ, suc, ◌<◌, ◌≤◌, Bool, true, false, cond, ◌&&◌, ltb, List, [], ◌∷◌, length, get_or, drop, set, sym, refl, ap, ◌∙◌, ap₂, inl, inr, arith, length-set, drop-cons}
use Rattle.std.proofs.lemmas.List.{drop_all, get_or_past, get_or-set_same, get_or-set_other}
use Rattle.std.proofs.lemmas.Bool.{cases_lt, cases_eq, eq-eqb, ne_eqb, lt-ltb, le-ltb}
use Rattle.cells.specs.Cells.{member, beside}
use Rattle.transfer.specs.Lists.{stored}

module _ {E : Type 0} (z : E) where
  pub stored_none : (ns : List ℕ) (vs xs : List E) (i : ℕ) → length ns ≤ i → xs ≡ stored z (drop i ns) (drop i vs) xs
  stored_none ns vs xs i h = rw (drop_all i ns h)

  stored_step : (ns : List ℕ) (vs xs : List E) (i : ℕ) → i < length ns →
      set (stored z (drop (suc i) ns) (drop (suc i) vs) xs) (get_or ns i 0) (get_or vs i z) ≡ stored z (drop i ns) (drop i vs) xs
  stored_step ns vs xs i h =
      elim (cases_lt i (length vs)) [
        | inl k ↦ rw (drop-cons ns i 0 h, drop-cons vs i z k)
        | inr k ↦ rw (drop_all (suc i) vs (omega arith), drop_all i vs k, drop-cons ns i 0 h, get_or_past vs i z k)
      ]

  -- one more cell is written, at place j before place i
  pub stored_more : (x : E) (ns : List ℕ) (vs xs before after : List E) (i j : ℕ) → i ≡ suc j → i ≤ length ns →
      after ≡ set before (get_or ns j 0) x → before ≡ stored z (drop i ns) (drop i vs) xs → x ≡ get_or vs j z → after ≡ stored z (drop j ns) (drop j vs) xs
  stored_more x ns vs xs before after i j e h a b v =
      a ∙ (ap₂ (λ (t : List E) (y : E). set t (get_or ns j 0) y) (b ∙ ap (λ (m : ℕ). stored z (drop m ns) (drop m vs) xs) e) v
      ∙ stored_step ns vs xs j (omega arith))

  length-stored : (ns : List ℕ) (vs xs : List E) → length (stored z ns vs xs) ≡ length xs
  length-stored [] vs xs = refl
  length-stored (n ∷ ns) [] xs = length-set (stored z ns [] xs) n z ∙ length-stored ns [] xs
  length-stored (n ∷ ns) (v ∷ vs) xs = length-set (stored z ns vs xs) n v ∙ length-stored ns vs xs

  beside_none : (ns : List ℕ) (n : ℕ) → z ≡ beside z ns [] n
  beside_none [] n = refl
  beside_none (m ∷ ns) n = refl

  stored_within : (ns : List ℕ) (vs xs : List E) (n : ℕ) → n < length xs → get_or (stored z ns vs xs) n z ≡ cond (member ns n) (beside z ns vs n) (get_or xs n z)
  stored_within [] vs xs n h = refl
  stored_within (m ∷ ns) [] xs n h =
      let t = stored z ns [] xs in
      elim (cases_eq n m) [
        | inl q ↦ rw (eq-eqb n m q) (ap (λ (k : ℕ). get_or (set t m z) k z) q ∙ get_or-set_same t m z z (rw (← q) (rw (length-stored ns [] xs) h)))
        | inr q ↦ rw (ne_eqb n m q) (get_or-set_other t m n z z q ∙ (stored_within ns [] xs n h ∙ ap (λ (y : E). cond (member ns n) y (get_or xs n z)) (sym (beside_none ns n))))
      ]
  stored_within (m ∷ ns) (v ∷ vs) xs n h =
      let t = stored z ns vs xs in
      elim (cases_eq n m) [
        | inl q ↦ rw (eq-eqb n m q) (ap (λ (k : ℕ). get_or (set t m v) k z) q ∙ get_or-set_same t m v z (rw (← q) (rw (length-stored ns vs xs) h)))
        | inr q ↦ rw (ne_eqb n m q) (get_or-set_other t m n v z q ∙ stored_within ns vs xs n h)
      ]

  and_true : (b : Bool) → b ≡ (b && true)
  and_true true = refl
  and_true false = refl

  and_false : (b : Bool) → false ≡ (b && false)
  and_false true = refl
  and_false false = refl

  pub stored_each : (ns : List ℕ) (vs xs : List E) (n : ℕ) → get_or (stored z ns vs xs) n z ≡ cond (member ns n && ltb n (length xs)) (beside z ns vs n) (get_or xs n z)
  stored_each ns vs xs n =
      elim (cases_lt n (length xs)) [
        | inl h ↦ rw (lt-ltb n (length xs) h) (stored_within ns vs xs n h ∙ ap (λ (b : Bool). cond b (beside z ns vs n) (get_or xs n z)) (and_true (member ns n)))
        | inr h ↦ rw (le-ltb n (length xs) h) (get_or_past (stored z ns vs xs) n z (omega (arith, length-stored ns vs xs))
            ∙ (sym (get_or_past xs n z h) ∙ ap (λ (b : Bool). cond b (beside z ns vs n) (get_or xs n z)) (and_false (member ns n))))
      ]

  -- all cells are written
  pub stored_all : (ns : List ℕ) (vs xs ys : List E) (i : ℕ) → i ≡ 0 → ys ≡ stored z (drop i ns) (drop i vs) xs → ys ≡ stored z ns vs xs
  stored_all ns vs xs ys i e s = s ∙ ap (λ (k : ℕ). stored z (drop k ns) (drop k vs) xs) e

  pub each_all : (ns : List ℕ) (vs xs ys : List E) → ys ≡ stored z ns vs xs → (n : ℕ) →
      get_or ys n z ≡ cond (member ns n && ltb n (length xs)) (beside z ns vs n) (get_or xs n z)
  each_all ns vs xs ys e n = ap (λ (t : List E). get_or t n z) e ∙ stored_each ns vs xs n
