-- A scan of the characters in front, the words and the lines. Assumes nothing.
use Rattle.std.proofs.Common.{◌≡◌, ℕ, suc, ◌+◌, ◌<◌, ◌≤◌, Bool, true, false, cond, not, eqb, List, [], ◌∷◌, length, take, drop, Some, None, Option, sym, refl, ap, ◌∙◌, ◌⊎◌, inl, inr, ⊎_elim, add-one, arith}
use Rattle.std.specs.List.{position, position_or_len}
use Rattle.std.specs.Option.{unwrap_or}
use Rattle.std.proofs.lemmas.List.{take_all, drop_all, length-drop, nil_from_length}
use Rattle.std.proofs.lemmas.List.Recursion.{is_position_or_len}
use Rattle.std.proofs.lemmas.Bool.{cases_Bool, cases_lt, le-ltb, lt-ltb}
use Rattle.setup.specs.Pieces.{FirstLine, blank, joined, lines_of, begun, words_of, front, before, blanks, letters, trimmed, first_word, after_word}

-- how many characters in front pass a test, as `position` counts them
front_more : (b : Bool) (n : ℕ) → cond b (suc n) 0 ≡ cond (not b) 0 (1 + n)
front_more true n = omega arith
front_more false n = refl

front_position : (p : ℕ → Bool) (xs : List ℕ) → front p xs ≡ position_or_len (λ x. not (p x)) xs
front_position p xs = is_position_or_len (front p) (λ x. not (p x)) refl (λ x ys. front_more (p x) (front p ys)) xs

front_within : (p : ℕ → Bool) (xs : List ℕ) → front p xs ≤ length xs
front_within p [] = omega arith
front_within p (x ∷ xs) =
    let h = front_within p xs in
    elim (p x) as (λ b. cond b (suc (front p xs)) 0 ≤ suc (length xs)) [ true ↦ omega arith | false ↦ omega arith ]

pub front_found : (p : ℕ → Bool) (xs : List ℕ) (o : Option ℕ) → o ≡ position (λ x. not (p x)) xs → unwrap_or o (length xs) ≡ front p xs
front_found p xs o e =
    let n = position_or_len (λ x. not (p x)) xs in
    let s : front p xs ≡ n = front_position p xs in
    let h : n ≤ length xs = omega (arith, s, front_within p xs) in
    ap (λ u. unwrap_or u (length xs)) e
    ∙ ⊎_elim
    (λ (l : n < length xs). ap (λ b. unwrap_or (cond b (Some n) None) (length xs)) (lt-ltb n (length xs) l))
    (λ (g : length xs ≤ n). let z : length xs ≡ n = omega arith in ap (λ b. unwrap_or (cond b (Some n) None) (length xs)) (le-ltb n (length xs) g) ∙ z)
    (cases_lt n (length xs))
    ∙ sym s

-- a word from its first character on
pub word_first : (c : ℕ) (cs : List ℕ) → blank c ≡ false → words_of (c ∷ cs) ≡ take (letters (c ∷ cs)) (c ∷ cs) ∷ words_of (drop (letters (c ∷ cs)) (c ∷ cs))
word_first c [] e = rw e refl
word_first c (d ∷ ds) e =
    let W : List (List ℕ) = words_of (d ∷ ds) in
    let G : ℕ → List (List ℕ) = λ n. take n (c ∷ d ∷ ds) ∷ words_of (drop n (c ∷ d ∷ ds)) in
    let e1 : words_of (c ∷ d ∷ ds) ≡ cond (not (blank d)) (joined c W) ((c ∷ []) ∷ W) = ap (λ t. cond t W (cond (not (blank d)) (joined c W) ((c ∷ []) ∷ W))) e in
    let e2 : letters (c ∷ d ∷ ds) ≡ suc (letters (d ∷ ds)) = ap (λ t. cond (not t) (suc (letters (d ∷ ds))) 0) e in
    ⊎_elim
    (λ (t : blank d ≡ true).
    let m : letters (d ∷ ds) ≡ 0 = ap (λ b. cond (not b) (suc (letters ds)) 0) t in
    e1 ∙ ap (λ b. cond (not b) (joined c W) ((c ∷ []) ∷ W)) t ∙ sym (ap (λ n. G (suc n)) m) ∙ sym (ap G e2))
    (λ (f : blank d ≡ false).
    e1 ∙ ap (λ b. cond (not b) (joined c W) ((c ∷ []) ∷ W)) f ∙ ap (joined c) (word_first d ds f) ∙ sym (ap G e2))
    (cases_Bool (blank d))

trimmed_blank : (c : ℕ) (cs : List ℕ) → blank c ≡ true → trimmed (c ∷ cs) ≡ trimmed cs
trimmed_blank c cs t = ap (λ b. drop (cond b (suc (blanks cs)) 0) (c ∷ cs)) t

trimmed_letter : (c : ℕ) (cs : List ℕ) → blank c ≡ false → trimmed (c ∷ cs) ≡ c ∷ cs
trimmed_letter c cs f = ap (λ b. drop (cond b (suc (blanks cs)) 0) (c ∷ cs)) f

words_blank : (c : ℕ) (cs : List ℕ) → blank c ≡ true → words_of (c ∷ cs) ≡ words_of cs
words_blank c cs t = ap (λ b. cond b (words_of cs) (cond (begun cs) (joined c (words_of cs)) ((c ∷ []) ∷ words_of cs))) t

-- the words of a text are its first and those behind it, or none where it has no first; no word is empty
pub word_cases : (t : List ℕ) → ((words_of t ≡ []) × (length (first_word t) ≡ 0)) ⊎ ((words_of t ≡ first_word t ∷ words_of (after_word t)) × (0 < length (first_word t)))
word_cases [] = inl (refl, refl)
word_cases (c ∷ cs) =
    let G : List ℕ → List (List ℕ) = λ u. take (letters u) u ∷ words_of (drop (letters u) u) in
    let N : List ℕ → ℕ = λ u. length (take (letters u) u) in
    ⊎_elim
    (λ (t : blank c ≡ true).
    let w : words_of (c ∷ cs) ≡ words_of cs = words_blank c cs t in
    let s : trimmed (c ∷ cs) ≡ trimmed cs = trimmed_blank c cs t in
    let n : length (first_word (c ∷ cs)) ≡ length (first_word cs) = ap N s in
    ⊎_elim (λ l. inl (w ∙ l.0, n ∙ l.1)) (λ r. inr (w ∙ r.0 ∙ sym (ap G s), omega (arith, n, r.1))) (word_cases cs))
    (λ (f : blank c ≡ false).
    let s : trimmed (c ∷ cs) ≡ c ∷ cs = trimmed_letter c cs f in
    let n : length (first_word (c ∷ cs)) ≡ suc (length (take (letters cs) cs)) = ap N s ∙ ap (λ b. length (take (cond (not b) (suc (letters cs)) 0) (c ∷ cs))) f in
    inr (word_first c cs f ∙ sym (ap G s), omega (arith, n)))
    (cases_Bool (blank c))

pub no_words : (t : List ℕ) → length (first_word t) ≡ 0 → words_of t ≡ []
no_words t h = ⊎_elim (λ l. l.0) (λ r. absurd (omega (arith, h, r.1))) (word_cases t)

pub words_more : (t : List ℕ) → 0 < length (first_word t) → words_of t ≡ first_word t ∷ words_of (after_word t)
words_more t h = ⊎_elim (λ l. absurd (omega (arith, h, l.1))) (λ r. r.0) (word_cases t)

-- the first line, and the lines behind it
line_step : (c : ℕ) (cs : List ℕ) → joined c (lines_of cs) ≡ (c ∷ take (before 10 cs) cs) ∷ lines_of (drop (suc (before 10 cs)) cs) → lines_of (c ∷ cs) ≡ take (before 10 (c ∷ cs)) (c ∷ cs) ∷ lines_of (drop (suc (before 10 (c ∷ cs))) (c ∷ cs))
line_step c cs e =
    let G : ℕ → List (List ℕ) = λ n. take n (c ∷ cs) ∷ lines_of (drop (suc n) (c ∷ cs)) in
    let L : Bool → List (List ℕ) = λ b. cond b ([] ∷ lines_of cs) (joined c (lines_of cs)) in
    let B : Bool → ℕ = λ b. cond (not b) (suc (before 10 cs)) 0 in
    ⊎_elim
    (λ (t : eqb c 10 ≡ true). ap L t ∙ sym (ap G (ap B t)))
    (λ (f : eqb c 10 ≡ false). ap L f ∙ e ∙ sym (ap G (ap B f)))
    (cases_Bool (eqb c 10))

line_first : (c : ℕ) (cs : List ℕ) → lines_of (c ∷ cs) ≡ take (before 10 (c ∷ cs)) (c ∷ cs) ∷ lines_of (drop (suc (before 10 (c ∷ cs))) (c ∷ cs))
line_first c [] = line_step c [] refl
line_first c (d ∷ ds) = line_step c (d ∷ ds) (ap (joined c) (line_first d ds))

cut_first : (t : List ℕ) (n : ℕ) → n ≡ before 10 t → 0 < length t → lines_of t ≡ take n t ∷ lines_of (drop (n + 1) t)
cut_first [] n e h = absurd (omega arith)
cut_first (c ∷ cs) n e h = rw (e, add-one) (line_first c cs)

pub cut_line : (t : List ℕ) (n : ℕ) → n ≡ before 10 t → n < length t → FirstLine t (take n t) (drop (n + 1) t)
cut_line t n e l = record { split = λ h. cut_first t n e h; less = λ h. simp length-drop (omega arith); none = λ z. absurd (omega arith) }

pub cut_last : (t : List ℕ) → length t ≡ before 10 t → FirstLine t t []
cut_last t e =
    record {
      split = λ h. cut_first t (length t) e h ∙ ap (λ u. u ∷ lines_of (drop (length t + 1) t)) (take_all (length t) t (omega arith)) ∙ ap (λ u. t ∷ lines_of u) (drop_all (length t + 1) t (omega arith));
      less = λ h. h;
      none = λ z. (nil_from_length t z, refl);
    }
