-- A setup text as lines and words. Assumes nothing.
use Rattle.std.specs.Prelude.{◌≡◌, ℕ, suc, ◌<◌, Bool, false, cond, not, ◌||◌, List, [], ◌∷◌, length, take, drop, Some, None, Option, ◌==◌}

-- a space, a tab or a carriage return
abbrev pub blank : ℕ → Bool
blank c = c == 32 || (c == 9 || c == 13)

-- a character in front of the first of some pieces
abbrev pub joined : ℕ → List (List ℕ) → List (List ℕ)
joined c [] = (c ∷ []) ∷ []
joined c (w ∷ ws) = (c ∷ w) ∷ ws

-- the lines of a text, each without its newline
abbrev pub lines_of : List ℕ → List (List ℕ)
lines_of [] = []
lines_of (c ∷ cs) = cond (c == 10) ([] ∷ lines_of cs) (joined c (lines_of cs))

-- whether a text begins with a character that is no blank
abbrev pub begun : List ℕ → Bool
begun [] = false
begun (c ∷ cs) = not (blank c)

-- the words of a line: what stands between blanks
abbrev pub words_of : List ℕ → List (List ℕ)
words_of [] = []
words_of (c ∷ cs) = cond (blank c) (words_of cs) (cond (begun cs) (joined c (words_of cs)) ((c ∷ []) ∷ words_of cs))

-- how many characters in front pass a test
abbrev pub front : (ℕ → Bool) → List ℕ → ℕ
front p [] = 0
front p (c ∷ cs) = cond (p c) (suc (front p cs)) 0

-- how many characters stand before the first c
abbrev pub before : ℕ → List ℕ → ℕ
before c = front (λ x. not (x == c))

-- a line up to its comment, which # begins
abbrev pub uncommented : List ℕ → List ℕ
uncommented line = take (before 35 line) line

-- how many blanks stand in front, and how many characters that are none
abbrev pub blanks : List ℕ → ℕ
blanks = front blank

abbrev pub letters : List ℕ → ℕ
letters = front (λ c. not (blank c))

-- a text from its first word on, that word, and what follows it
abbrev pub trimmed : List ℕ → List ℕ
trimmed t = drop (blanks t) t

abbrev pub first_word : List ℕ → List ℕ
first_word t = take (letters (trimmed t)) (trimmed t)

abbrev pub after_word : List ℕ → List ℕ
after_word t = drop (letters (trimmed t)) (trimmed t)

-- the next word w of a text t, and what follows it; no word where none is left, and no word is empty
abbrev pub TakesWord : List ℕ → Option (List ℕ) → List ℕ → Type 0
TakesWord t None rest = (words_of t ≡ []) × (words_of rest ≡ [])
TakesWord t (Some w) rest = (words_of t ≡ w ∷ words_of rest) × (0 < length w)

-- a text cut behind its first line
pub record FirstLine (text line rest : List ℕ) : Type 0 where
  pub split : 0 < length text → lines_of text ≡ line ∷ lines_of rest
  pub less : 0 < length text → length rest < length text
  pub none : length text ≡ 0 → (line ≡ []) × (rest ≡ [])
