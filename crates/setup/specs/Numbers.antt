-- The numbers of a setup text. Assumes nothing.
use Rattle.std.specs.Prelude.{ℕ, ◌+◌, ◌-◌, ◌*◌, min, Bool, cond, ◌&&◌, List, [], ◌∷◌, drop, Some, None, Ok, Err, Option, Result, ◌==◌, nat_le, nat_lt, slice_index}
use Rattle.setup.specs.declared.problem.LineProblem.{LineProblem}
use Rattle.setup.specs.declared.problem.LineProblem.TheVariants.{MissingWord, NotNumber, TooLarge}

-- what a character stands for as a digit, 16 where it is none
abbrev pub digit_of : ℕ → ℕ
digit_of c = cond (nat_le 48 c && nat_le c 57) (c - 48) (cond (nat_le 97 c && nat_le c 102) (c - 87) (cond (nat_le 65 c && nat_le c 70) (c - 55) 16))

-- the number that digits of a base write behind the number n; none where a character is no digit of the base
abbrev pub written_after : ℕ → ℕ → List ℕ → Option ℕ
written_after base n [] = Some n
written_after base n (c ∷ cs) = cond (nat_lt (digit_of c) base) (written_after base (n * base + digit_of c) cs) None

-- the number that a word writes in a base; none without digits
abbrev pub written : ℕ → List ℕ → Option ℕ
written base [] = None
written base (c ∷ cs) = written_after base 0 (c ∷ cs)

-- whether a word begins with 0x
abbrev pub hexadecimal : List ℕ → Bool
hexadecimal w = slice_index w 0 == 48 && slice_index w 1 == 120

-- the number that a word stands for: decimal, or hexadecimal after 0x
abbrev pub number_of : List ℕ → Option ℕ
number_of w = cond (hexadecimal w) (written 16 (drop 2 w)) (written 10 w)

-- a number that may be at most so large
abbrev pub limited : ℕ → Option ℕ → Result ℕ LineProblem
limited most None = Err NotNumber
limited most (Some n) = cond (nat_le n most) (Ok n) (Err (TooLarge most))

-- what a word gives where a number up to `most` is wanted; the empty word is a missing one
abbrev pub number_up_to : ℕ → List ℕ → Result ℕ LineProblem
number_up_to most [] = Err MissingWord
number_up_to most (c ∷ cs) = limited most (number_of (c ∷ cs))

-- a number, or the first that is past 32 bits where it is larger
abbrev pub capped : ℕ → ℕ
capped n = min 4294967296 n
