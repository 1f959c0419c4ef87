-- Numbers and words in columns. Assumes nothing.
use Rattle.std.proofs.Common.{◌≡◌, ℕ, zero, suc, ◌-◌, ◌^◌, false, List, [], ◌∷◌, ◌++◌, length, replicate, Result, Ok, Err, codes, refl, ap, ap₂, ◌∙◌, arith, append-nil}
use Rattle.std.proofs.lemmas.Bool.Decides.{nat_tests}
use Rattle.std.specs.Fmt.{styled_text, padded_integral, padded, format_spec, char_count, take_chars}
use Rattle.std.specs.List.{repeat}
use Rattle.std.specs.Result.{result_ok}
use Rattle.command.specs.Shape.{known}
use Rattle.command.specs.Kinds.{Named}
use Rattle.command.specs.declared.kind.Kind.{Kind}
use Rattle.command.specs.declared.kind.Kind.TheVariants.{Restore, Save, Instruct, Send, Receive}
use Rattle.command.specs.declared.kind.UnknownKind.{UnknownKind}
use Rattle.wording.specs.Reasons.{name_text}
use Rattle.report.specs.Rows.{right, left, kind_text_of}

spaces : (n : ℕ) → repeat {A = ℕ} n (32 ∷ []) ≡ replicate n 32
spaces zero = refl
spaces (suc n) = ap (λ xs. 32 ∷ xs) (spaces n)

abbrev pad : ℕ → List ℕ
pad n = repeat {A = ℕ} n (32 ∷ [])

padded_with : (n k : ℕ) → n ≡ k → pad n ≡ replicate k 32
padded_with n k e = ap pad e ∙ spaces k

before : (text : List ℕ) (n m k : ℕ) → n ≡ k → m ≡ 0 → (((pad n ++ []) ++ []) ++ []) ++ (text ++ pad m) ≡ replicate k 32 ++ text
before text n m k e z =
    let front : ((pad n ++ []) ++ []) ++ [] ≡ replicate k 32 = rw (append-nil (pad n), append-nil (pad n), append-nil (pad n)) (padded_with n k e) in
    ap₂ (λ (a b : List ℕ). a ++ b) front (ap (λ a. text ++ pad a) z ∙ append-nil text)

-- a number in a column, to its right, and to its left
pub to_right : (w : ℕ) (text : List ℕ) → padded_integral (format_spec 32 3 0 w (2 ^ 64 - 1)) false [] text ≡ right w text
unfolding padded_integral char_count lib.Utf8.encode
to_right w text = before text (w - length text - 0 - 0) (w - length text - 0 - 0 - (w - length text - 0 - 0)) (w - length text) (omega arith) (omega arith)

pub to_left : (w : ℕ) (text : List ℕ) → padded_integral (format_spec 32 1 0 w (2 ^ 64 - 1)) false [] text ≡ left w text
unfolding padded_integral char_count lib.Utf8.encode
to_left w text = ap (λ a. text ++ a) (padded_with (w - length text - 0 - 0 - 0) (w - length text) (omega arith))

-- a kind's name in its column
unknown : (b : ℕ) → known b ≡ false → kind_text_of b ≡ codes "?"
unknown b h = grind (arith, nat_tests)

pub named : (b : ℕ) (r : Result Kind UnknownKind) → Named b r → styled_text (format_spec 32 1 0 8 (2 ^ 64 - 1)) (name_text (result_ok r)) ≡ left 8 (kind_text_of b)
unfolding padded char_count take_chars lib.Utf8.encode
named b (Ok Restore) h = rw (← h) refl
named b (Ok Save) h = rw (← h) refl
named b (Ok Instruct) h = rw (← h) refl
named b (Ok Send) h = rw (← h) refl
named b (Ok Receive) h = rw (← h) refl
named b (Err e) h = let none : kind_text_of b ≡ codes "?" = unknown b h.1 in rw none refl
