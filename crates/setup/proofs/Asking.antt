-- What a line asks by its words, taken one after another. Assumes nothing.
use Rattle.std.proofs.Common.{◌≡◌, ℕ, ◌<◌, true, false, cond, is_some, List, [], ◌∷◌, length, get_or, drop, Some, None, Ok, Err, Option, sym, ap, ◌∙◌, add-zero, arith}
use Rattle.std.specs.Option.{ok_or, option_map}
use Rattle.std.proofs.lemmas.List.{get_or-drop}
use Rattle.std.proofs.lemmas.Bool.{ne_eqb}
use denote.Ref.{Bor}
use Rattle.setup.specs.Directives.{then, asked, asked_by, ended, named}
use Rattle.setup.specs.Keywords.{keyword_of, words_wanted}
use Rattle.setup.specs.Pieces.{words_of, TakesWord}
use Rattle.setup.specs.declared.directive.Directive.{Directive}
use Rattle.setup.specs.declared.keyword.Keyword.{Keyword}
use Rattle.setup.specs.declared.problem.LineProblem.TheVariants.{UnknownDirective, ExtraWord}

some_told : (o : Option Keyword) (k : Keyword) → Ok k ≡ ok_or o UnknownDirective → o ≡ Some k
some_told None k e = cc
some_told (Some x) k e = cc

-- a line with the name of a directive in front
pub asked_told : (t w : List ℕ) (ws : List (List ℕ)) (k : Keyword) → words_of t ≡ w ∷ ws → 0 < length w → Ok k ≡ ok_or (keyword_of w) UnknownDirective → asked_by (words_of t) ≡ then (asked k (w ∷ ws)) (ended (get_or (w ∷ ws) (words_wanted k) []))
asked_told t w ws k e h f =
    ap asked_by e
    ∙ ap (λ b. cond b (Ok None) (named (w ∷ ws) (keyword_of w))) (ne_eqb (length w) 0 (λ z. omega arith))
    ∙ ap (named (w ∷ ws)) (some_told (keyword_of w) k f)

-- what stands behind the words of a directive
pub ended_more : (u x : List ℕ) (ws : List (List ℕ)) (n : ℕ) (d : Directive) (o : Option (Bor (List ℕ))) → words_of u ≡ drop n ws → TakesWord u (option_map (λ w. w.now) o) x → is_some o ≡ true → ended (get_or ws n []) d ≡ Err ExtraWord
ended_more u x ws n d None e h s = cc
ended_more u x ws n d (Some w) e h s =
    let g : get_or ws n [] ≡ w.now = sym (get_or-drop n ws 0 [] ∙ ap (λ m. get_or ws m []) (add-zero n)) ∙ ap (λ vs. get_or vs 0 []) (sym e ∙ h.0) in
    ap (λ v. ended v d) g ∙ ap (λ b. cond b (Ok (Some d)) (Err ExtraWord)) (ne_eqb (length w.now) 0 (λ z. omega (arith, h.1)))

pub ended_last : (u x : List ℕ) (ws : List (List ℕ)) (n : ℕ) (d : Directive) (o : Option (Bor (List ℕ))) → words_of u ≡ drop n ws → TakesWord u (option_map (λ w. w.now) o) x → is_some o ≡ false → ended (get_or ws n []) d ≡ Ok (Some d)
ended_last u x ws n d None e h s =
    let g : get_or ws n [] ≡ [] = sym (get_or-drop n ws 0 [] ∙ ap (λ m. get_or ws m []) (add-zero n)) ∙ ap (λ vs. get_or vs 0 []) (sym e ∙ h.0) in
    ap (λ v. ended v d) g
ended_last u x ws n d (Some w) e h s = cc
