use Rattle.std.proofs.Common.{◌+◌, not, eqb, length, sym, ap, ◌∙◌, rules, tests, arith}
use Rattle.std.specs.Option.{unwrap_or}
use Rattle.std.proofs.lemmas.List.{take_rest}
use Rattle.std.proofs.lemmas.Iterator.{YieldsList-from_slice}
use Rattle.std.proofs.lemmas.Iterator.Search.{position_from_yields_List}
use Rattle.setup.proofs.Fronts.{front_found, cut_line, cut_last}
use Rattle.setup.proofs.pieces.split_line.Goals as goal

pub returns-in-Some : goal.returns-in-Some
returns-in-Some c =
    let t = c.args.text.now in
    let p = front_found (λ x. not (eqb x 10)) t c.position.result
    (position_from_yields_List (λ x. not (not (eqb x 10))) _ _ c.position.result c.position.ensures.ran (YieldsList-from_slice t c.iter.ensures.rest) (λ x b q k. search (rules, tests))) in
    rw (take_rest t (c.in-Some.end + 1)) (cut_line t c.in-Some.end (ap (λ o. unwrap_or o (length t)) (sym c.in-Some.is) ∙ p) (omega (arith, c.in-Some.ensures.bound)))

pub returns-in-None : goal.returns-in-None
returns-in-None c =
    let t = c.args.text.now in
    let p = front_found (λ x. not (eqb x 10)) t c.position.result
    (position_from_yields_List (λ x. not (not (eqb x 10))) _ _ c.position.result c.position.ensures.ran (YieldsList-from_slice t c.iter.ensures.rest) (λ x b q k. search (rules, tests))) in
    cut_last t (ap (λ o. unwrap_or o (length t)) (sym c.in-None.is) ∙ p)
