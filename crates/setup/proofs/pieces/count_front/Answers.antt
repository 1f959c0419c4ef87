use Rattle.std.proofs.Common.{not, rules, tests, ◌∙◌}
use Rattle.std.proofs.lemmas.Iterator.{YieldsList-from_slice}
use Rattle.std.proofs.lemmas.Iterator.Search.{position_from_yields_List}
use Rattle.setup.proofs.Fronts.{front_found}
use Rattle.setup.proofs.pieces.count_front.Goals as goal

pub returns-clause-value : goal.returns-clause-value
returns-clause-value g c = λ p gives.
    c.unwrap_or.ensures
    ∙ front_found p c.args.text.now c.position.result
    (position_from_yields_List (λ x. not (p x)) _ _ c.position.result c.position.ensures.ran (YieldsList-from_slice c.args.text.now c.iter.ensures.rest) (λ x b q k. search (rules, tests, gives)))
