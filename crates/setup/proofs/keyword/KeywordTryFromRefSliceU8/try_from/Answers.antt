use Rattle.std.proofs.Common.{◌≡◌, codes, rules, arith, sym, ap}
use Rattle.std.specs.Option.{ok_or}
use Rattle.std.proofs.lemmas.Slice.Eq.{text_from_reads}
use Rattle.setup.specs.declared.problem.LineProblem.TheVariants.{UnknownDirective}
use Rattle.setup.specs.Keywords.{keyword_of}
use Rattle.setup.proofs.keyword.KeywordTryFromRefSliceU8.try_from.Goals as goal

pub returns-in-layers : goal.returns-in-layers
returns-in-layers c =
    let e : c.args.word.now ≡ codes "layers" = text_from_reads c.args.word.now (codes "layers") (omega arith) (search rules) in
    ap (λ w. ok_or (keyword_of w) UnknownDirective) (sym e)

pub returns-in-element : goal.returns-in-element
returns-in-element c =
    let e : c.args.word.now ≡ codes "element" = text_from_reads c.args.word.now (codes "element") (omega arith) (search rules) in
    ap (λ w. ok_or (keyword_of w) UnknownDirective) (sym e)
