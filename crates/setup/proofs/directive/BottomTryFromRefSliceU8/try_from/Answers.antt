use Rattle.std.proofs.Common.{◌≡◌, codes, rules, arith, sym, ap}
use Rattle.std.proofs.lemmas.Slice.Eq.{text_from_reads}
use Rattle.setup.specs.Directives.{store_named}
use Rattle.setup.proofs.directive.BottomTryFromRefSliceU8.try_from.Goals as goal

pub returns-in-packed : goal.returns-in-packed
returns-in-packed c =
    let e : c.args.word.now ≡ codes "packed" = text_from_reads c.args.word.now (codes "packed") (omega arith) (search rules) in
    ap store_named (sym e)
