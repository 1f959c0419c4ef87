use Rattle.std.proofs.Common.{◌≡◌, suc, sym, ap, ◌∙◌, subst, add-one, arith, below_more}
use Rattle.showfile.specs.Chain.{next_of, Link, Reaches, records}
use Rattle.showfile.proofs.Cycle.{place, Goes, reaches_place, chain_links, endless}
use Rattle.showfile.proofs.file.walk.Goals as goal

pub returns-then-next-eq0 : goal.returns-then-next-eq0
returns-then-next-eq0 c =
    let bs = c.args.bytes.now in
    chain_links bs c.args.start c.loop-count.count c.loop-count.invariant.0
    (sym (c.next_index-next.ensures ∙ ap (next_of bs) c.loop-count.invariant.1) ∙ c.if-next-eq0.true)

pub returns-then-next-n : goal.returns-then-next-n
returns-then-next-n c =
    let bs = c.args.bytes.now in (
      subst (Reaches bs c.args.start) (sym c.loop-count.invariant.1) (reaches_place bs c.args.start c.loop-count.count c.loop-count.invariant.0),
      omega (arith, c.next_index-next.ensures, c.if-next-n.true),
    )

pub loop-count-preserved : goal.loop-count-preserved
loop-count-preserved c =
    let bs = c.args.bytes.now in
    let n = c.loop-count.count in
    let is : c.next_index-next.result ≡ place bs c.args.start (suc n) = c.next_index-next.ensures ∙ ap (next_of bs) c.loop-count.invariant.1 in
    let link : Link bs c.next_index-next.result = omega arith in
    (below_more _ n c.loop-count.invariant.0 (subst (Link bs) is link), rw add-one is, link.1)

pub returns : goal.returns
returns c =
    let bs = c.args.bytes.now in
    let full : c.loop-count.count ≡ records bs = omega arith in
    endless bs c.args.start c.requires.inside (subst (Goes bs c.args.start) full c.loop-count.invariant.0)
