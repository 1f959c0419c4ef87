use Rattle.std.proofs.Common.{ℕ, List, ap, ◌∙◌, subst, arith}
use Rattle.std.specs.Iterator.Adapters.{enumerate_source, enumerate_count}
use Rattle.showfile.specs.declared.file.ShowFile.{ShowFile}
use Rattle.showfile.specs.Chain.{record_at}
use Rattle.showfile.specs.Opening.{rest}
use Rattle.run.proofs.Going.{Going, going_more, going_played}
use Rattle.run.proofs.show.play.Goals as goal

pub loop-n-preserved : goal.loop-n-preserved
loop-n-preserved g c =
    let was = c.loop-n.invariant in
    let told = c.in-Some.ensures.steps in
    let file = enumerate_source c.into_iter-n-iterator.result in
    let same = told.0.2 ∙ ap (λ (bs : List ℕ). record_at bs c.in-Some.place) was.2 in (
      c.in-Some.ensures.goes.keeps,
      tt,
      told.0.1 ∙ was.2,
      going_more g.S.Store g.S.Item.Element g.I.InstructionSet file.bytes.now (rest file) c.args.host.now c.args.log.now c.args.args.now c.args.results.now
          (rest (enumerate_source c.loop-n.n-iterator)) (rest (enumerate_source c.next.new.self)) (enumerate_count c.loop-n.n-iterator) c.in-Some.n (enumerate_count c.next.new.self) c.in-Some.place
          c.loop-n.host c.do_one.new.host c.loop-n.log c.loop-n.args c.loop-n.results c.do_one.new.args c.do_one.new.results c.in-Some.bytes.now c.do_one.result
          told.1 told.2 c.requires.args c.requires.results was.3 told.0.0 same c.do_one.ensures.commanded c.do_one.ensures.lender (omega arith) (omega arith),
    )

pub returns-clause-played : goal.returns-clause-played
returns-clause-played g c =
    let w = subst (λ (f : ShowFile). Going g.S.Store g.S.Item.Element g.I.InstructionSet f.bytes.now (rest f) c.args.host.now c.args.log.now c.args.args.now c.args.results.now
    (rest (enumerate_source c.loop-n.n-iterator)) (enumerate_count c.loop-n.n-iterator) c.loop-n.host c.loop-n.log c.loop-n.args c.loop-n.results)
    (ap enumerate_source c.into_iter-n-iterator.ensures.into_iter_gives ∙ c.enumerate-n-items.ensures.source) c.loop-n.invariant.3 in
    going_played g.S.Store g.S.Item.Element g.I.InstructionSet c.args.file.bytes.now (rest c.args.file) c.args.host.now c.args.log.now c.args.args.now c.args.results.now
    (rest (enumerate_source c.loop-n.n-iterator)) (enumerate_count c.loop-n.n-iterator) c.loop-n.host c.loop-n.log c.loop-n.args c.loop-n.results w c.in-None.ensures.steps.0.0
