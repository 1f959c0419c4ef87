use Rattle.std.proofs.Common.{◌+◌, length, sym, ap, ◌∙◌, arith, rules}
use Rattle.std.proofs.lemmas.Bool.{lt-ltb}
use Rattle.std.specs.Iterator.Adapters.{enumerate_source, enumerate_count}
use Rattle.part.specs.Sets.{parts}
use Rattle.cells.specs.Cells.{cell_list}
use Rattle.sheet.specs.Rows.{touchable}
use Rattle.sheet.specs.View.{rows_of}
use Rattle.isolation.specs.Check.{each, fail}
use Rattle.host.proofs.Verdicts.{port_right, each_stops, each_goes}
use Rattle.host.proofs.rights.first_without.Goals as goal

pub returns-then-not-may_touch : goal.returns-then-not-may_touch
returns-then-not-may_touch c = λ v.
    let f = touchable (rows_of c.args.sheet.now) c.args.writing c.args.part.number in
    let at = enumerate_count c.loop-i.i-iterator in
    let not_here = sym (port_right c.args.part.number parts c.may_touch.result (f c.in-Some.cell) (lt-ltb c.args.part.number parts c.args.part.below) c.may_touch.ensures) ∙ c.if-not-may_touch.true in
    c.loop-i.invariant.3 v
    ∙ (ap (λ ns. each f (c.args.from + at) ns v) c.in-Some.ensures.steps.0
    ∙ (each_stops f (c.args.from + at) c.in-Some.cell (cell_list (enumerate_source c.next.new.self).bytes.now) v not_here
    ∙ ap (λ i. fail 12 (c.args.from + i)) (sym c.in-Some.ensures.steps.1)))

pub loop-i-preserved : goal.loop-i-preserved
loop-i-preserved c =
    let f = touchable (rows_of c.args.sheet.now) c.args.writing c.args.part.number in
    let at = enumerate_count c.loop-i.i-iterator in
    let rest = cell_list (enumerate_source c.next.new.self).bytes.now in
    let here = sym (port_right c.args.part.number parts c.may_touch.result (f c.in-Some.cell) (lt-ltb c.args.part.number parts c.args.part.below) c.may_touch.ensures) ∙ c.if-not-may_touch.false in
    let one_less = ap length c.in-Some.ensures.steps.0 in (
      search rules,
      tt,
      omega (arith, one_less, c.in-Some.ensures.steps.2, c.loop-i.invariant.2),
      λ v.
          c.loop-i.invariant.3 v
          ∙ (ap (λ ns. each f (c.args.from + at) ns v) c.in-Some.ensures.steps.0
          ∙ (each_goes f (c.args.from + at) c.in-Some.cell rest v here
          ∙ ap (λ i. each f i rest v) (omega (arith, c.in-Some.ensures.steps.2)))),
    )

pub returns : goal.returns
returns c = λ v.
    let f = touchable (rows_of c.args.sheet.now) c.args.writing c.args.part.number in
    c.loop-i.invariant.3 v ∙ ap (λ ns. each f (c.args.from + enumerate_count c.loop-i.i-iterator) ns v) c.in-None.ensures.steps.0.0
