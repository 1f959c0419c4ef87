use Rattle.std.proofs.Common.{◌+◌, ◌<◌, ◌≤◌, List, [], ◌∷◌, ◌++◌, length, drop, map, sym, ap, ◌∙◌, ap₂, arith}
use Rattle.std.proofs.lemmas.List.{take_more_set, map_more, drop-set-lt, drop-drop, get_or-take, length-map, length-take-le, take-append-drop, take-map}
use Rattle.queue.proofs.Laying.{laid_min}
use Rattle.queue.proofs.places.lay.Goals as goal

pub loop-i-preserved : goal.loop-i-preserved
loop-i-preserved g c =
    let vs = c.args.values.now in
    let ps = c.loop-i.places in
    let n = c.min-count.result in
    let i = c.loop-i.i in
    let x = c.value-item.result in
    let y = c.change.result in
    let f : n ≤ length vs = omega arith in
    let k : i < n = rw (length-take-le n vs f) at c.loop-i-test.true in
    let hv : i < length vs = omega arith in
    let hp : i < length ps = omega (arith, c.loop-i.auto.places) in
    let lt : i < i + 1 = omega arith in
    record {
      done = λ h e. take_more_set ps i y hp ∙ (ap₂ (λ (a : List _) (b : _). a ++ (b ∷ [])) (c.loop-i.invariant.done h e)
          (e x y c.change.ensures ∙ ap h (c.value-item.is ∙ get_or-take n vs i x k)) ∙ sym (map_more h vs i x hv));
      rest = drop-set-lt (i + 1) ps i y lt ∙ (sym (drop-drop 1 i ps) ∙ (ap (drop 1) c.loop-i.invariant.rest ∙ drop-drop 1 i c.args.places.now));
    }

pub returns-clause-places : goal.returns-clause-places
returns-clause-places g c =
    let vs = c.args.values.now in
    let n = c.min-count.result in
    let i = c.loop-i.i in
    let f : n ≤ length vs = omega arith in
    let k : n ≤ i = rw (length-take-le n vs f) at c.loop-i-test.false in
    let m : i ≤ n = rw (length-take-le n vs f) at c.loop-i.auto.i-end in
    λ h e. sym (take-append-drop i c.loop-i.places)
    ∙ (ap₂ ◌++◌ (c.loop-i.invariant.done h e ∙ sym (take-map h i vs)) c.loop-i.invariant.rest
    ∙ sym (laid_min (map h vs) c.args.places.now i (omega (arith, length-map vs h))))
