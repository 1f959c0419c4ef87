use Rattle.std.proofs.Common.{ℕ, map, length, take, ap, ◌∙◌, arith, rules}
use Rattle.std.proofs.lemmas.List.{length-map, take-map}
use Rattle.queue.proofs.Laying.{laid_front}
use Rattle.queue.proofs.message.Message.of.Goals as goal

pub returns : goal.returns
returns g c =
    let p = g.E.Element.packed in
    let vs = c.args.values.now in
    let ws = c.empty.result.words in
    let n = c.lay-len.result in
    ap (take n) (c.lay-len.ensures.places p (search rules))
    ∙ laid_front (map p vs) ws n (omega (arith, c.lay-len.ensures.count, length-map vs p))
    ∙ take-map p (length ws) vs
    ∙ ap (λ (k : ℕ). map p (take k vs)) c.empty.result.whole
