use Rattle.std.proofs.Common.{◌≡◌, ◌+◌, ◌*◌, min, get_or, ap, subst, ◌<◌, ◌∙◌, arith}
use Rattle.std.specs.Char.{digit_value}
use Rattle.setup.specs.Numbers.{capped, digit_of}
use Rattle.setup.proofs.Reading.{digit_told, read_more}
use Rattle.setup.proofs.number.digits.Goals as goal

pub loop-c-preserved : goal.loop-c-preserved
loop-c-preserved c =
    let w = c.args.word.now in
    let i = c.loop-c.c-index in
    let b = c.args.base in
    let v = c.loop-c.value in
    let t = digit_told b (get_or w i 0) (omega (arith, c.requires)) (subst (λ x. digit_value x < b) c.from.ensures c.in_ok-d.ensures.value.0) in
    let d : c.from-in-loop-c-2.result ≡ digit_of (get_or w i 0) = c.from-in-loop-c-2.ensures ∙ c.in_ok-d.ensures.value.1 ∙ ap digit_value c.from.ensures ∙ t.1 in
    let s : c.min-value.result ≡ capped (v * b + digit_of (get_or w i 0)) =
    c.min-value.ensures ∙ ap (λ x. min (v * x + c.from-in-loop-c-2.result) 4294967296) c.from-in-loop-c.ensures
    ∙ ap (λ x. min (v * b + x) 4294967296) d ∙ omega arith in
    (omega (arith, c.min-value.ensures), read_more b v c.min-value.result i w (omega (arith, c.requires)) c.loop-c-test.true t.0 s c.loop-c.invariant.1)
