use Rattle.std.proofs.Common.{ℕ, ◌<◌, ◌≤◌, ap, rules, tests}
use Rattle.std.proofs.lemmas.Iterator.{first_from_Range}
use Rattle.command.specs.Shape.{byte_at, most, largest}
use Rattle.command.proofs.decode.first_fault.Goals as goal

pub returns : goal.returns
unfolding most
returns c =
    let bs = c.args.bytes.now in
    let same = λ (i : ℕ). ap (λ k. largest k (byte_at bs 6) (byte_at bs 7) i) c.requires.kind in
    let h = first_from_Range _ _ _ c.find.result (λ i. most bs i < byte_at bs i) (λ i. byte_at bs i ≤ most bs i) c.find.ensures.ran (λ x q k. search (rules, tests, same)) (λ x q k. search (rules, tests, same)) in
    search (rules, h)
