use Rattle.std.proofs.Common.{◌≡◌, ℕ, length, true, List, ap, ◌∙◌, subst, rules}
use Rattle.std.proofs.lemmas.Bool.Decides.{nat_tests}
use Rattle.command.specs.Kinds.{kind_number}
use Rattle.command.specs.Shape.{kind_of, known, Fault}
use Rattle.command.specs.Decoding.{Asks}
use Rattle.command.specs.declared.kind.Kind.{Kind}
use Rattle.command.proofs.decode.checked.Goals as goal

-- the number of a kind is known
numbered : (k : Kind) → known (kind_number k) ≡ true
numbered k = search (rules, nat_tests)

pub returns-in-None : goal.returns-in-None
returns-in-None c =
    let xs = c.in_ok-bytes.bytes.now in
    let same : c.in_ok-bytes.bytes.now ≡ c.args.bytes.now = search rules in
    let long : length c.args.bytes.now ≡ 32 = search rules in
    let named : known (kind_of xs) ≡ true = subst (λ (n : ℕ). known n ≡ true) (c.in_ok-kind.ensures) (numbered c.in_ok-kind.kind) in
    subst (λ (bs : List ℕ). (length bs ≡ 32) × (known (kind_of bs) ≡ true) × ((k : ℕ) → Fault bs k → ⊥) × Asks bs c.command_of.result) same
    (ap length same ∙ long, named, c.in-None.ensures, c.command_of.ensures)
