use Rattle.std.proofs.Common.{ℕ, ◌/◌, ◌^◌, ◌<◌, eqb, sym, refl, ap, arith, rules}
use lib.Bits.{and_mask}
use Rattle.part.proofs.Bits.{bit_past}
use Rattle.part.proofs.set.contains.Goals as goal

pub returns-then-part-ge-PARTS : goal.returns-then-part-ge-PARTS
returns-then-part-ge-PARTS c =
    let h : c.args.set < 2 ^ 8 = search rules in
    record { value = sym (bit_past 8 c.args.part c.args.set h (omega arith)); past = λ _. refl }

pub returns : goal.returns
returns c =
    record {
      value = ap (λ (x : ℕ). eqb x 1) (and_mask (c.args.set / 2 ^ c.args.part) 1);
      past = λ h. absurd (omega arith);
    }
