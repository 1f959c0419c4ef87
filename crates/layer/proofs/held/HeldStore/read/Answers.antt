use Rattle.std.proofs.Common.{◌≡◌, ℕ, List, Ok, sym, refl, ap, ◌∙◌, arith}
use Rattle.store.proofs.Within.{reads_beyond}
use Rattle.layer.specs.Holds.{laid}
use Rattle.layer.specs.Layers.{held_in}
use Rattle.layer.specs.Steps.{layer_of, meant}
use Rattle.layer.proofs.Holding.{none_absent, element_absent, element_held}
use Rattle.layer.proofs.Refining.{length-meaning}
use Rattle.layer.proofs.held.HeldStore.read.Goals as goal

pub returns-then-n-len : goal.returns-then-n-len
returns-then-n-len g c =
    let x = c.args.self.now in
    record {
      reads = reads_beyond (meant g.S.Store g.S.Item.Element x) _ c.args.n (omega (arith, length-meaning g.S.Item.Element (layer_of g.S.Store g.S.Item.Element c.args.self.now))) refl;
      lender = refl;
      layer = record { table = refl; below = refl; apart = λ w e. refl };
    }

pub returns-in-Some : goal.returns-in-Some
returns-in-Some g c =
    let x = c.args.self.now in
    let u = g.S.Item.Element.unpacked in
    let found = element_held u (g.S.Store.cells x.below) (held_in x.table) c.args.n c.in-Some.words (omega arith) x.table.distinct (sym c.in-Some.ensures) in
    record {
      reads = record { answer = ap Ok c.unpack.ensures ∙ sym found; kept = refl };
      lender = refl;
      layer = record { table = refl; below = refl; apart = λ w e. refl };
    }

pub returns-in-None : goal.returns-in-None
returns-in-None g c =
    let x = c.args.self.now in
    let u = g.S.Item.Element.unpacked in
    let none = none_absent c.args.n (held_in x.table) (sym c.in-None.ensures) in
    record {
      reads = record {
        answer = c.read.ensures.reads.answer ∙ sym (element_absent u (g.S.Store.cells x.below) (held_in x.table) c.args.n none);
        kept = ap (λ (xs : List _). laid u xs (held_in x.table)) c.read.ensures.reads.kept;
      };
      lender = c.read.ensures.lender;
      layer = record {
        table = refl;
        below = c.read.ensures.reads.kept;
        apart = λ w e. (let z : ◌≡◌ {A = ℕ} 0 1 = cc c.in-None.ensures in absurd (omega arith));
      };
    }
