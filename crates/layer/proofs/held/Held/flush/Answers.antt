use Rattle.std.proofs.Common.{◌≡◌, List, [], sym, refl, ap, ◌∙◌, subst, ap₂, arith}
use Rattle.std.proofs.lemmas.List.{nil_from_length}
use Rattle.layer.specs.declared.held_write.HeldWrite.{HeldWrite}
use Rattle.layer.specs.Holds.{laid}
use Rattle.layer.specs.Layers.{held_in}
use Rattle.layer.specs.Steps.{Sends}
use Rattle.layer.proofs.Sending.{sends_cells, sends_lender}
use Rattle.layer.proofs.held.Held.flush.Goals as goal

pub returns : goal.returns
returns g c =
    let st = g.S.Store in
    let el = g.S.Item.Element in
    let x = c.args.self.now in
    let y = c.loop-self.self in
    let none : held_in c.loop-self.self.table ≡ [] = nil_from_length (held_in y.table) (omega arith) in
    let P : List HeldWrite → Type 0 = λ ws. Sends st el y.below ws y.below in
    let all : Sends st el x.below (held_in x.table) y.below = c.loop-self.invariant y.below (subst P (sym none) refl) in
    let down = sends_cells st el x.below (held_in x.table) y.below all in
    record {
      layer = ap₂ (λ (b : List _) (h : List HeldWrite). record { below = b; held = h }) down none;
      below = all;
      kept = ap (λ (ws : List HeldWrite). laid el.unpacked (st.cells y.below) ws) none ∙ down;
      lender = sends_lender st el x.below (held_in x.table) y.below all;
    }
