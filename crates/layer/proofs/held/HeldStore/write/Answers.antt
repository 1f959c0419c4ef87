use Rattle.std.proofs.Common.{◌≡◌, ◌<◌, ◌≤◌, ltb, List, length, take, sym, refl, ap, ◌∙◌, ap₂, arith}
use Rattle.std.proofs.lemmas.Bool.{lt-ltb, le-ltb, cond-true, cond-false}
use Rattle.element.specs.declared.words.Words.{Words}
use Rattle.store.specs.declared.access.Access.TheVariants.{Write}
use Rattle.store.proofs.Within.{writes_within, writes_beyond}
use Rattle.layer.specs.declared.held_write.HeldWrite.{HeldWrite}
use Rattle.layer.specs.Holds.{inside, placed, outgoing}
use Rattle.layer.specs.Layers.{Layer, held_in, holding, layer_after, meaning}
use Rattle.layer.specs.Steps.{layer_of, meant}
use Rattle.layer.proofs.Refining.{length-meaning, after_right}
use Rattle.layer.proofs.Holding.{length-laid, inside_placed}
use Rattle.layer.proofs.Sending.{sends_cells, sends_lender}
use Rattle.layer.proofs.held.HeldStore.write.Goals as goal

pub returns-then-n-len : goal.returns-then-n-len
returns-then-n-len g c =
    let x = c.args.self.now in
    let l = layer_of g.S.Store g.S.Item.Element x in
    let past : length (g.S.Store.cells c.args.self.now.below) ≤ c.args.n = omega arith in
    record {
      writes = writes_beyond (meant g.S.Store g.S.Item.Element x) _ c.args.n c.args.x (omega (arith, length-meaning g.S.Item.Element (layer_of g.S.Store g.S.Item.Element c.args.self.now))) refl;
      lender = refl;
      layer = record { layer = sym (cond-false (ltb c.args.n (length l.below)) (holding g.S.Item.Element l c.args.n c.args.x) l (le-ltb c.args.n (length l.below) past)); below = refl };
    }

pub invariant_of-self : goal.invariant_of-self
invariant_of-self g c =
    let st = g.S.Store in
    let el = g.S.Item.Element in
    let x = c.args.self.now in
    let m = c.make_room.new.self in
    let out = take (outgoing c.args.n (held_in x.table)) (held_in x.table) in
    let same : length (g.S.Store.cells c.make_room.new.self.below) ≡ length (g.S.Store.cells c.args.self.now.below) =
    ap length (sends_cells st el x.below out m.below c.make_room.ensures.below) ∙ length-laid el.unpacked (st.cells x.below) out in
    record {
      within = ap (inside (length (st.cells m.below))) c.put.ensures
          ∙ inside_placed (length (st.cells m.below)) (held_in m.table) _ m.within (omega (arith, same));
    }

pub returns : goal.returns
returns g c =
    let st = g.S.Store in
    let el = g.S.Item.Element in
    let x = c.args.self.now in
    let m = c.make_room.new.self in
    let n = c.args.n in
    let l = layer_of st el x in
    let ws = held_in x.table in
    let within : c.args.n < length (g.S.Store.cells c.args.self.now.below) = omega arith in
    let down = sends_cells st el x.below (take (outgoing n ws) ws) m.below c.make_room.ensures.below in
    let held : held_in c.put.new.self ≡ (holding el l n c.args.x).held =
    c.put.ensures ∙ ap₂ (λ (vs : List HeldWrite) (w : Words). placed vs (record { cell = n; words = w })) c.make_room.ensures.held c.pack-words.ensures in
    let step : ◌≡◌ {A = Layer _} (record { below = st.cells m.below; held = held_in c.put.new.self }) (layer_after el l (Write n c.args.x)) =
    ap₂ (λ (b : List _) (h : List HeldWrite). record { below = b; held = h }) down held
    ∙ sym (cond-true (ltb n (length l.below)) (holding el l n c.args.x) l (lt-ltb n (length l.below) within)) in
    record {
      writes = writes_within (meant st el x) _ n c.args.x (omega (arith, length-meaning g.S.Item.Element (layer_of g.S.Store g.S.Item.Element c.args.self.now)))
          (ap (meaning el) step ∙ after_right el g.met.S.Item.Element.round l (Write n c.args.x) x.table.distinct);
      lender = sends_lender st el x.below (take (outgoing n ws) ws) m.below c.make_room.ensures.below;
      layer = record { layer = step; below = c.make_room.ensures.below };
    }
