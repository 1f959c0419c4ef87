use Rattle.std.proofs.Common.{◌≡◌, set, refl, ap, ◌∙◌, arith}
use Rattle.store.specs.Packing.{elements}
use Rattle.store.proofs.Within.{writes_within, writes_beyond}
use Rattle.store.proofs.Pairing.{length-elements, set_elements}
use Rattle.store.proofs.packed.write_pair.Goals as goal

pub returns-then-n-words : goal.returns-then-n-words
returns-then-n-words g c =
    let u = g.E.Element.unpacked in
    let ws = c.args.words.now in
    let w = c.pack-pair.result in
    let whole : u w ≡ c.args.x = ap u c.pack-pair.ensures ∙ g.met.E.Element.round c.args.x in
    record {
      writes = writes_within _ _ c.args.n c.args.x (omega (arith, length-elements u ws))
          (set_elements u ws c.args.n w.first w.second c.if-n-words.true ∙ ap (set (elements u ws) c.args.n) whole);
      words = cc;
    }

pub returns-else-n-words : goal.returns-else-n-words
returns-else-n-words g c =
    record { writes = writes_beyond _ _ c.args.n c.args.x (omega (arith, length-elements g.E.Element.unpacked c.args.words.now)) refl; words = refl }
