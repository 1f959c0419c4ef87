use Rattle.std.proofs.Common.{◌≡◌, ℕ, ◌-◌, ◌<◌, List, ◌++◌, map, length, get_or, take, drop, replicate, sym, ap, ◌∙◌, ap₂, subst, arith, length-set, length-take}
use Rattle.std.proofs.lemmas.List.{get_or-take, set-get_or}
use Rattle.element.specs.Pairs.{pair}
use Rattle.element.specs.declared.element.Element.{Ghosts as Elements}
use Rattle.element.specs.declared.words.Words.{Words}
use Rattle.transfer.specs.Rows.{Saved}
use Rattle.transfer.specs.Lists.{elements_at}
use Rattle.transfer.proofs.Taking.{taken_more, left_more, row_end, map_both, beside_row}
use Rattle.transfer.proofs.row.swap.swap_out.Goals as goal

-- the first i places have the elements of all the swapped cells, and the others are as in a blank row
saved : {E : Type 0} (el : Elements E) (round : (x : E) → el.unpacked (el.packed x) ≡ x) (xs : List E) (sw : List ℕ) (words : List Words) (i : ℕ) → i ≡ length sw →
    take i words ≡ map (λ n. el.packed (get_or xs n el.blank)) (take i sw) → drop i words ≡ drop i (replicate 16 (pair 0 0)) → Saved el xs sw (record { words = words })
saved el round xs sw words i e p q =
    let rest = replicate (16 - length sw) (pair 0 0) in
    let whole : words ≡ map el.packed (elements_at el.blank xs sw) ++ rest =
    row_end (λ n. el.packed (get_or xs n el.blank)) sw (pair 0 0) 16 words i e p q
    ∙ ap (λ (t : List Words). t ++ rest) (map_both el.packed (λ n. get_or xs n el.blank) sw) in
    record { words = whole; each = λ n. beside_row el.packed el.unpacked round el.blank (λ m. get_or xs m el.blank) sw rest words n whole }

pub loop-i-preserved : goal.loop-i-preserved
loop-i-preserved g c =
    let z = g.S.Item.Element.blank in
    let p = g.S.Item.Element.packed in
    let swaps = c.args.swaps.now in
    let xs = g.S.Store.cells c.args.store.now in
    let i = c.loop-i.i in
    let s = c.loop-i.invariant.store in
    let got = c.in-Some.ensures.lookup in
    let h : c.loop-i.i < length (take 16 c.args.swaps.now) = omega (arith, got.3.0, length-take 16 c.args.swaps.now) in
    let m : c.loop-i.i < 16 = omega arith in
    let k : c.loop-i.i < length c.loop-i.words-items = omega (arith, c.loop-i.invariant.whole) in
    record {
      store = record { cells = c.read_or_null.ensures.store.cells ∙ s.cells; lender = c.read_or_null.ensures.store.lender ∙ s.lender };
      taken = taken_more (λ n. p (get_or xs n z)) (take 16 swaps) c.loop-i.words-items i c.pack.result h k c.loop-i.invariant.taken
          (c.pack.ensures ∙ ap p (c.read_or_null.ensures.value ∙ ap₂ (λ (l : List _) (n : ℕ). get_or l n z) s.cells (got.4 (omega arith) 0 ∙ sym (get_or-take 16 swaps i 0 m))));
      left = left_more (replicate 16 (pair 0 0)) c.loop-i.words-items i c.pack.result c.loop-i.invariant.left;
      whole = length-set c.loop-i.words-items i c.pack.result ∙ c.loop-i.invariant.whole;
      few = omega (arith, got.3.0);
    }

pub returns-after-loop-i-clause-row : goal.returns-after-loop-i-clause-row
returns-after-loop-i-clause-row g c =
    let e : c.loop-i.i ≡ length (take 16 c.args.swaps.now) = omega (arith, length-take 16 c.args.swaps.now, c.loop-i.invariant.few, c.loop-i.invariant.whole) in
    saved g.S.Item.Element g.met.S.Item.Element.round (g.S.Store.cells c.args.store.now) (take 16 c.args.swaps.now) c.loop-i.words-items c.loop-i.i e
    c.loop-i.invariant.taken c.loop-i.invariant.left

pub returns-in_default-clause-row : goal.returns-in_default-clause-row
returns-in_default-clause-row g c =
    let e : c.loop-i.i ≡ length (take 16 c.args.swaps.now) = omega (arith, length-take 16 c.args.swaps.now, c.in_default.ensures.lookup.3, c.loop-i.invariant.few) in
    let words = c.loop-i.words-items in
    let i = c.loop-i.i in
    let d : Words = pair 0 0 in
    subst (λ (ws : List Words). Saved g.S.Item.Element (g.S.Store.cells c.args.store.now) (take 16 c.args.swaps.now) (record { words = ws })) (sym (set-get_or words i d))
    (saved g.S.Item.Element g.met.S.Item.Element.round (g.S.Store.cells c.args.store.now) (take 16 c.args.swaps.now) words i e
    c.loop-i.invariant.taken c.loop-i.invariant.left)
