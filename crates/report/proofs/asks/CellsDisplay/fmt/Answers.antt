use Rattle.std.proofs.Common.{◌≡◌, ℕ, zero, suc, ◌+◌, ◌<◌, false, eqb, ◌++◌, [], ◌∷◌, List, length, take, rules, ap, ap₂, sym, ◌∙◌, append_assoc, append-nil, ne_eqb, arith}
use Rattle.std.specs.List.{flat_map}
use Rattle.std.proofs.lemmas.List.{flat_map_more}
use Rattle.std.proofs.Output.{has_written_append, has_written_of_eq}
use Rattle.cells.specs.Cells.{cell_list}
use Rattle.report.specs.Asks.{number_text, cells_text}
use Rattle.report.proofs.asks.CellsDisplay.fmt.Goals as goal

-- one number more is taken
onward : (ys zs front rest : List ℕ) (n m x : ℕ) → front ≡ x ∷ rest → m + 1 ≡ n → ys ++ take n front ≡ zs → (ys ++ x ∷ []) ++ take m rest ≡ zs
onward ys zs front rest n m x is count whole =
    let more : n ≡ suc m = omega arith in
    append_assoc ys (x ∷ []) (take m rest) ∙ ap (λ l. ys ++ l) (sym (ap₂ (λ (k : ℕ) (l : List ℕ). take k l) more is)) ∙ whole

-- no number is left to take
ended : (ys zs rest : List ℕ) (n : ℕ) → (0 < n → rest ≡ []) → ys ++ take n rest ≡ zs → ys ≡ zs
ended ys zs rest zero none whole = sym (append-nil ys) ∙ whole
ended ys zs rest (suc n) none whole = sym (append-nil ys) ∙ ap (λ l. ys ++ take (suc n) l) (sym (none (omega arith))) ∙ whole

pub loop-n-preserved : goal.loop-n-preserved
loop-n-preserved g c = (
  λ p.
      let so_far = c.loop-n.invariant.0 p in
      has_written_of_eq _ _ _ _ _ (flat_map_more number_text c.args.self.now.word.now c.loop-n.yielded c.in-Some.n)
      (has_written_append _ _ _ _ _ _ so_far (c.write.ensures.writes so_far.plain (search rules))),
  onward c.loop-n.yielded _ _ _ _ _ c.in-Some.n c.in-Some.ensures.steps.0 c.in-Some.ensures.steps.1 c.loop-n.invariant.1,
)

pub returns-clause-writes : goal.returns-clause-writes
returns-clause-writes g c = λ p ok.
    let w = c.args.self.now.word.now in
    let ns = cell_list c.args.self.now.bytes.now in
    let some : eqb (length ns) 0 ≡ false = ne_eqb (length ns) 0 (λ e. c.if-count-eq0.false (c.count.ensures ∙ e)) in
    let all : c.loop-n.yielded ≡ take 8 ns = ended _ _ _ _ (λ more. (c.in-None.ensures.steps more).0) c.loop-n.invariant.1 in
    let text : w ++ flat_map number_text c.loop-n.yielded ≡ cells_text w ns = rw (some, all) in
    has_written_of_eq _ _ _ _ _ text (c.loop-n.invariant.0 p)
