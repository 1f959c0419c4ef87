use Rattle.std.proofs.Common.{ℕ, List, ap, ◌∙◌}
use Rattle.cells.specs.Cells.{member}
use Rattle.sheet.proofs.Members.{member_any}
use Rattle.sheet.proofs.sheet.Sheet.is_swapped.Goals as goal

pub returns : goal.returns
returns c = c.contains.ensures.value ∙ member_any c.args.cell (c.swaps.result.now) ∙ ap (λ (xs : List ℕ). member xs c.args.cell) c.swaps.ensures.value
