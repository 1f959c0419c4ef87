use Rattle.std.proofs.Common.{ℕ, suc, ◌+◌, ◌*◌, ◌<◌, length, get_or, sym, refl, ap, ◌∙◌, add-one, arith}
use Rattle.std.proofs.lemmas.List.{get_or_past}
use Rattle.cells.specs.Cells.{cell_list}
use Rattle.cells.proofs.CellLists.{length-cells, cell_at}
use Rattle.cells.proofs.list.cell.Goals as goal

pub returns-then-i-bytes : goal.returns-then-i-bytes
returns-then-i-bytes c = sym (get_or_past (cell_list c.args.bytes.now) c.args.i 0 (omega (arith, length-cells c.args.bytes.now)))

pub returns : goal.returns
returns c =
    let bs = c.args.bytes.now in
    let i = c.args.i in
    let h : suc (2 * i) < length bs = omega arith in
    omega (arith, c.from_le_bytes.ensures) ∙ (ap (λ (j : ℕ). get_or bs (2 * i) 0 + 256 * get_or bs j 0) (add-one (2 * i)) ∙ sym (cell_at bs i (2 * i) refl h))
