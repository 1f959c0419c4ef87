use Rattle.std.proofs.Common.{◌≡◌, ℕ, ◌+◌, ◌-◌, ◌*◌, ◌≤◌, List, length, take, drop, sym, ap, ◌∙◌, subst, ap₂, arith}
use Rattle.cells.specs.Cells.{cell_list}
use Rattle.command.specs.Shape.{byte_at, kind_of, arg_limit}
use Rattle.command.specs.Kinds.{kind_number}
use Rattle.command.specs.Order.{work, instruct, send}
use Rattle.command.proofs.Asking.{asks_instruct, asks_send}
use Rattle.command.proofs.Shapes.{arg_count_lem, arg_most, result_most, few_args, few_results}
use Rattle.command.proofs.decode.command_of.Goals as goal

-- the cells that the code cuts out are so many bytes
cells_cut : (bs : List ℕ) (from n : ℕ) → take (from + 2 * n - from) (drop from bs) ≡ take (2 * n) (drop from bs)
cells_cut bs from n = let long : from + 2 * n - from ≡ 2 * n = omega arith in ap (λ m. take m (drop from bs)) long

pub slice_bounds-args-end : goal.slice_bounds-args-end
slice_bounds-args-end c = omega (arith, arg_most c.args.bytes.now (c.requires.shape 6))

pub slice_bounds-results-end : goal.slice_bounds-results-end
slice_bounds-results-end c = omega (arith, result_most c.args.bytes.now (c.requires.shape 7))

pub returns-in-Instruct : goal.returns-in-Instruct
returns-in-Instruct c =
    let bs = c.args.bytes.now in
    let three : kind_of bs ≡ 3 = sym c.requires.kind ∙ ap kind_number c.in-Instruct.is in
    let xs = cells_cut bs 8 (byte_at bs 6) in
    let rs = cells_cut bs 24 (byte_at bs 7) in (
      ap₂ (λ (x y : List ℕ). work (instruct (byte_at bs 4) (cell_list x) (cell_list y))) xs rs ∙ sym (asks_instruct bs three),
      (
        subst (λ (x : List ℕ). length (cell_list x) ≤ 8) (sym xs) (few_args bs 8 (arg_most bs (c.requires.shape 6))),
        subst (λ (x : List ℕ). length (cell_list x) ≤ 4) (sym rs) (few_results bs 4 (result_most bs (c.requires.shape 7))),
      ),
    )

pub returns-in-Send : goal.returns-in-Send
returns-in-Send c =
    let bs = c.args.bytes.now in
    let four : kind_of bs ≡ 4 = sym c.requires.kind ∙ ap kind_number c.in-Send.is in
    let xs = cells_cut bs 8 (byte_at bs 6) in
    let few : byte_at bs 6 ≤ 4 = subst (λ (k : ℕ). byte_at bs 6 ≤ arg_limit k) four (arg_count_lem bs (c.requires.shape 6)) in (
      ap (λ (x : List ℕ). work (send (byte_at bs 5) (cell_list x))) xs ∙ sym (asks_send bs four),
      subst (λ (x : List ℕ). length (cell_list x) ≤ 4) (sym xs) (few_args bs 4 few),
    )
