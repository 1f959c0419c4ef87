-- What records of each kind of work ask, and the outcomes of decoding, each exactly under its condition. Assumes nothing.
use Rattle.std.proofs.Common.{◌≡◌, ℕ, List, Ok, Err, Result, sym, refl, ap, ◌∙◌, subst, ⊎_elim, arith}
use Rattle.std.proofs.lemmas.Bool.{cases_order, both_ways}
use Rattle.cells.specs.Cells.{cell_list}
use Rattle.command.specs.Shape.{byte_at, kind_of, arg_bytes, result_bytes}
use Rattle.command.specs.Order.{work, instruct, send, receive, asked}
use Rattle.command.specs.Decoding.{Lowest, Asks, Decodes, Cases}
use Rattle.command.specs.declared.command.Command.{Command}
use Rattle.command.specs.declared.malformed.Malformed.{Malformed}
use Rattle.command.specs.declared.malformed.Malformed.TheVariants.{Length, Kind, Shape}
use Rattle.command.proofs.Shapes.{shape_law, decoded_unknown, decoded_bad, decoded_good, ordered_whole, ordered_short}

pub asks_instruct : (bs : List ℕ) → kind_of bs ≡ 3 → asked bs ≡ work (instruct (byte_at bs 4) (cell_list (arg_bytes bs)) (cell_list (result_bytes bs)))
asks_instruct bs e = rw e

pub asks_send : (bs : List ℕ) → kind_of bs ≡ 4 → asked bs ≡ work (send (byte_at bs 5) (cell_list (arg_bytes bs)))
asks_send bs e = rw e

pub asks_receive : (bs : List ℕ) → kind_of bs ≡ 5 → asked bs ≡ work (receive (byte_at bs 5) (cell_list (result_bytes bs)))
asks_receive bs e = rw e

one_lowest : (bs : List ℕ) (i k : ℕ) → Lowest bs i → Lowest bs k → i ≡ k
one_lowest bs i k a b = ⊎_elim (λ e. e) (⊎_elim (λ l. absurd (b.1 i l a.0)) (λ l. absurd (a.1 k l b.0))) (cases_order i k)

pub exactly : (bs : List ℕ) (r : Result Command Malformed) → Cases bs r → Decodes bs r
exactly bs (Ok c) h = record {
  bad_length = (λ e. let z : ◌≡◌ {A = ℕ} 0 1 = cc in absurd (omega arith), λ d. absurd (d h.0));
  bad_kind = (λ e. let z : ◌≡◌ {A = ℕ} 0 1 = cc in absurd (omega arith), λ k. absurd (both_ways _ k.1 h.1));
  bad_shape = λ i. (λ e. let z : ◌≡◌ {A = ℕ} 0 1 = cc in absurd (omega arith), λ k. absurd (h.2 i k.2.0));
  asks = λ d e. let same : c ≡ d = cc in subst (Asks bs) same h.3;
  order = h.3.0 ∙ sym (ordered_whole bs h.0 ∙ decoded_good bs h.1 h.2);
  shape = shape_law bs;
}
exactly bs (Err Length) h = record {
  bad_length = (λ e. h, λ d. refl);
  bad_kind = (λ e. let z : ◌≡◌ {A = ℕ} 0 1 = cc in absurd (omega arith), λ k. absurd (h k.0));
  bad_shape = λ i. (λ e. let z : ◌≡◌ {A = ℕ} 0 1 = cc in absurd (omega arith), λ k. absurd (h k.0));
  asks = λ d e. let z : ◌≡◌ {A = ℕ} 0 1 = cc in absurd (omega arith);
  order = sym (ordered_short bs h);
  shape = shape_law bs;
}
exactly bs (Err Kind) h = record {
  bad_length = (λ e. let z : ◌≡◌ {A = ℕ} 0 1 = cc in absurd (omega arith), λ d. absurd (d h.0));
  bad_kind = (λ e. h, λ k. refl);
  bad_shape = λ i. (λ e. let z : ◌≡◌ {A = ℕ} 0 1 = cc in absurd (omega arith), λ k. absurd (both_ways _ h.1 k.1));
  asks = λ d e. let z : ◌≡◌ {A = ℕ} 0 1 = cc in absurd (omega arith);
  order = sym (ordered_whole bs h.0 ∙ decoded_unknown bs h.1);
  shape = shape_law bs;
}
exactly bs (Err (Shape j)) h = record {
  bad_length = (λ e. let z : ◌≡◌ {A = ℕ} 0 1 = cc in absurd (omega arith), λ d. absurd (d h.0));
  bad_kind = (λ e. let z : ◌≡◌ {A = ℕ} 0 1 = cc in absurd (omega arith), λ k. absurd (both_ways _ k.1 h.1));
  bad_shape = λ i.
      (λ e. let same : j ≡ i = cc in (h.0, h.1, subst (Lowest bs) same h.2), λ k. ap (λ n. Err (Shape n)) (one_lowest bs j i h.2 k.2));
  asks = λ d e. let z : ◌≡◌ {A = ℕ} 0 1 = cc in absurd (omega arith);
  order = sym (ordered_whole bs h.0 ∙ decoded_bad bs j h.1 h.2);
  shape = shape_law bs;
}
