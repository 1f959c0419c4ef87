-- A call case by case. Assumes nothing.
use Rattle.std.proofs.Common.{◌≡◌, ℕ, ◌≤◌, List, length, drop, Ok, Err, Result, sym, refl, ap}
use Rattle.std.proofs.Math.Seq.{take-append_seam, drop-append_seam}
use Rattle.std.proofs.lemmas.Bool.{lt-ltb, le-ltb}
use Rattle.instruction.specs.declared.fault.SetFault.{SetFault}
use Rattle.instruction.specs.declared.fault.SetFault.TheVariants.{FewPlaces}
use Rattle.instruction.specs.Outcomes.{counted, laid, Called, Stands, Applied}

stands : {E : Type 0} (m : Result (List E) SetFault) (before : List E) → ((vs : List E) → m ≡ Ok vs → length vs ≤ 4)
    → Stands m before (laid before m) (counted m)
stands (Ok vs) before few =
    (ap (λ (l : List _). Ok l) (sym (take-append_seam vs (drop (length vs) before))), few vs refl, drop-append_seam vs (drop (length vs) before))
stands (Err f) before few = (refl, refl)

pub applied : {E : Type 0} (m : Result (List E) SetFault) (before after : List E) (r : Result ℕ SetFault)
    → ((vs : List E) → m ≡ Ok vs → length vs ≤ 4) → Called m before after r → Applied m before after r
applied m before after r few k = record {
  lacking = λ h.
      let e : r ≡ Err FewPlaces = rw (lt-ltb (length before) 4 h) at k.answer in
      let p : after ≡ before = rw (lt-ltb (length before) 4 h) at k.places in
      (e, p);
  enough = λ h.
      let e : r ≡ counted m = rw (le-ltb (length before) 4 h) at k.answer in
      let p : after ≡ laid before m = rw (le-ltb (length before) 4 h) at k.places in
      rw (e, p) (stands m before few);
}
