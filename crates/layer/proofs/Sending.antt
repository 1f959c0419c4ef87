-- What writes that go down make of the store below.
use Rattle.std.proofs.Common.{◌≡◌, List, [], ◌∷◌, ap, ◌∙◌}
use Rattle.element.specs.declared.element.Element.{Ghosts as Elements}
use Rattle.store.specs.declared.store.Store.{Ghosts as Stores}
use Rattle.layer.specs.declared.held_write.HeldWrite.{HeldWrite}
use Rattle.layer.specs.Holds.{laid}
use Rattle.layer.specs.Steps.{Sends}

module _ {S E : Type 0} (st : Stores S E) (el : Elements E) where
  pub sends_cells : (x : S) (ws : List HeldWrite) (z : S) → Sends st el x ws z → st.cells z ≡ laid el.unpacked (st.cells x) ws
  sends_cells x [] z s = ap st.cells s
  sends_cells x (w ∷ ws) z s = sends_cells s.0 ws z s.1.1 ∙ ap (λ (xs : List E). laid el.unpacked xs ws) s.1.0.cells

  pub sends_lender : (x : S) (ws : List HeldWrite) (z : S) → Sends st el x ws z → st.lender z ≡ st.lender x
  sends_lender x [] z s = ap st.lender s
  sends_lender x (w ∷ ws) z s = sends_lender s.0 ws z s.1.1 ∙ s.1.0.lender
