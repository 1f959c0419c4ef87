-- A host at its making. Assumes nothing.
use Rattle.std.proofs.Common.{◌≡◌, ℕ, zero, suc, Bool, true, false, cond, eqb, List, [], ◌∷◌, map, length, get_or, replicate, Some, None, Option, sym, refl, ap, ◌∙◌, arith}
use mathlib.Core.Path.{fun_ext}
use Rattle.element.specs.Pairs.{pair}
use Rattle.element.specs.declared.words.Words.{Words}
use Rattle.cells.specs.Cells.{beside}
use Rattle.command.specs.declared.refusal.Refusal.{Refusal}
use Rattle.command.specs.declared.refusal.Refusal.TheVariants.{Size}
use Rattle.queue.specs.declared.queues.Queues.{Queues}
use Rattle.queue.specs.Queue.{empty}
use Rattle.queue.specs.Packed.{packed_at, unpacked_by, queue_at}
use Rattle.transfer.specs.declared.row.SaveRow.{SaveRow}
use Rattle.transfer.specs.Rows.{row_of}
use Rattle.isolation.proofs.Tables.{cond_two}
use Rattle.element.specs.declared.element.Element.{Ghosts as Elements}
use Rattle.instruction.specs.declared.set.InstructionSet.{Ghosts as Sets}
use Rattle.store.specs.declared.store.Store.{Ghosts as Stores}
use Rattle.sheet.specs.declared.sheet.Sheet.{Sheet}
use Rattle.port.specs.declared.ports.Ports.{Ports}
use Rattle.isolation.specs.Tables.{at}
use Rattle.host.specs.declared.host.Host.{Host}
use Rattle.host.specs.declared.host.Kept.{Kept}
use Rattle.host.specs.Parts.{saves_of, no_row}
use Rattle.host.specs.Hosted.{state_of, fits_of, making_of}
use Rattle.host.specs.Keeping.{resumed, listed, made_with}
use Rattle.host.specs.Commands.{Makes}

cond_same : {E : Type 0} (b : Bool) (x : E) → cond b x x ≡ x
cond_same true x = refl
cond_same false x = refl

beside_nulls : {E : Type 0} (u : Words → E) (z : E) (w : Words) → u w ≡ z → (ns : List ℕ) (k n : ℕ) → beside z ns (map u (replicate k w)) n ≡ z
beside_nulls u z w e [] k n = refl
beside_nulls u z w e (m ∷ ns) zero n = refl
beside_nulls u z w e (m ∷ ns) (suc k) n = cond_two (eqb n m) e (beside_nulls u z w e ns k n) ∙ cond_same (eqb n m) z

get_or-same : {V : Type 0} (n i : ℕ) (x : V) (P : V → Type 0) (d : V) → P x → P d → P (get_or (replicate n x) i d)
get_or-same zero i x P d p q = q
get_or-same (suc n) zero x P d p q = p
get_or-same (suc n) (suc i) x P d p q = get_or-same n i x P d p q

pub rows_made : {E : Type 0} (u : Words → E) (z : E) (sw : List ℕ) (row : SaveRow) → u (pair 0 0) ≡ z → row.words ≡ replicate 16 (pair 0 0) →
    saves_of u z sw (replicate 8 row) ≡ (λ (p n : ℕ). z)
rows_made u z sw row e w = fun_ext (λ p. fun_ext (λ n.
    get_or-same 8 p row (λ (x : SaveRow). beside z sw (row_of u x) n ≡ z) no_row
    (ap (λ (ws : List Words). beside z sw (map u ws) n) w ∙ beside_nulls u z (pair 0 0) e sw 16 n)
    (beside_nulls u z (pair 0 0) e sw 0 n)))

pub queues_made : {E : Type 0} (u : Words → E) (qs : Queues) → ((x : ℕ) → packed_at qs x ≡ empty) → queue_at u qs ≡ (λ (x : ℕ). empty)
queues_made u qs e = fun_ext (λ x. ap (unpacked_by u) (e x))

pub no_refusal : (b : Bool) → cond b None (Some Size) ≡ None → b ≡ true
no_refusal true e = refl
no_refusal false e = let z : ◌≡◌ {A = ℕ} 0 1 = cc in absurd (omega arith)

-- a host over a store, made as over the plain list of its elements
pub made_over : {S I E : Type 0} (st : Stores S E) (el : Elements E) (is : Sets I E) (store : S) (set : I) (sheet : Sheet) (ports : Ports) (k : Kept) (h : Host S I E) (r : Option Refusal) →
    h ≡ resumed k store set → r ≡ cond (eqb (length (st.cells store)) sheet.size) None (Some Size) → Makes listed el is (st.cells store) set sheet ports (made_with k (st.cells store) set) →
    Makes st el is store set sheet ports (record { host = h; refusal = r })
made_over {S} {I} {E} st el is store set sheet ports k h r e f m =
    let making = ap (λ (x : Host S I E). making_of el is x (at el.blank (st.cells store))) e ∙ m.making in
    let state = ap (state_of st el) e ∙ m.state in
    record {
      refusal = f;
      kept = ap (λ (x : Host S I E). x.store) e;
      making = making;
      state = state;
      isolated = m.isolated;
      led = λ none. record {
        making = making;
        accepted = ap (fits_of st el) e ∙ (m.led (m.refusal ∙ (sym f ∙ none))).accepted;
        state = state;
      };
    }
