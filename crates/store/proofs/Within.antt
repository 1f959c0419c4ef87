-- A cell below the size, and one that is not.
use Rattle.std.proofs.Common.{◌≡◌, ℕ, zero, suc, ◌<◌, ◌≤◌, List, [], ◌∷◌, length, get_or, set, Some, None, Option, Ok, Err, Result, Bor, IsErr, subst, sym, refl, ap, ◌∙◌, arith}
use Rattle.std.proofs.lemmas.List.{set_past}
use Rattle.std.proofs.lemmas.Bool.{lt-ltb, le-ltb}
use Rattle.std.specs.Option.{ok_or, option_copied}
use Rattle.std.specs.Result.{result_unwrap_or}
use Rattle.std.specs.Slice.{IsItemAt}
use Rattle.store.specs.declared.fault.StoreFault.{StoreFault}
use Rattle.store.specs.declared.fault.StoreFault.TheVariants.{Beyond}
use Rattle.store.specs.Meaning.{element, Reads, Writes}

pub element_within : {E : Type 0} (xs : List E) (n : ℕ) (d : E) → n < length xs → element xs n ≡ Ok (get_or xs n d)
element_within [] n d h = absurd (omega arith)
element_within (x ∷ xs) zero d h = refl
element_within (x ∷ xs) (suc n) d h = element_within xs n d (omega arith)

pub element_beyond : {E : Type 0} (xs : List E) (n : ℕ) → length xs ≤ n → element xs n ≡ Err Beyond
element_beyond [] n h = refl
element_beyond (x ∷ xs) zero h = absurd (omega arith)
element_beyond (x ∷ xs) (suc n) h = element_beyond xs n (omega arith)

-- what `get` finds, as a store answers it
pub element_got : {E : Type 0} (xs : List E) (n : ℕ) (o : Option (Bor E)) → IsItemAt xs n o → element xs n ≡ ok_or (option_copied o) Beyond
element_got xs n None h = element_beyond xs n h.3
element_got xs n (Some x) h = element_within xs n x.now h.3.0 ∙ ap Ok (sym h.1)

pub got_beyond : {X : Type 0} (xs : List X) (n : ℕ) (o : Option (Bor X)) (r : Result (Bor X) StoreFault) (f : StoreFault) → IsItemAt xs n o → r ≡ ok_or o Beyond → r ≡ Err f → length xs ≤ n
got_beyond xs n None r f h d e = h.3
got_beyond xs n (Some x) r f h d e = let w : ◌≡◌ {A = ℕ} 0 1 = cc in absurd (omega arith)

pub got_within : {X : Type 0} (xs : List X) (n : ℕ) (o : Option (Bor X)) (r : Result (Bor X) StoreFault) (x : Bor X) → IsItemAt xs n o → r ≡ ok_or o Beyond → r ≡ Ok x → (n < length xs) × (x.now ≡ get_or xs n x.now)
got_within xs n None r x h d e = let w : ◌≡◌ {A = ℕ} 0 1 = cc in absurd (omega arith)
got_within xs n (Some y) r x h d e = let q : y ≡ x = cc in (h.3.0, subst (λ (z : Bor _). z.now ≡ get_or xs n z.now) q h.1)

-- a read that leaves the meaning
pub reads_within : {E : Type 0} (xs ys : List E) (n : ℕ) (x : E) → n < length xs → x ≡ get_or xs n x → ys ≡ xs → Reads xs n (Ok x) ys
reads_within xs ys n x h e k = record { answer = ap Ok e ∙ sym (element_within xs n x h); kept = k }

pub reads_beyond : {E : Type 0} (xs ys : List E) (n : ℕ) → length xs ≤ n → ys ≡ xs → Reads xs n (Err Beyond) ys
reads_beyond xs ys n h k = record { answer = sym (element_beyond xs n h); kept = k }

-- the refusal has one kind
pub reads_refused : {E : Type 0} (xs : List E) (n : ℕ) (r : Result E StoreFault) → IsErr r → length xs ≤ n → Reads xs n r xs
reads_refused xs n (Err Beyond) t h = reads_beyond xs xs n h refl
reads_refused xs n (Ok x) t h = let w : ◌≡◌ {A = ℕ} 0 1 = cc in absurd (omega arith)

-- a write of a cell below the size, and one that alters nothing
pub writes_within : {E : Type 0} (xs ys : List E) (n : ℕ) (x : E) → n < length xs → ys ≡ set xs n x → Writes xs n x (Ok tt) ys
writes_within xs ys n x h e = record { answer = rw (lt-ltb n (length xs) h); stored = e }

pub writes_beyond : {E : Type 0} (xs ys : List E) (n : ℕ) (x : E) → length xs ≤ n → ys ≡ xs → Writes xs n x (Err Beyond) ys
writes_beyond xs ys n x h e = record { answer = rw (le-ltb n (length xs) h); stored = e ∙ sym (set_past xs n x h) }

-- a cell after a write
pub element_set_same : {E : Type 0} (xs : List E) (n : ℕ) (x : E) → n < length xs → element (set xs n x) n ≡ Ok x
element_set_same [] n x h = absurd (omega arith)
element_set_same (y ∷ xs) zero x h = refl
element_set_same (y ∷ xs) (suc n) x h = element_set_same xs n x (omega arith)

pub element_set_other : {E : Type 0} (xs : List E) (m n : ℕ) (x : E) → (m ≡ n → ⊥) → element (set xs m x) n ≡ element xs n
element_set_other [] m n x h = refl
element_set_other (y ∷ xs) zero zero x h = absurd (h refl)
element_set_other (y ∷ xs) zero (suc n) x h = refl
element_set_other (y ∷ xs) (suc m) zero x h = refl
element_set_other (y ∷ xs) (suc m) (suc n) x h = element_set_other xs m n x (λ e. h (ap suc e))

-- what a read answered, or null
pub element_or : {E : Type 0} (xs : List E) (n : ℕ) (z : E) → result_unwrap_or (element xs n) z ≡ get_or xs n z
element_or [] n z = refl
element_or (y ∷ xs) zero z = refl
element_or (y ∷ xs) (suc n) z = element_or xs n z
