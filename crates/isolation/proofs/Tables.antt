-- Facts of tables. Assumes nothing.
use Rattle.std.proofs.Common.{◌≡◌, ℕ, zero, suc, ◌<◌, Bool, true, false, cond, List, length, set, refl, arith}
use Rattle.std.proofs.lemmas.Grind.{common_steps}
use Rattle.std.proofs.lemmas.Bool.{eq-eqb, ne_eqb}
use Rattle.isolation.specs.Tables.{at, replace, change, any}

pub cond_two : {V : Type 0} (b : Bool) {x y x' y' : V} → x ≡ x' → y ≡ y' → cond b x y ≡ cond b x' y'
cond_two true e f = e
cond_two false e f = f

pub replace_here : {V : Type 0} (f : ℕ → V) (v : V) (n i : ℕ) → i ≡ n → replace f n v i ≡ v
replace_here f v n i e = rw (eq-eqb i n e)

pub replace_there : {V : Type 0} (f : ℕ → V) (v : V) (n i : ℕ) → (i ≡ n → ⊥) → replace f n v i ≡ f i
replace_there f v n i h = rw (ne_eqb i n h)

pub change_there : {V : Type 0} (f : ℕ → V) (g : V → V) (n i : ℕ) → (i ≡ n → ⊥) → change f n g i ≡ f i
change_there f g n i h = rw (ne_eqb i n h)

pub any_here : (n p : ℕ) (f : ℕ → Bool) → p < n → f p ≡ true → any n f ≡ true
any_here zero p f h e = grind arith
any_here (suc n) p f h e = grind (arith, any_here n p f)

pub any_none : (n : ℕ) (f : ℕ → Bool) → ((q : ℕ) → q < n → f q ≡ false) → any n f ≡ false
any_none zero f h = refl
any_none (suc n) f h = grind (arith, h n, any_none n f (λ q l. h q (omega arith)))

-- a list with one value set is the table with that value replaced
pub at_set : {V : Type 0} (z : V) (l : List V) (i : ℕ) (v : V) → i < length l → (n : ℕ) → at z (set l i v) n ≡ replace (at z l) i v n
at_set z l i v h n = grind (arith, common_steps)
