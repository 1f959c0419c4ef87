-- Outcomes where the tests are known, and what refusal 16 means.
-- Assumes nothing.
use Rattle.std.proofs.Common.{◌≡◌, ℕ, ◌^◌, ◌<◌, Bool, true, false, cond, ◌&&◌, ◌||◌, eqb, ltb, ◌⊎◌, set, sym, refl, ap, ◌∙◌, ap₂, inl, inr, arith}
use lib.Bits.{bit_or}
use Rattle.std.proofs.lemmas.Bool.{lt-ltb, eqb-true, cases_Bool, true≢false}
use Rattle.part.specs.Sets.{bit}
use Rattle.part.specs.Rows.{exclusive, holds, Another, OneMore}
use Rattle.part.proofs.Bits.{bit-bit_or, bit_single}
use Rattle.part.proofs.Ones.{one_more}
use Rattle.cells.specs.Cells.{member}
use Rattle.sheet.specs.declared.rights.Rights.{Rights}
use Rattle.sheet.specs.Laws.{TakenIs16}
use Rattle.sheet.specs.View.{Gives}
use Rattle.sheet.specs.Rows.{Rows, read_row, write_row, granted_read, granted_write, granted_rows, grant_number, granted}

-- a grant's rows together have the bits they had, and that of its part
with_bit : (r w b : Bool) → ((r || b) || w) ≡ ((r || w) || b)
with_bit true w b = refl
with_bit false true true = refl
with_bit false true false = refl
with_bit false false true = refl
with_bit false false false = refl

with_last : (r w b : Bool) → (r || (w || b)) ≡ ((r || w) || b)
with_last true w b = refl
with_last false w b = refl

with_both : (r w b : Bool) → ((r || b) || (w || b)) ≡ ((r || w) || b)
with_both true w b = refl
with_both false true true = refl
with_both false true false = refl
with_both false false true = refl
with_both false false false = refl

more : (r w p q : ℕ) (x y : Bool) → (x && y) ≡ false →
    holds (cond x r (bit_or r (2 ^ p))) (cond y w (bit_or w (2 ^ p))) q ≡ (holds r w q || eqb q p)
more r w p q true true e = absurd (true≢false e)
more r w p q true false e = ap (λ (b : Bool). bit q r || b) (bit-bit_or q w (2 ^ p) ∙ ap (λ (b : Bool). bit q w || b) (bit_single p q)) ∙ with_last (bit q r) (bit q w) (eqb q p)
more r w p q false true e = ap (λ (b : Bool). b || bit q w) (bit-bit_or q r (2 ^ p) ∙ ap (λ (b : Bool). bit q r || b) (bit_single p q)) ∙ with_bit (bit q r) (bit q w) (eqb q p)
more r w p q false false e =
    ap₂ ◌||◌ (bit-bit_or q r (2 ^ p) ∙ ap (λ (b : Bool). bit q r || b) (bit_single p q)) (bit-bit_or q w (2 ^ p) ∙ ap (λ (b : Bool). bit q w || b) (bit_single p q))
    ∙ with_both (bit q r) (bit q w) (eqb q p)

one_mode : (m : ℕ) → (eqb m 2 && eqb m 1) ≡ false
one_mode m = elim (cases_Bool (eqb m 2)) [
  | inl t ↦ let e : m ≡ 2 = eqb-true m 2 t in rw e
  | inr f ↦ rw f
]

pub grant_more : (s : Rows) (c p m : ℕ) → OneMore (read_row s c) (write_row s c) p (granted_read s c p m) (granted_write s c p m)
grant_more s c p m = one_more (read_row s c) (write_row s c) p (granted_read s c p m) (granted_write s c p m)
    (λ q. more (read_row s c) (write_row s c) p q (eqb m 2) (eqb m 1) (one_mode m))

-- a refusal with 16 among the five numbers of a grant
which : (a b c d x : Bool) → ◌≡◌ {A = ℕ} (cond a (cond b (cond c (cond d 16 (cond x 0 16)) 18) 9) 15) 16 → (d ≡ true) ⊎ (x ≡ false)
which false b c d x e = absurd (omega arith)
which true false c d x e = absurd (omega arith)
which true true false d x e = absurd (omega arith)
which true true true true x e = inl refl
which true true true false true e = absurd (omega arith)
which true true true false false e = inr refl

pub taken_is_16 : (n : ℕ) (s : Rows) (c p m : ℕ) → TakenIs16 n s c p m (grant_number n s c p m)
taken_is_16 n s c p m = record {
  taken = λ e. elim (which (ltb c s.size) (ltb p n) (ltb m 4) (member s.swaps c) (exclusive (granted_read s c p m) (granted_write s c p m)) e) [
    | inl t ↦ inl t
    | inr f ↦ inr ((grant_more s c p m).taken f)
  ];
  refused = λ hc hp hm t. elim t [
    | inl d ↦ rw (lt-ltb c s.size hc, lt-ltb p n hp, lt-ltb m 4 hm, d)
    | inr a ↦ other hc hp hm a (cases_Bool (member s.swaps c))
  ];
}
  where
    other : c < s.size → p < n → m < 4 → Another (read_row s c) (write_row s c) p → (member s.swaps c ≡ true) ⊎ (member s.swaps c ≡ false) → grant_number n s c p m ≡ 16
    other hc hp hm a (inl d) = rw (lt-ltb c s.size hc, lt-ltb p n hp, lt-ltb m 4 hm, d)
    other hc hp hm a (inr f) = rw (lt-ltb c s.size hc, lt-ltb p n hp, lt-ltb m 4 hm, f, (grant_more s c p m).refused a)

-- a grant that is allowed
pub granted_is : (n : ℕ) (s : Rows) (c p m : ℕ) (r : Rights) → Gives n s c p m r →
    granted n s c p m ≡ record { rows = record { read = set s.read c r.read; write = set s.write c r.write; size = s.size; swaps = s.swaps }; number = 0 }
granted_is n s c p m r g =
    ap (λ (k : ℕ). record { rows = cond (eqb k 0) (granted_rows s c p m) s; number = k }) g.number
    ∙ ap₂ (λ (x y : ℕ). record { rows = record { read = set s.read c x; write = set s.write c y; size = s.size; swaps = s.swaps }; number = 0 }) (sym g.read) (sym g.write)
