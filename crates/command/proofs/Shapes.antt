-- The shape of a record, byte by byte. Assumes nothing.
use Rattle.std.proofs.Common.{◌≡◌, ℕ, zero, suc, ◌+◌, ◌*◌, ◌<◌, ◌≤◌, true, false, cond, ◌&&◌, eqb, ltb, ◌⊎◌, ◌↔◌, List, length, take, drop, sym, refl, ap, ◌∙◌, subst, inl, inr, ⊎_elim, arith, length-take}
use Rattle.std.proofs.lemmas.Bool.{cases_lt, cases_eq, le-leb, lt-leb, lt-ltb, le-ltb, ne_eqb, eq-eqb}
use Rattle.std.proofs.lemmas.Bool.Decides.{nat_tests}
use Rattle.cells.specs.Cells.{cell_list}
use Rattle.command.specs.Shape.{byte_at, kind_of, known, takes_port, arg_limit, result_limit, arg_bytes, result_bytes, largest, most, Fault}
use Rattle.command.specs.Order.{Order, malformed, asked, shaped, decoded, ordered}
use Rattle.command.specs.Decoding.{Uses, code, port, arg_count, result_count, arg_cell, result_cell, Shaped, Lowest}
use Rattle.cells.proofs.CellLists.{length-cells}

-- the limits of the counts

args_eight : (k : ℕ) → arg_limit k ≤ 8
args_eight k = grind (arith, nat_tests)

results_four : (k : ℕ) → result_limit k ≤ 4
results_four k = grind (arith, nat_tests)

pub arg_count_lem : (bs : List ℕ) → (Fault bs 6 → ⊥) → byte_at bs 6 ≤ arg_limit (kind_of bs)
unfolding most
arg_count_lem bs good = ⊎_elim (λ (over : arg_limit (kind_of bs) < byte_at bs 6). absurd (good (omega arith, omega arith, over))) (λ (fits : byte_at bs 6 ≤ arg_limit (kind_of bs)). fits) (cases_lt (arg_limit (kind_of bs)) (byte_at bs 6))

pub result_count_lem : (bs : List ℕ) → (Fault bs 7 → ⊥) → byte_at bs 7 ≤ result_limit (kind_of bs)
unfolding most
result_count_lem bs good = ⊎_elim (λ (over : result_limit (kind_of bs) < byte_at bs 7). absurd (good (omega arith, omega arith, over))) (λ (fits : byte_at bs 7 ≤ result_limit (kind_of bs)). fits) (cases_lt (result_limit (kind_of bs)) (byte_at bs 7))

pub arg_most : (bs : List ℕ) → (Fault bs 6 → ⊥) → byte_at bs 6 ≤ 8
arg_most bs good = omega (arith, arg_count_lem bs good, args_eight (kind_of bs))

pub result_most : (bs : List ℕ) → (Fault bs 7 → ⊥) → byte_at bs 7 ≤ 4
result_most bs good = omega (arith, result_count_lem bs good, results_four (kind_of bs))

-- no more cells than the count says
few_cells : (bs : List ℕ) (n m : ℕ) → n ≤ m → length (cell_list (take (2 * n) bs)) ≤ m
few_cells bs n m h = rw length-cells (rw length-take (omega arith))

pub few_args : (bs : List ℕ) (m : ℕ) → byte_at bs 6 ≤ m → length (cell_list (arg_bytes bs)) ≤ m
few_args bs m h = few_cells (drop 8 bs) (byte_at bs 6) m h

pub few_results : (bs : List ℕ) (m : ℕ) → byte_at bs 7 ≤ m → length (cell_list (result_bytes bs)) ≤ m
few_results bs m h = few_cells (drop 24 bs) (byte_at bs 7) m h

-- which bytes are at fault

no_code : (k : ℕ) → (k ≡ 3 → ⊥) → cond {A = ℕ} (eqb k 3) 255 0 ≡ 0
no_code k a = grind (arith, nat_tests)

no_port : (k : ℕ) → (k ≡ 4 → ⊥) → (k ≡ 5 → ⊥) → cond {A = ℕ} (takes_port k) 255 0 ≡ 0
no_port k a b = grind (arith, nat_tests)

no_args : (k : ℕ) → (k ≡ 3 → ⊥) → (k ≡ 4 → ⊥) → arg_limit k ≡ 0
no_args k a b = grind (arith, nat_tests)

no_results : (k : ℕ) → (k ≡ 3 → ⊥) → (k ≡ 5 → ⊥) → result_limit k ≡ 0
no_results k a b = grind (arith, nat_tests)

no_cell : (limit n i : ℕ) → (i < n → limit ≡ 0) → cond {A = ℕ} (ltb 0 limit && ltb i n) 255 0 ≡ 0
no_cell limit n i h =
    ⊎_elim (λ (l : i < n). rw (h l)) (λ (l : n ≤ i). ⊎_elim (λ (z : 0 < limit). rw (lt-ltb 0 limit z, le-ltb i n l)) (λ (z : limit ≤ 0). rw (le-ltb 0 limit z)) (cases_lt 0 limit)) (cases_lt i n)

largest_arg : (k a r i : ℕ) → 8 ≤ i → i < 24 → largest k a r i ≡ cond {A = ℕ} (ltb 0 (arg_limit k) && ltb i (8 + 2 * a)) 255 0
largest_arg k a r i low high =
    let n4 : eqb i 4 ≡ false = ne_eqb i 4 (λ e. omega arith) in
    let n5 : eqb i 5 ≡ false = ne_eqb i 5 (λ e. omega arith) in
    let n6 : eqb i 6 ≡ false = ne_eqb i 6 (λ e. omega arith) in
    let n7 : eqb i 7 ≡ false = ne_eqb i 7 (λ e. omega arith) in
    rw (n4, n5, n6, n7, lt-ltb i 24 high)

largest_result : (k a r i : ℕ) → 24 ≤ i → largest k a r i ≡ cond {A = ℕ} (ltb 0 (result_limit k) && ltb i (24 + 2 * r)) 255 0
largest_result k a r i low =
    let n4 : eqb i 4 ≡ false = ne_eqb i 4 (λ e. omega arith) in
    let n5 : eqb i 5 ≡ false = ne_eqb i 5 (λ e. omega arith) in
    let n6 : eqb i 6 ≡ false = ne_eqb i 6 (λ e. omega arith) in
    let n7 : eqb i 7 ≡ false = ne_eqb i 7 (λ e. omega arith) in
    rw (n4, n5, n6, n7, le-ltb i 24 low)

front_zero : (k a r i : ℕ) → 4 ≤ i → i < 8 → (i ≡ 4 → k ≡ 3 → ⊥) → (i ≡ 5 → (k ≡ 4 → ⊥) × (k ≡ 5 → ⊥)) → (i ≡ 6 → (k ≡ 3 → ⊥) × (k ≡ 4 → ⊥)) → (i ≡ 7 → (k ≡ 3 → ⊥) × (k ≡ 5 → ⊥)) → largest k a r i ≡ 0
front_zero k a r i low high f4 f5 f6 f7 = elim (cases_eq i 4) [
  | inl e ↦ rw e (no_code k (f4 e))
  | inr n4 ↦ elim (cases_eq i 5) [
    | inl e ↦ rw e (no_port k (f5 e).0 (f5 e).1)
    | inr n5 ↦ elim (cases_eq i 6) [
      | inl e ↦ rw e (no_args k (f6 e).0 (f6 e).1)
      | inr n6 ↦ let e : i ≡ 7 = omega (arith, n4, n5, n6) in rw e (no_results k (f7 e).0 (f7 e).1)
    ]
  ]
]

cells_zero : (bs : List ℕ) (i : ℕ) → 8 ≤ i → i < 32 → (Uses bs i → ⊥) → largest (kind_of bs) (byte_at bs 6) (byte_at bs 7) i ≡ 0
cells_zero bs i low high unused =
    ⊎_elim
    (λ (l : i < 24). largest_arg (kind_of bs) (byte_at bs 6) (byte_at bs 7) i low l
    ∙ no_cell (arg_limit (kind_of bs)) (8 + 2 * byte_at bs 6) i (λ m. no_args (kind_of bs) (λ e. unused (arg_cell (inl e) low l m)) (λ e. unused (arg_cell (inr e) low l m))))
    (λ (l : 24 ≤ i). largest_result (kind_of bs) (byte_at bs 6) (byte_at bs 7) i l
    ∙ no_cell (result_limit (kind_of bs)) (24 + 2 * byte_at bs 7) i (λ m. no_results (kind_of bs) (λ e. unused (result_cell (inl e) l high m)) (λ e. unused (result_cell (inr e) l high m))))
    (cases_lt i 24)

most_unused : (bs : List ℕ) (i : ℕ) → 4 ≤ i → i < 32 → (Uses bs i → ⊥) → most bs i ≡ 0
unfolding most
most_unused bs i low high unused =
    ⊎_elim
    (λ (l : i < 8). front_zero (kind_of bs) (byte_at bs 6) (byte_at bs 7) i low l
    (λ e k. unused (subst (Uses bs) (sym e) (code k)))
    (λ e. (λ k. unused (subst (Uses bs) (sym e) (port (inl k))), λ k. unused (subst (Uses bs) (sym e) (port (inr k)))))
    (λ e. (λ k. unused (subst (Uses bs) (sym e) (arg_count (inl k))), λ k. unused (subst (Uses bs) (sym e) (arg_count (inr k)))))
    (λ e. (λ k. unused (subst (Uses bs) (sym e) (result_count (inl k))), λ k. unused (subst (Uses bs) (sym e) (result_count (inr k))))))
    (λ (l : 8 ≤ i). cells_zero bs i l high unused) (cases_lt i 8)

used_cell : (limit n i : ℕ) → 0 < limit → i < n → cond {A = ℕ} (ltb 0 limit && ltb i n) 255 0 ≡ 255
used_cell limit n i h l = rw (lt-ltb 0 limit h, lt-ltb i n l)

some_args : (k : ℕ) → (k ≡ 3) ⊎ (k ≡ 4) → 0 < arg_limit k
some_args k (inl e) = rw e (omega arith)
some_args k (inr e) = rw e (omega arith)

some_results : (k : ℕ) → (k ≡ 3) ⊎ (k ≡ 5) → 0 < result_limit k
some_results k (inl e) = rw e (omega arith)
some_results k (inr e) = rw e (omega arith)

any_port : (k : ℕ) → (k ≡ 4) ⊎ (k ≡ 5) → cond {A = ℕ} (takes_port k) 255 0 ≡ 255
any_port k (inl e) = rw e
any_port k (inr e) = rw e

most_used : (bs : List ℕ) (i : ℕ) → Uses bs i → (i ≡ 6 → ⊥) → (i ≡ 7 → ⊥) → most bs i ≡ 255
unfolding most
most_used bs i (code k) not6 not7 = rw k
most_used bs i (port k) not6 not7 = any_port (kind_of bs) k
most_used bs i (arg_count k) not6 not7 = absurd (not6 refl)
most_used bs i (result_count k) not6 not7 = absurd (not7 refl)
most_used bs i (arg_cell k low high l) not6 not7 =
    largest_arg (kind_of bs) (byte_at bs 6) (byte_at bs 7) i low high ∙ used_cell (arg_limit (kind_of bs)) (8 + 2 * byte_at bs 6) i (some_args (kind_of bs) k) l
most_used bs i (result_cell k low high l) not6 not7 =
    largest_result (kind_of bs) (byte_at bs 6) (byte_at bs 7) i low ∙ used_cell (result_limit (kind_of bs)) (24 + 2 * byte_at bs 7) i (some_results (kind_of bs) k) l

count_fault : (bs : List ℕ) (i limit : ℕ) → 4 ≤ i → i < 32 → most bs i ≡ limit → Fault bs i ↔ limit < byte_at bs i
count_fault bs i limit low high e = (λ f. omega (arith, f.2, e), λ over. (low, high, omega (arith, over, e)))

most_args : (bs : List ℕ) (k limit : ℕ) → kind_of bs ≡ k → arg_limit k ≡ limit → most bs 6 ≡ limit
unfolding most
most_args bs k limit e l = ap arg_limit e ∙ l

most_results : (bs : List ℕ) (k : ℕ) → kind_of bs ≡ k → result_limit k ≡ 4 → most bs 7 ≡ 4
unfolding most
most_results bs k e l = ap result_limit e ∙ l

pub shape_law : (bs : List ℕ) → Shaped bs
shape_law bs = record {
  unused = λ i low high fine. count_fault bs i 0 low high (most_unused bs i low high fine);
  instruct_args = λ k. count_fault bs 6 8 (omega arith) (omega arith) (most_args bs 3 8 k refl);
  send_args = λ k. count_fault bs 6 4 (omega arith) (omega arith) (most_args bs 4 4 k refl);
  results = λ k. count_fault bs 7 4 (omega arith) (omega arith) (⊎_elim (λ e. most_results bs 3 e refl) (λ e. most_results bs 5 e refl) k);
  used = λ i u not6 not7 byte f. omega (arith, f.2, most_used bs i u not6 not7, byte);
}

-- the order that the lowest byte at fault makes

fault_at : (bs : List ℕ) (i : ℕ) → 4 ≤ i → i < 32 → (Fault bs i → ⊥) → byte_at bs i ≤ most bs i
fault_at bs i low high fine = ⊎_elim (λ (over : most bs i < byte_at bs i). absurd (fine (low, high, over))) (λ (fits : byte_at bs i ≤ most bs i). fits) (cases_lt (most bs i) (byte_at bs i))

shaped_good : (bs : List ℕ) (i n : ℕ) (o : Order) → 4 ≤ i → i + n ≤ 32 → ((k : ℕ) → Fault bs k → ⊥) → shaped bs i n o ≡ o
shaped_good bs i zero o low high fine = refl
shaped_good bs i (suc n) o low high fine =
    rw (le-leb (byte_at bs i) (most bs i) (fault_at bs i low (omega arith) (fine i))) (shaped_good bs (suc i) n o (omega arith) (omega arith) fine)

shaped_bad : (bs : List ℕ) (i n j : ℕ) (o : Order) → 4 ≤ i → i + n ≤ 32 → i ≤ j → j < i + n → Lowest bs j → shaped bs i n o ≡ malformed 8 j
shaped_bad bs i zero j o low high from to lowest = absurd (omega arith)
shaped_bad bs i (suc n) j o low high from to lowest = elim (cases_eq i j) [
  | inl e ↦ rw (← e) (rw (lt-leb (byte_at bs i) (most bs i) (subst (λ x. most bs x < byte_at bs x) (sym e) lowest.0.2)))
  | inr d ↦ rw (le-leb (byte_at bs i) (most bs i) (fault_at bs i low (omega arith) (lowest.1 i (omega (arith, d)))))
      (shaped_bad bs (suc i) n j o (omega arith) (omega arith) (omega (arith, d)) (omega arith) lowest)
]

pub decoded_unknown : (bs : List ℕ) → known (kind_of bs) ≡ false → decoded bs ≡ malformed 7 3
unfolding decoded
decoded_unknown bs e = rw e

pub decoded_bad : (bs : List ℕ) (i : ℕ) → known (kind_of bs) ≡ true → Lowest bs i → decoded bs ≡ malformed 8 i
unfolding decoded
decoded_bad bs i e lowest = rw e (shaped_bad bs 4 28 i (asked bs) (omega arith) (omega arith) lowest.0.0 lowest.0.1 lowest)

pub decoded_good : (bs : List ℕ) → known (kind_of bs) ≡ true → ((k : ℕ) → Fault bs k → ⊥) → decoded bs ≡ asked bs
unfolding decoded
decoded_good bs e good = rw e (shaped_good bs 4 28 (asked bs) (omega arith) (omega arith) good)

pub ordered_whole : (bs : List ℕ) → length bs ≡ 32 → ordered bs ≡ decoded bs
ordered_whole bs e = rw (eq-eqb (length bs) 32 e)

pub ordered_short : (bs : List ℕ) → (length bs ≡ 32 → ⊥) → ordered bs ≡ malformed 1 0
ordered_short bs d = rw (ne_eqb (length bs) 32 d)
