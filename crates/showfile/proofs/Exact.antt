-- Each outcome of opening a file comes exactly under its condition. Assumes nothing.
use Rattle.std.proofs.Common.{◌≡◌, ℕ, ◌<◌, ◌≤◌, List, [], ◌∷◌, Ok, Err, Result, sym, refl, ap, ◌∙◌, subst, arith}
use Rattle.showfile.specs.Chain.{records, next_of, Reaches, here, onward, Chain, ends, goes, Leaves, NeverZero, Sized, Clean}
use Rattle.showfile.specs.Opening.{rest, Opened, Cases}
use Rattle.showfile.specs.declared.file.ShowFile.{ShowFile}
use Rattle.showfile.specs.declared.refusal.FileRefusal.{FileRefusal}
use Rattle.showfile.specs.declared.refusal.FileRefusal.TheVariants.{Length, Head, Outside, Endless}

-- two chains from one record are one
same_chain : (bs : List ℕ) (i : ℕ) (ps qs : List ℕ) → Chain bs i ps → Chain bs i qs → ps ≡ qs
same_chain bs i [] [] (ends z) (ends y) = refl
same_chain bs i [] (k ∷ qs) (ends z) (goes is l d) = absurd (omega (arith, l.0))
same_chain bs i (j ∷ ps) [] (goes is l c) (ends y) = absurd (omega (arith, l.0))
same_chain bs i (j ∷ ps) (k ∷ qs) (goes is l c) (goes other m d) =
    let e : k ≡ j = sym other ∙ is in
    let t = same_chain bs j ps qs c (subst (λ x. Chain bs x qs) e d) in
    ap (λ x. x ∷ ps) (sym e) ∙ ap (λ xs. k ∷ xs) t

-- a record of a chain that ends has the index of a record, or zero
chain_inside : (bs : List ℕ) (i r : ℕ) (ps : List ℕ) → 0 < records bs → Chain bs i ps → Reaches bs i r → next_of bs r < records bs
chain_inside bs i r [] some (ends z) here = omega arith
chain_inside bs i r [] some (ends z) (onward is l on) = absurd (omega (arith, l.0))
chain_inside bs i r (j ∷ ps) some (goes is l c) here = omega (arith, l.1)
chain_inside bs i r (j ∷ ps) some (goes is l c) (onward other m on) =
    chain_inside bs j r ps some c (subst (λ x. Reaches bs x r) (sym other ∙ is) on)

-- and one of its records has zero
chain_stops : (bs : List ℕ) (i : ℕ) (ps : List ℕ) → Chain bs i ps → (r : ℕ) × Reaches bs i r × (next_of bs r ≡ 0)
chain_stops bs i [] (ends z) = (i, here, z)
chain_stops bs i (j ∷ ps) (goes is l c) = let s = chain_stops bs j ps c in (s.0, onward is l s.1, s.2)

-- a chain leaves the file at one record only
one_exit : (bs : List ℕ) (i r q : ℕ) → Reaches bs i r → records bs ≤ next_of bs r → Reaches bs i q → records bs ≤ next_of bs q → r ≡ q
one_exit bs i r q here a here b = refl
one_exit bs i r q here a (onward is l on) b = absurd (omega (arith, l.1))
one_exit bs i r q (onward is l on) a here b = absurd (omega (arith, l.1))
one_exit bs i r q (onward is l on) a (onward other m up) b = one_exit bs _ r q on a (subst (λ x. Reaches bs x q) (sym other ∙ is) up) b

some_records : (bs : List ℕ) → Sized bs → 0 < records bs
some_records bs h = omega (arith, h.0, h.2)

ended_stays : (bs : List ℕ) (ps : List ℕ) (x : ℕ) → Sized bs → Chain bs 0 ps → Leaves bs 0 x → ⊥
ended_stays bs ps x s c l = omega (arith, chain_inside bs 0 x ps (some_records bs s) c l.0, l.1)

ended_ends : (bs : List ℕ) (ps : List ℕ) → Chain bs 0 ps → NeverZero bs 0 → ⊥
ended_ends bs ps c never = let s = chain_stops bs 0 ps c in never s.0 s.1 s.2

pub exactly : (bs : List ℕ) (r : Result ShowFile FileRefusal) → Cases bs r → Opened bs r
exactly bs (Ok f) h = record {
  bad_length = (λ e. let z : ◌≡◌ {A = ℕ} 0 1 = cc in absurd (omega arith), λ no_size. absurd (no_size h.0));
  bad_head = (λ e. let z : ◌≡◌ {A = ℕ} 0 1 = cc in absurd (omega arith), λ k. absurd (k.1 h.1));
  outside = λ x. (λ e. let z : ◌≡◌ {A = ℕ} 0 1 = cc in absurd (omega arith), λ k. absurd (ended_stays bs (rest f) x h.0 h.3 k.2));
  endless = (λ e. let z : ◌≡◌ {A = ℕ} 0 1 = cc in absurd (omega arith), λ k. absurd (ended_ends bs (rest f) h.3 k.3));
  chained = λ g e. let same : f ≡ g = cc in subst (λ y. (y.bytes.now ≡ bs) × Chain bs 0 (rest y)) same (h.2, h.3);
  accepts = λ ps k. (f, refl, same_chain bs 0 (rest f) ps h.3 k.2);
}
exactly bs (Err Length) h = record {
  bad_length = (λ e. h, λ k. refl);
  bad_head = (λ e. let z : ◌≡◌ {A = ℕ} 0 1 = cc in absurd (omega arith), λ k. absurd (h k.0));
  outside = λ x. (λ e. let z : ◌≡◌ {A = ℕ} 0 1 = cc in absurd (omega arith), λ k. absurd (h k.0));
  endless = (λ e. let z : ◌≡◌ {A = ℕ} 0 1 = cc in absurd (omega arith), λ k. absurd (h k.0));
  chained = λ g e. let z : ◌≡◌ {A = ℕ} 0 1 = cc in absurd (omega arith);
  accepts = λ ps k. absurd (h k.0);
}
exactly bs (Err Head) h = record {
  bad_length = (λ e. let z : ◌≡◌ {A = ℕ} 0 1 = cc in absurd (omega arith), λ k. absurd (k h.0));
  bad_head = (λ e. h, λ k. refl);
  outside = λ x. (λ e. let z : ◌≡◌ {A = ℕ} 0 1 = cc in absurd (omega arith), λ k. absurd (h.1 k.1));
  endless = (λ e. let z : ◌≡◌ {A = ℕ} 0 1 = cc in absurd (omega arith), λ k. absurd (h.1 k.1));
  chained = λ g e. let z : ◌≡◌ {A = ℕ} 0 1 = cc in absurd (omega arith);
  accepts = λ ps k. absurd (h.1 k.1);
}
exactly bs (Err (Outside y)) h = record {
  bad_length = (λ e. let z : ◌≡◌ {A = ℕ} 0 1 = cc in absurd (omega arith), λ k. absurd (k h.0));
  bad_head = (λ e. let z : ◌≡◌ {A = ℕ} 0 1 = cc in absurd (omega arith), λ k. absurd (k.1 h.1));
  outside = λ x. (λ e. let same : y ≡ x = cc in subst (λ q. Sized bs × Clean bs × Leaves bs 0 q) same h, λ k. ap (λ q. Err (Outside q)) (one_exit bs 0 y x h.2.0 h.2.1 k.2.0 k.2.1));
  endless = (λ e. let z : ◌≡◌ {A = ℕ} 0 1 = cc in absurd (omega arith), λ k. absurd (k.2 y h.2));
  chained = λ g e. let z : ◌≡◌ {A = ℕ} 0 1 = cc in absurd (omega arith);
  accepts = λ ps k. absurd (ended_stays bs ps y h.0 k.2 h.2);
}
exactly bs (Err Endless) h = record {
  bad_length = (λ e. let z : ◌≡◌ {A = ℕ} 0 1 = cc in absurd (omega arith), λ k. absurd (k h.0));
  bad_head = (λ e. let z : ◌≡◌ {A = ℕ} 0 1 = cc in absurd (omega arith), λ k. absurd (k.1 h.1));
  outside = λ x. (λ e. let z : ◌≡◌ {A = ℕ} 0 1 = cc in absurd (omega arith), λ k. absurd (h.2 x k.2));
  endless = (λ e. h, λ k. refl);
  chained = λ g e. let z : ◌≡◌ {A = ℕ} 0 1 = cc in absurd (omega arith);
  accepts = λ ps k. absurd (ended_ends bs ps k.2 h.3);
}
