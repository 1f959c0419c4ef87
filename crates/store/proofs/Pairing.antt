-- Elements in words, two words each.
use Rattle.std.proofs.Common.{◌≡◌, ℕ, zero, suc, ◌+◌, ◌*◌, ◌/◌, ◌<◌, List, [], ◌∷◌, map, length, get_or, set, Ok, sym, refl, ap, ◌∙◌, arith}
use Rattle.std.proofs.lemmas.List.{length-map, get_or-map}
use Rattle.std.specs.Simd.{first_chunks}
use Rattle.element.specs.Pairs.{pair}
use Rattle.element.specs.declared.words.Words.{Words}
use Rattle.store.specs.Meaning.{element}
use Rattle.store.specs.Packing.{elements}
use Rattle.store.proofs.Within.{element_within}

-- 2n, as a recursion on lists steps it
twice : ℕ → ℕ
twice zero = zero
twice (suc n) = suc (suc (twice n))

twice_is : (n : ℕ) → twice n ≡ 2 * n
unfolding twice
twice_is zero = refl
twice_is (suc n) = let h = twice_is n in omega arith

twice_next : (n : ℕ) → suc (twice n) ≡ 2 * n + 1
twice_next n = let h = twice_is n in omega arith

module _ {E : Type 0} (u : Words → E) where
  pub length-elements : (ws : List ℕ) → length (elements u ws) ≡ length ws / 2
  length-elements [] = refl
  length-elements (a ∷ []) = refl
  length-elements (a ∷ (b ∷ ws)) = let h = length-elements ws in omega arith

  -- the element of a pair of words
  abbrev pub of_pair : List ℕ → E
  of_pair c = u (pair (get_or c 0 0) (get_or c 1 0))

  pub elements_pairs : (ws : List ℕ) (k : ℕ) → length ws / 2 ≡ k → elements u ws ≡ map of_pair (first_chunks 2 k ws)
  elements_pairs [] zero h = refl
  elements_pairs [] (suc k) h = absurd (omega arith)
  elements_pairs (a ∷ []) zero h = refl
  elements_pairs (a ∷ []) (suc k) h = absurd (omega arith)
  elements_pairs (a ∷ (b ∷ ws)) zero h = absurd (omega arith)
  elements_pairs (a ∷ (b ∷ ws)) (suc k) h = ap (λ (t : List E). u (pair a b) ∷ t) (elements_pairs ws k (omega arith))

  -- a cell is the element of its pair
  pub element_pair : (ws : List ℕ) (cs : List (List ℕ)) (n : ℕ) (c : List ℕ) → cs ≡ first_chunks 2 (length ws / 2) ws → n < length cs → c ≡ get_or cs n c →
      element (elements u ws) n ≡ Ok (of_pair c)
  element_pair ws cs n c e h q =
      let k : n < length (map of_pair cs) = rw (length-map cs of_pair) h in
      ap (λ (xs : List E). element xs n) (elements_pairs ws (length ws / 2) refl ∙ ap (map of_pair) (sym e))
      ∙ (element_within (map of_pair cs) n (of_pair c) k ∙ ap Ok (get_or-map of_pair cs n c (of_pair c) h ∙ ap of_pair (sym q)))

  set_twice : (ws : List ℕ) (n a b : ℕ) → n < length (elements u ws) → elements u (set (set ws (twice n) a) (suc (twice n)) b) ≡ set (elements u ws) n (u (pair a b))
  unfolding twice
  set_twice [] n a b h = absurd (omega arith)
  set_twice (v ∷ []) n a b h = absurd (omega arith)
  set_twice (v ∷ (w ∷ ws)) zero a b h = refl
  set_twice (v ∷ (w ∷ ws)) (suc n) a b h = ap (λ t. u (pair v w) ∷ t) (set_twice ws n a b (omega arith))

  pub set_elements : (ws : List ℕ) (n a b : ℕ) → n < length ws / 2 → elements u (set (set ws (2 * n) a) (2 * n + 1) b) ≡ set (elements u ws) n (u (pair a b))
  set_elements ws n a b h = rw (← twice_next n, ← twice_is n) (set_twice ws n a b (omega (arith, length-elements ws)))
