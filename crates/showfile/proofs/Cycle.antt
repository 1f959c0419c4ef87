-- Chains by place: a chain that goes on for as many records as the file has never ends. Assumes nothing.
use Rattle.std.proofs.Common.{◌≡◌, ℕ, zero, suc, ◌+◌, ◌-◌, ◌<◌, ◌≤◌, cond, eqb, ◌⊎◌, List, length, sym, refl, ap, ◌∙◌, subst, inl, inr, ⊎_elim, suc-le-suc, zero-le, add-zero, add-suc, add-one, arith, below_none, below_more}
use Rattle.std.proofs.lemmas.Bool.{cases_lt}
use Rattle.std.proofs.lemmas.Bool.Decides.{nat_tests}
use Rattle.showfile.specs.Chain.{records, next_of, Link, Reaches, here, onward, Chain, ends, goes, Stays, NeverZero, links}

-- the chain that starts at record i: its nth index
abbrev pub place : List ℕ → ℕ → ℕ → ℕ
place bs i zero = i
place bs i (suc n) = next_of bs (place bs i n)

-- the chain from record i goes on for n records at least
abbrev pub Goes : List ℕ → ℕ → ℕ → Type 0
Goes bs i n = (k : ℕ) → k < n → Link bs (place bs i (suc k))

-- f with v in the place of m
abbrev without : (ℕ → ℕ) → ℕ → ℕ → ℕ → ℕ
without f m v k = cond (eqb (f k) m) v (f k)

below : (f : ℕ → ℕ) (m v k : ℕ) → f k < suc m → (f k ≡ v → ⊥) → v < suc m → without f m v k < m
below f m v k h d l = grind (arith, nat_tests)

differ : (f : ℕ → ℕ) (m v a b : ℕ) → (f a ≡ f b → ⊥) → (f a ≡ v → ⊥) → (f b ≡ v → ⊥) → without f m v a ≡ without f m v b → ⊥
differ f m v a b d da db e = grind (arith, nat_tests)

-- no more than m numbers below m, each unlike the others
pigeonhole : (m n : ℕ) (f : ℕ → ℕ) → ((k : ℕ) → k < n → f k < m) → ((a b : ℕ) → a < b → b < n → f a ≡ f b → ⊥) → n ≤ m
pigeonhole zero n f low apart = ⊎_elim (λ some. absurd (omega (arith, low 0 some))) (λ none. none) (cases_lt 0 n)
pigeonhole (suc m) zero f low apart = zero-le
pigeonhole (suc m) (suc n) f low apart =
    suc-le-suc (pigeonhole m n (without f m (f n))
    (λ k h. below f m (f n) k (low k (omega arith)) (apart k n h (omega arith)) (low n (omega arith)))
    (λ a b h k. differ f m (f n) a b (apart a b h (omega arith)) (apart a n (omega arith) (omega arith)) (apart b n k (omega arith))))

-- from equal places the chain goes the same way
same_way : (bs : List ℕ) (i a b : ℕ) → place bs i a ≡ place bs i b → (d : ℕ) → place bs i (a + d) ≡ place bs i (b + d)
same_way bs i a b e zero = ap (place bs i) (add-zero a) ∙ e ∙ sym (ap (place bs i) (add-zero b))
same_way bs i a b e (suc d) = ap (place bs i) (add-suc a d) ∙ ap (next_of bs) (same_way bs i a b e d) ∙ sym (ap (place bs i) (add-suc b d))

-- a chain that stops does so within as many records as the file has
stops_early : (bs : List ℕ) (i n : ℕ) → i < records bs → Goes bs i n → (Link bs (place bs i (suc n)) → ⊥) → n < records bs
stops_early bs i n inside far stops = pigeonhole (records bs) (suc n) (place bs i) low apart
  where
    low : (k : ℕ) → k < suc n → place bs i k < records bs
    low zero h = inside
    low (suc k) h = (far k (omega arith)).1

    apart : (a b : ℕ) → a < b → b < suc n → place bs i a ≡ place bs i b → ⊥
    apart a b h l e =
        let d : ℕ = suc n - b in
        let ahead : a + d ≡ suc (a + (n - b)) = omega arith in
        let near : b + d ≡ suc n = omega arith in
        stops (subst (λ k. Link bs (place bs i k)) near (subst (Link bs) (same_way bs i a b e d) (subst (λ k. Link bs (place bs i k)) (sym ahead) (far (a + (n - b)) (omega arith)))))

link? : (bs : List ℕ) (x : ℕ) → Link bs x ⊎ (Link bs x → ⊥)
link? bs x = ⊎_elim (λ p. ⊎_elim (λ q. inl (p, q)) (λ q. inr (λ l. omega (arith, l.1))) (cases_lt x (records bs))) (λ p. inr (λ l. omega (arith, l.0))) (cases_lt 0 x)

-- so one that goes on for that many always goes on
always : (bs : List ℕ) (i : ℕ) → i < records bs → Goes bs i (records bs) → (n : ℕ) → Link bs (place bs i (suc n))
always bs i inside full n = at n (all n)
  where
    at : (n : ℕ) → Goes bs i n → Link bs (place bs i (suc n))
    at n far = ⊎_elim (λ l. l) (λ no-link. full n (stops_early bs i n inside far no-link)) (link? bs (place bs i (suc n)))

    all : (n : ℕ) → Goes bs i n
    all zero = below_none _
    all (suc n) = subst (Goes bs i) (add-one n) (below_more _ n (all n) (at n (all n)))

place_front : (bs : List ℕ) (i n : ℕ) → place bs (next_of bs i) n ≡ place bs i (suc n)
place_front bs i zero = refl
place_front bs i (suc n) = ap (next_of bs) (place_front bs i n)

-- one record further
reaches_next : (bs : List ℕ) (i r j : ℕ) → Reaches bs i r → next_of bs r ≡ j → Link bs j → Reaches bs i j
reaches_next bs i r j here e l = onward e l here
reaches_next bs i r j (onward is k rest) e l = onward is k (reaches_next bs _ r j rest e l)

-- a place on the chain is a record that it reaches, and the other way round
pub reaches_place : (bs : List ℕ) (i n : ℕ) → Goes bs i n → Reaches bs i (place bs i n)
reaches_place bs i zero far = here
reaches_place bs i (suc n) far = reaches_next bs i (place bs i n) _ (reaches_place bs i n (λ k h. far k (omega arith))) refl (far n (omega arith))

place_reaches : (bs : List ℕ) (i r : ℕ) → Reaches bs i r → (n : ℕ) × (r ≡ place bs i n)
place_reaches bs i r here = (0, refl)
place_reaches bs i r (onward is l rest) =
    let p = place_reaches bs _ r rest in
    (suc p.0, p.1 ∙ ap (λ j. place bs j p.0) (sym is) ∙ place_front bs i p.0)

onwards : (bs : List ℕ) (i : ℕ) → i < records bs → Goes bs i (records bs) → (r : ℕ) → Reaches bs i r → Link bs (next_of bs r)
onwards bs i inside full r reached =
    let p = place_reaches bs i r reached in
    subst (λ x. Link bs (next_of bs x)) (sym p.1) (always bs i inside full p.0)

pub endless : (bs : List ℕ) (i : ℕ) → i < records bs → Goes bs i (records bs) → Stays bs i × NeverZero bs i
endless bs i inside full =
    (λ r l. omega (arith, (onwards bs i inside full r l.0).1, l.1), λ r reached z. omega (arith, (onwards bs i inside full r reached).0, z))

pub chain_links : (bs : List ℕ) (i n : ℕ) → Goes bs i n → place bs i (suc n) ≡ 0 → Chain bs i (links bs i n)
chain_links bs i zero far stop = ends stop
chain_links bs i (suc n) far stop =
    goes refl (far 0 (omega arith))
    (chain_links bs (next_of bs i) n (λ k h. subst (Link bs) (sym (place_front bs i (suc k))) (far (suc k) (omega arith))) (place_front bs i (suc n) ∙ stop))

pub length-links : (bs : List ℕ) (i n : ℕ) → length (links bs i n) ≡ n
length-links bs i zero = refl
length-links bs i (suc n) = ap suc (length-links bs (next_of bs i) n)
