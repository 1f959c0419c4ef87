-- The theorem put together, over whole histories and for one request after a history. Assumes nothing.
use Rattle.std.proofs.Common.{◌≡◌, ℕ, ◌<◌, Bool, true, cond, List, [], ◌∷◌, ◌++◌, sym, refl, ap, ◌∙◌, arith}
use Rattle.std.proofs.lemmas.Grind.{common_steps}
use Rattle.port.proofs.Upstream.{smallest}
use Rattle.isolation.specs.Making.{Making, Exclusive, upstream_of, SmallestOf}
use Rattle.isolation.specs.Request.{Request, granted, Entry, entry, Step}
use Rattle.isolation.specs.Machine.{made, step}
use Rattle.isolation.specs.Boxes.{separate, box_step}
use Rattle.isolation.specs.History.{log_of, after_all, machine_log, box_log, answer_after, box_answer_after, is_left, purge, kept, left}
use Rattle.isolation.specs.Isolation.{Isolated, IsolatedAnswer}
use Rattle.isolation.proofs.Simulate.{as_boxes}
use Rattle.isolation.proofs.Purge.{alone}

upstreams : {E : Type 0} (k : Making E) (p : ℕ) → p < k.parts → SmallestOf k p (upstream_of k p)
upstreams k p l = smallest k.parts k.sends k.receives p l

-- one request more
last_same : {V : Type 0} (xs ys : List V) (x y : V) → xs ++ (x ∷ []) ≡ ys ++ (y ∷ []) → x ≡ y
last_same xs ys x y e = grind (arith, common_steps)

pub log_push : {E S : Type 0} (f : Request → S → Step E S) (s : S) (h : List Request) (c : Request) →
    log_of f s (h ++ (c ∷ [])) ≡ log_of f s h ++ (entry c (f c (after_all f s h)).answer ∷ [])
log_push f s [] c = refl
log_push f s (b ∷ h) c = ap (λ (t : List _). entry b (f b s).answer ∷ t) (log_push f (f b s).after h c)

pub after_push : {E S : Type 0} (f : Request → S → Step E S) (s : S) (h : List Request) (c : Request) →
    after_all f s (h ++ (c ∷ [])) ≡ (f c (after_all f s h)).after
after_push f s [] c = refl
after_push f s (b ∷ h) c = after_push f (f b s).after h c

cond_push : {V : Type 0} (b : Bool) (x : V) (xs ys : List V) → cond b (x ∷ (xs ++ ys)) (xs ++ ys) ≡ cond b (x ∷ xs) xs ++ ys
cond_push b x xs ys = grind (arith, common_steps)

purge_push : {E S : Type 0} (k : Making E) (u : ℕ → Bool) (f : Request → S → Step E S) (s : S) (h : List Request) (c : Request) (e : Entry E) →
    is_left k u c e.answer ≡ true → purge k u (h ++ (c ∷ [])) (log_of f s h ++ (e ∷ [])) ≡ purge k u h (log_of f s h) ++ (c ∷ [])
purge_push k u f s [] c e t = rw t
purge_push k u f s (b ∷ h) c e t = rw (purge_push k u f (f b s).after h c e t) (cond_push (is_left k u b (f b s).answer) b _ _)

kept_push : {E S : Type 0} (k : Making E) (u : ℕ → Bool) (f : Request → S → Step E S) (s : S) (h : List Request) (c : Request) (e : Entry E) →
    is_left k u c e.answer ≡ true → kept k u (h ++ (c ∷ [])) (log_of f s h ++ (e ∷ [])) ≡ kept k u h (log_of f s h) ++ (e ∷ [])
kept_push k u f s [] c e t = rw t
kept_push k u f s (b ∷ h) c e t = rw (kept_push k u f (f b s).after h c e t) (cond_push (is_left k u b (f b s).answer) _ _ _)

-- (a) for one request
same_answer : {E : Type 0} (k : Making E) → Exclusive k → (h : List Request) (c : Request) → answer_after k h c ≡ box_answer_after k h c
same_answer k ex h c =
    ap (λ (e : Entry _). e.answer)
    (last_same (machine_log k h) (box_log k h) (entry c (answer_after k h c)) (entry c (box_answer_after k h c))
    (sym (log_push (step k) (made k) h c) ∙ (as_boxes k ex (h ++ (c ∷ [])) ∙ log_push (box_step k) (separate k) h c)))

pub isolated : {E : Type 0} (k : Making E) → Exclusive k → Isolated k
isolated k ex = record {
  work = λ h c t. same_answer k ex h c;
  turns = λ h c t. ap granted (same_answer k ex h c);
  logs = as_boxes k ex;
  alone = λ p l h. alone k ex p (upstream_of k p) (upstreams k p l).closed h;
  upstream = upstreams k;
}

-- (b) for one request
alone_answer : {E : Type 0} (k : Making E) → Exclusive k → (h : List Request) (c : Request) (p : ℕ) → p < k.parts →
    is_left k (upstream_of k p) c (answer_after k h c) ≡ true → answer_after k h c ≡ answer_after k (left k p h) c
alone_answer k ex h c p l t =
    let u = upstream_of k p in
    let e = entry c (answer_after k h c) in
    let m : machine_log k (h ++ (c ∷ [])) ≡ machine_log k h ++ (e ∷ []) = log_push (step k) (made k) h c in
    let a = (isolated k ex).alone p l (h ++ (c ∷ [])) in
    let b : machine_log k (purge k u (h ++ (c ∷ [])) (machine_log k h ++ (e ∷ []))) ≡ kept k u (h ++ (c ∷ [])) (machine_log k h ++ (e ∷ [])) = rw m at a in
    let d : machine_log k (left k p h ++ (c ∷ [])) ≡ kept k u h (machine_log k h) ++ (e ∷ []) =
    ap (machine_log k) (sym (purge_push k u (step k) (made k) h c e t)) ∙ (b ∙ kept_push k u (step k) (made k) h c e t) in
    sym (ap (λ (x : Entry _). x.answer)
    (last_same (machine_log k (left k p h)) (kept k u h (machine_log k h)) (entry c (answer_after k (left k p h) c)) e
    (sym (log_push (step k) (made k) (left k p h) c) ∙ d)))

pub isolated_answer : {E : Type 0} (k : Making E) → Exclusive k → (h : List Request) (c : Request) → IsolatedAnswer k h c (answer_after k h c)
isolated_answer k ex h c = record { boxes = same_answer k ex h c; alone = alone_answer k ex h c; upstream = upstreams k }
