-- Packed messages seen as elements: a queue changes as its elements do.
-- Assumes nothing.
use Rattle.std.proofs.Common.{◌≡◌, ℕ, ◌+◌, ◌<◌, ◌≤◌, min, cond, eqb, ltb, List, [], ◌∷◌, ◌++◌, map, length, get_or, drop, set, sym, refl, ap, ◌∙◌, ap₂, inl, inr, arith}
use Rattle.std.proofs.lemmas.List.{length-map, map_push, drop-map, map-set, get_or-map, get_or-set_same, get_or-set_other}
use Rattle.std.proofs.lemmas.Bool.{cases_eq, cases_lt, eq-eqb, ne_eqb, lt-ltb, le-ltb, cases_Bool}
use Rattle.element.specs.declared.words.Words.{Words}
use Rattle.queue.specs.Queue.{Queue, empty, appended, first, taken}
use Rattle.queue.specs.Packed.{messages_of, packed_at, queue_at, unpacked_by}
use Rattle.queue.specs.declared.port_queue.PortQueue.{PortQueue}
use Rattle.queue.specs.declared.queues.Queues.{Queues}

pub first_is : {E : Type 0} (q : List (List E)) → get_or q 0 [] ≡ first q
first_is [] = refl
first_is (m ∷ q) = refl

pub first_unpacked : {E : Type 0} (u : Words → E) (q : List (List Words)) → map u (first q) ≡ first (map (map u) q)
first_unpacked u [] = refl
first_unpacked u (m ∷ q) = refl

pub unpack_all : {W E : Type 0} (p : E → W) (u : W → E) → ((x : E) → u (p x) ≡ x) → (xs : List E) → map u (map p xs) ≡ xs
unpack_all p u r [] = refl
unpack_all p u r (x ∷ xs) = ap₂ (λ (a : _) (b : List _). a ∷ b) (r x) (unpack_all p u r xs)

pub unpacked_appended : {E : Type 0} (u : Words → E) (ws : List Words) (q : Queue Words) → unpacked_by u (appended ws q) ≡ appended (map u ws) (unpacked_by u q)
unpacked_appended {E = E} u ws q =
    elim (cases_Bool (ltb (length q.messages) 8)) [
      | inl t ↦ rw (length-map q.messages (map u), t)
          (ap (λ (ms : List (List E)). record { messages = ms; missed = q.missed }) (map_push (map u) q.messages ws))
      | inr f ↦ rw (length-map q.messages (map u), f)
          (ap (λ (ms : List (List E)). record { messages = ms; missed = min 255 (q.missed + 1) })
          (map_push (map u) (drop 1 q.messages) ws ∙ ap (λ (ms : List (List E)). ms ++ (map u ws ∷ [])) (sym (drop-map (map u) 1 q.messages))))
    ]

pub unpacked_taken : {E : Type 0} (u : Words → E) (q : Queue Words) → unpacked_by u (taken q) ≡ taken (unpacked_by u q)
unpacked_taken {E = E} u q = ap (λ (ms : List (List E)). record { messages = ms; missed = 0 }) (sym (drop-map (map u) 1 q.messages))

queue_is : (qs : List PortQueue) (i : ℕ) (d : PortQueue) → i < length qs → messages_of (get_or qs i d) ≡ get_or (map messages_of qs) i empty
queue_is qs i d h = sym (get_or-map messages_of qs i d empty h)

-- one queue of an array is changed, seen as elements
changed_one : {E : Type 0} (u : Words → E) (qs : List PortQueue) (i : ℕ) (q : PortQueue) (f : Queue Words → Queue Words) (g : Queue E → Queue E) → i < length qs →
    messages_of q ≡ f (get_or (map messages_of qs) i empty) → ((o : Queue Words) → unpacked_by u (f o) ≡ g (unpacked_by u o)) →
    (x : ℕ) → unpacked_by u (get_or (map messages_of (set qs i q)) x empty) ≡
    cond (eqb x i) (g (unpacked_by u (get_or (map messages_of qs) x empty))) (unpacked_by u (get_or (map messages_of qs) x empty))
changed_one u qs i q f g h e k x =
    let l : i < length (map messages_of qs) = rw (length-map qs messages_of) h in
    ap (λ (os : List (Queue Words)). unpacked_by u (get_or os x empty)) (map-set messages_of qs i q) ∙
    elim (cases_eq x i) [
      | inl d ↦ rw (eq-eqb x i d)
          (ap (λ (y : ℕ). unpacked_by u (get_or (set (map messages_of qs) i (messages_of q)) y empty)) d
          ∙ (ap (unpacked_by u) (get_or-set_same (map messages_of qs) i (messages_of q) empty l ∙ e)
          ∙ (k (get_or (map messages_of qs) i empty) ∙ ap (λ (y : ℕ). g (unpacked_by u (get_or (map messages_of qs) y empty))) (sym d))))
      | inr d ↦ rw (ne_eqb x i d) (ap (unpacked_by u) (get_or-set_other (map messages_of qs) i x (messages_of q) empty d))
    ]

pub queue_at_lem : (Q : Queues) (i : ℕ) (d : PortQueue) → i < 16 → i < length Q.queues → messages_of (get_or Q.queues i d) ≡ packed_at Q i
queue_at_lem Q i d l h = queue_is Q.queues i d h ∙ rw (lt-ltb i 16 l)

pub queue_past : {E : Type 0} (u : Words → E) (Q : Queues) (i : ℕ) → 16 ≤ i → queue_at u Q i ≡ empty
queue_past u Q i l = rw (le-ltb i 16 l)

pub changed : {E : Type 0} (u : Words → E) (Q : Queues) (i : ℕ) (q : PortQueue) (f : Queue Words → Queue Words) (g : Queue E → Queue E) → i < 16 → i < length Q.queues →
    messages_of q ≡ f (packed_at Q i) → ((o : Queue Words) → unpacked_by u (f o) ≡ g (unpacked_by u o)) →
    (x : ℕ) → queue_at u (record { queues = set Q.queues i q }) x ≡ cond (eqb x i) (g (queue_at u Q x)) (queue_at u Q x)
changed u Q i q f g l h e k x =
    elim (cases_lt x 16) [
      | inl y ↦ rw (lt-ltb x 16 y) (changed_one u Q.queues i q f g h (rw (lt-ltb i 16 l) at e) k x)
      | inr y ↦ let d : x ≡ i → ⊥ = λ z. omega arith in rw (le-ltb x 16 y, ne_eqb x i d)
    ]
