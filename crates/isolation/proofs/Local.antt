-- Work depends on the cells that its part may touch and the ports that it may receive from, and changes no other cell
-- and no port of which the part is neither sender nor receiver.
-- Assumes nothing.
use Rattle.std.proofs.Common.{◌≡◌, ℕ, ◌<◌, Bool, true, false, ◌||◌, eqb, ltb, List, [], ◌∷◌, map, refl, ap, ◌∙◌, ap₂, arith}
use Rattle.std.proofs.lemmas.Bool.{cond-false, and_parts, or_left}
use Rattle.part.specs.Sets.{bit}
use Rattle.cells.specs.Cells.{member, beside}
use Rattle.queue.specs.Queue.{Queue, appended, first, taken}
use Rattle.command.specs.Order.{Work, instruct, send, receive}
use Rattle.isolation.specs.Making.{Making, Outcome, fault, gives}
use Rattle.isolation.specs.Request.{done}
use Rattle.isolation.specs.Check.{pass, may, readable, writable, touchable, sender, receiver}
use Rattle.isolation.specs.Effect.{put, Effect, settle, effect}
use Rattle.isolation.proofs.Tables.{cond_two, change_there}
use Rattle.isolation.proofs.Checks.{when_pass, Every, each_pass}

-- reading and writing
map_alike : {E : Type 0} (g : ℕ → Bool) (m m' : ℕ → E) (ns : List ℕ) → Every g ns → ((n : ℕ) → g n ≡ true → m n ≡ m' n) → map m ns ≡ map m' ns
map_alike g m m' [] h a = refl
map_alike g m m' (n ∷ ns) h a = ap₂ ◌∷◌ (a n h.0) (map_alike g m m' ns h.1 a)

put_alike : {E : Type 0} (z : E) (ns : List ℕ) (vs : List E) (m m' : ℕ → E) (n : ℕ) → m n ≡ m' n → put z ns vs m n ≡ put z ns vs m' n
put_alike z ns vs m m' n e = cond_two (member ns n) refl e

unnamed : (g : ℕ → Bool) (ns : List ℕ) (n : ℕ) → Every g ns → g n ≡ false → member ns n ≡ false
unnamed g [] n h f = refl
unnamed g (i ∷ ns) n h f = grind (arith, h.0, unnamed g ns n h.1 f)

put_frame : {E : Type 0} (g : ℕ → Bool) (z : E) (ns : List ℕ) (vs : List E) (m : ℕ → E) (n : ℕ) → Every g ns → g n ≡ false → put z ns vs m n ≡ m n
put_frame g z ns vs m n h f = cond-false (member ns n) (beside z ns vs n) (m n) (unnamed g ns n h f)

-- two tables agree on the cells that part p may touch
abbrev pub Agree : {E : Type 0} → Making E → ℕ → (ℕ → E) → (ℕ → E) → Type 0
Agree k p m m' = (n : ℕ) → touchable k p n ≡ true → m n ≡ m' n

-- two effects agree for part p, and on the ports of Y
pub record SameEffect {E : Type 0} (k : Making E) (p : ℕ) (Y : ℕ → Type 0) (e e' : Effect E) : Type 0 where
  pub answer : e.answer ≡ e'.answer
  pub cells : Agree k p e.cells e'.cells
  pub queues : (y : ℕ) → Y y → e.queues y ≡ e'.queues y

settle_alike : {E : Type 0} (k : Making E) (p : ℕ) (Y : ℕ → Type 0) (z : E) (x : Outcome E) (rs : List ℕ) (m m' : ℕ → E) (o o' : ℕ → Queue E) →
    Agree k p m m' → ((y : ℕ) → Y y → o y ≡ o' y) → SameEffect k p Y (settle z x rs m o) (settle z x rs m' o')
settle_alike k p Y z (fault f) rs m m' o o' a b = record { answer = refl; cells = a; queues = b }
settle_alike k p Y z (gives vs) rs m m' o o' a b = record { answer = refl; cells = λ n t. put_alike z rs vs m m' n (a n t); queues = b }

-- work that passed, on cells that agree where its part may touch them and on queues that agree where it may receive
pub same_effect : {E : Type 0} (k : Making E) (p : ℕ) (Y : ℕ → Type 0) → ((y : ℕ) → receiver k p y ≡ true → Y y) →
    (w : Work) → may k p w ≡ pass → (m m' : ℕ → E) (o o' : ℕ → Queue E) →
    Agree k p m m' → ((y : ℕ) → Y y → o y ≡ o' y) → SameEffect k p Y (effect k w m o) (effect k w m' o')
same_effect k p Y hears (instruct c ns rs) h m m' o o' a b =
    let e : map m ns ≡ map m' ns = map_alike (readable k p) m m' ns (each_pass (readable k p) 0 ns _ h).0 (λ n r. a n (or_left (readable k p n) (writable k p n) r)) in
    rw e (settle_alike k p Y k.null (k.set c (map m' ns)) rs m m' o o' a b)
same_effect k p Y hears (send x ns) h m m' o o' a b =
    let g = when_pass (sender k p x) _ _ _ h in
    let e : map m ns ≡ map m' ns = map_alike (readable k p) m m' ns (each_pass (readable k p) 0 ns _ g.1).0 (λ n r. a n (or_left (readable k p n) (writable k p n) r)) in
    record {
      answer = ap (done 0) e;
      cells = a;
      queues = λ y t. cond_two (eqb y x) (ap₂ appended e (b y t)) (b y t);
    }
same_effect k p Y hears (receive x rs) h m m' o o' a b =
    let g = when_pass (receiver k p x) _ _ _ h in
    let e : o x ≡ o' x = b x (hears x g.0) in
    record {
      answer = ap (λ (q : Queue _). done q.missed (first q.messages)) e;
      cells = λ n t. put_alike k.null rs (first (o x).messages) m m' n (a n t) ∙ ap (λ (q : Queue _). put k.null rs (first q.messages) m' n) e;
      queues = λ y t. cond_two (eqb y x) (ap taken (b y t)) (b y t);
    }

settle_frame : {E : Type 0} (g : ℕ → Bool) (z : E) (x : Outcome E) (rs : List ℕ) (m : ℕ → E) (o : ℕ → Queue E) (n : ℕ) →
    Every g rs → g n ≡ false → (settle z x rs m o).cells n ≡ m n
settle_frame g z (fault f) rs m o n h t = refl
settle_frame g z (gives vs) rs m o n h t = put_frame g z rs vs m n h t

-- a cell that the part may not write is not changed
pub frame : {E : Type 0} (k : Making E) (p : ℕ) (w : Work) → may k p w ≡ pass → (m : ℕ → E) (o : ℕ → Queue E) (n : ℕ) →
    writable k p n ≡ false → (effect k w m o).cells n ≡ m n
frame k p (instruct c ns rs) h m o n t =
    settle_frame (writable k p) k.null (k.set c (map m ns)) rs m o n
    (each_pass (writable k p) 8 rs pass (each_pass (readable k p) 0 ns _ h).1).0 t
frame k p (send x ns) h m o n t = refl
frame k p (receive x rs) h m o n t =
    let g = when_pass (receiver k p x) _ _ _ h in
    put_frame (writable k p) k.null rs (first (o x).messages) m n (each_pass (writable k p) 8 rs pass g.1).0 t

settle_queues : {E : Type 0} (z : E) (x : Outcome E) (rs : List ℕ) (m : ℕ → E) (o : ℕ → Queue E) → (settle z x rs m o).queues ≡ o
settle_queues z (fault f) rs m o = refl
settle_queues z (gives vs) rs m o = refl

-- nor is a queue that the part may neither send to nor receive from
pub frame_queues : {E : Type 0} (k : Making E) (p : ℕ) (w : Work) → may k p w ≡ pass → (m : ℕ → E) (o : ℕ → Queue E) (y : ℕ) →
    (y < 16 → (bit p (k.sends y) || bit p (k.receives y)) ≡ true → ⊥) → (effect k w m o).queues y ≡ o y
frame_queues k p (instruct c ns rs) h m o y t = ap (λ (f : ℕ → Queue _). f y) (settle_queues k.null (k.set c (map m ns)) rs m o)
frame_queues k p (send x ns) h m o y t =
    let g = when_pass (sender k p x) _ _ _ h in
    let r = and_parts (ltb x 16) (bit p (k.sends x)) g.0 in
    change_there o (appended (map m ns)) x y (λ e. grind (arith, t, r.0, r.1, e))
frame_queues k p (receive x rs) h m o y t =
    let g = when_pass (receiver k p x) _ _ _ h in
    let r = and_parts (ltb x 16) (bit p (k.receives x)) g.0 in
    change_there o taken x y (λ e. grind (arith, t, r.0, r.1, e))
