-- What a passed check tells. Assumes nothing.
use Rattle.std.proofs.Common.{◌≡◌, ℕ, suc, ◌<◌, Bool, true, false, ◌&&◌, ◌||◌, ltb, List, [], ◌∷◌, refl, arith}
use Rattle.std.proofs.lemmas.Bool.{ltb-true, and_parts}
use Rattle.part.specs.Sets.{bit}
use Rattle.cells.specs.Cells.{member, Within}
use Rattle.command.specs.Order.{Work, instruct, send, receive, Order, malformed, restore, save, work}
use Rattle.isolation.specs.Making.{Making}
use Rattle.isolation.specs.Check.{Verdict, pass, when, each, may, check, readable, writable, sender, receiver}

pub when_pass : (b : Bool) (n d : ℕ) (v : Verdict) → when b n d v ≡ pass → (b ≡ true) × (v ≡ pass)
when_pass true n d v e = (refl, e)
when_pass false n d v e = absurd (cc)

abbrev pub Every : (ℕ → Bool) → List ℕ → Type 0
Every f [] = Unit {0}
Every f (n ∷ ns) = (f n ≡ true) × Every f ns

pub each_pass : (f : ℕ → Bool) (i : ℕ) (ns : List ℕ) (v : Verdict) → each f i ns v ≡ pass → Every f ns × (v ≡ pass)
each_pass f i [] v e = (tt, e)
each_pass f i (n ∷ ns) v e =
    let h = when_pass (f n) _ _ _ e in
    let t = each_pass f (suc i) ns v h.1 in
    ((h.0, t.0), t.1)

pub every_within : {E : Type 0} (k : Making E) (p : ℕ) (ns : List ℕ) → Every (writable k p) ns → Within k.size ns
every_within k p [] h = tt
every_within k p (n ∷ ns) h =
    (ltb-true n k.size (and_parts (ltb n k.size) (k.swapped n || bit p (k.writes n)) h.0).0, every_within k p ns h.1)

-- an order that passed is of one of the parts
module _ {E : Type 0} (k : Making E) (busy mine : Bool) (p : ℕ) where
  pub passed_part : (o : Order) → check k busy mine p o ≡ pass → p < k.parts
  passed_part (malformed n d) e = cc
  passed_part restore e = ltb-true p k.parts (when_pass (ltb p k.parts) _ _ _ e).0
  passed_part save e = ltb-true p k.parts (when_pass (ltb p k.parts) _ _ _ e).0
  passed_part (work w) e = ltb-true p k.parts (when_pass (ltb p k.parts) _ _ _ e).0

  -- work that passed has the rights that it needs
  pub passed_work : (w : Work) → check k busy mine p (work w) ≡ pass → may k p w ≡ pass
  passed_work w e = (when_pass mine _ _ _ (when_pass (ltb p k.parts) _ _ _ e).1).1

  pub passed_instruct : (code : ℕ) (xs rs : List ℕ) → check k busy mine p (work (instruct code xs rs)) ≡ pass → Within k.size rs
  passed_instruct code xs rs e =
      let a = each_pass (readable k p) 0 xs (each (writable k p) 8 rs pass) (passed_work (instruct code xs rs) e) in
      every_within k p rs (each_pass (writable k p) 8 rs pass a.1).0

  pub passed_send : (x : ℕ) (xs : List ℕ) → check k busy mine p (work (send x xs)) ≡ pass → x < 16
  passed_send x xs e =
      let a = when_pass (sender k p x) _ _ _ (passed_work (send x xs) e) in
      ltb-true x 16 (and_parts (ltb x 16) (bit p (k.sends x)) a.0).0

  pub passed_receive : (x : ℕ) (rs : List ℕ) → check k busy mine p (work (receive x rs)) ≡ pass → (x < 16) × Within k.size rs
  passed_receive x rs e =
      let a = when_pass (receiver k p x) _ _ _ (passed_work (receive x rs) e) in
      (ltb-true x 16 (and_parts (ltb x 16) (bit p (k.receives x)) a.0).0, every_within k p rs (each_pass (writable k p) 8 rs pass a.1).0)

-- of cells that are below s, being named is being named and below s
pub member_within : (s : ℕ) (ns : List ℕ) → Within s ns → (n : ℕ) → (member ns n && ltb n s) ≡ member ns n
member_within s [] h n = refl
member_within s (i ∷ ns) h n = grind (arith, h.0, member_within s ns h.1 n)
