-- What a request's order tells of its kind. Assumes nothing.
use Rattle.std.proofs.Common.{◌≡◌, ℕ, zero, suc, Bool, true, false, cond, ◌||◌, eqb, leb, List, refl}
use Rattle.command.specs.Shape.{byte_at, kind_of, known, most}
use Rattle.command.specs.Order.{Work, Order, malformed, restore, save, work, asked, shaped, decoded}
use Rattle.isolation.specs.Request.{Request, whole, roomy, kind, turn_kind, order}

-- A turn's order comes from 32 bytes of a turn's kind, and work from 32 bytes of another.
abbrev pub Suits : Bool → Bool → Order → Type 0
Suits f t (malformed n d) = Unit {0}
Suits f t restore = (f ≡ true) × (t ≡ true)
Suits f t save = (f ≡ true) × (t ≡ true)
Suits f t (work w) = (f ≡ true) × (t ≡ false)

suits_cond : (f t b : Bool) (x y : Order) → Suits f t x → Suits f t y → Suits f t (cond b x y)
suits_cond f t true x y g h = g
suits_cond f t false x y g h = h

suits_asked : (a b c d : Bool) (x y z : Work) → Suits true (a || b) (cond a restore (cond b save (cond c (work x) (cond d (work y) (work z)))))
suits_asked true b c d x y z = (refl, refl)
suits_asked false true c d x y z = (refl, refl)
suits_asked false false true d x y z = (refl, refl)
suits_asked false false false true x y z = (refl, refl)
suits_asked false false false false x y z = (refl, refl)

suits_shaped : (f t : Bool) (bs : List ℕ) (i n : ℕ) (o : Order) → Suits f t o → Suits f t (shaped bs i n o)
suits_shaped f t bs i zero o h = h
suits_shaped f t bs i (suc n) o h = suits_cond f t (leb (byte_at bs i) (most bs i)) (shaped bs (suc i) n o) (malformed 8 i) (suits_shaped f t bs (suc i) n o h) tt

suits_decoded : (bs : List ℕ) → Suits true (turn_kind (kind_of bs)) (decoded bs)
unfolding decoded
suits_decoded bs =
    suits_cond true (turn_kind (kind_of bs)) (known (kind_of bs)) (shaped bs 4 28 (asked bs)) (malformed 7 3)
    (suits_shaped true (turn_kind (kind_of bs)) bs 4 28 (asked bs) (suits_asked (eqb (kind_of bs) 1) (eqb (kind_of bs) 2) (eqb (kind_of bs) 3) (eqb (kind_of bs) 4) _ _ _)) tt

suits_whole : (f t : Bool) (o : Order) → Suits true t o → Suits f t (cond f o (malformed 1 0))
suits_whole true t o h = h
suits_whole false t o h = tt

pub suits_order : (c : Request) → Suits (whole c) (turn_kind (kind c)) (order c)
unfolding order
suits_order c =
    suits_whole (whole c) (turn_kind (kind c)) (cond (roomy c) (decoded c.bytes) (malformed 6 0))
    (suits_cond true (turn_kind (kind c)) (roomy c) (decoded c.bytes) (malformed 6 0) (suits_decoded c.bytes) tt)
