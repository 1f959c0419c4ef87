-- One request on two sets of separate boxes that are alike for some parts. Assumes nothing.
use Rattle.std.specs.Prelude.{◌≡◌, ℕ, ◌<◌, Bool, true, false}
use Rattle.port.specs.Upstream.{Closed}
use Rattle.isolation.specs.Making.{Making}
use Rattle.isolation.specs.Request.{Request, part, turn_call, granted}
use Rattle.isolation.specs.Check.{touchable, receiver}
use Rattle.isolation.specs.Boxes.{Boxes, box_step}

-- some part of u may receive from port x
pub record Heard {E : Type 0} (k : Making E) (u : ℕ → Bool) (x : ℕ) : Type 0 where
  pub who : ℕ
  pub exists : who < k.parts
  pub member : u who ≡ true
  pub hears : receiver k who x ≡ true

-- alike in the marks of these parts, in the cells of their boxes that they may touch, and in the ports that they may receive from
pub record Alike {E : Type 0} (k : Making E) (u : ℕ → Bool) (b b' : Boxes E) : Type 0 where
  pub marks : (q : ℕ) → u q ≡ true → b.marks q ≡ b'.marks q
  pub cells : (q : ℕ) → u q ≡ true → (n : ℕ) → touchable k q n ≡ true → b.cells q n ≡ b'.cells q n
  pub queues : (x : ℕ) → Heard k u x → b.queues x ≡ b'.queues x

-- the request is no turn call, or it is granted in both or in neither
abbrev pub GrantedAlike : {E : Type 0} → Making E → Request → Boxes E → Boxes E → Type 0
GrantedAlike k c b b' = turn_call c ≡ true → granted (box_step k c b).answer ≡ granted (box_step k c b').answer

-- The claim on one step. After the same request, boxes that were alike for the parts of u are alike for them, and a request of
-- one of them is answered alike. A request of any other part alters nothing of this.
pub record OneStep {E : Type 0} (k : Making E) (u : ℕ → Bool) : Type 0 where
  pub after : (c : Request) (b b' : Boxes E) → Alike k u b b' → GrantedAlike k c b b' →
      Alike k u (box_step k c b).after (box_step k c b').after
  pub answer : (c : Request) (b b' : Boxes E) → Alike k u b b' → GrantedAlike k c b b' → u (part c) ≡ true →
      (box_step k c b).answer ≡ (box_step k c b').answer
  pub other : (c : Request) (b b' : Boxes E) → Alike k u b b' → u (part c) ≡ false →
      Alike k u (box_step k c b).after b'

-- of every making and every set of parts that holds, for each port that a member may receive from, all its senders and receivers
abbrev pub Unwinding : Type 0 → Type 0
Unwinding E = (k : Making E) (p : ℕ) (u : ℕ → Bool) → Closed k.parts k.sends k.receives p u → OneStep k u
