-- Values laid over places. Assumes nothing.
use Rattle.std.specs.Prelude.{◌≡◌, List, ◌++◌, length, take, drop}

-- values laid over the first places, as far as there are places; later places stay
abbrev pub laid : {E : Type 0} → List E → List E → List E
laid vs ps = take (length ps) vs ++ drop (length vs) ps

-- whatever a call may return at a value is what h says
abbrev pub Computes : {A B : Type 0} → (A → B → Type 0) → (A → B) → Type 0
Computes {A} {B} post h = (x : A) (r : B) → post x r → r ≡ h x
