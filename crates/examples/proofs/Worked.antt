-- The worked examples, by computation. Assumes nothing.
use Rattle.std.proofs.Common.{◌≡◌, Bool, true, false, cond, eqb, refl}
use lib.Count.{ones}
use Rattle.std.proofs.lemmas.Bool.{cond-true}
use Rattle.part.specs.Rows.{exclusive}
use Rattle.command.specs.Shape.{most}
use Rattle.command.specs.Order.{decoded}
use Rattle.isolation.specs.Making.{Exclusive}
use Rattle.isolation.specs.Request.{order}
use Rattle.examples.specs.Shows.{making, Shows}

few : (b : Bool) → exclusive (cond b 0 1) (cond b 0 1) ≡ true
unfolding ones
few true = refl
few false = refl

single_part : Exclusive making
single_part = record {
  single = λ n. few (eqb n 3);
  bare = λ n e. (cond-true (eqb n 3) 0 1 e, cond-true (eqb n 3) 0 1 e);
}

pub worked : Shows
unfolding order decoded most
worked = record {
  exclusive = single_part;
  -- nine, turns, twice, short, refusals
  all = (
    record { answers = refl; cells = refl; boxes = refl },
    (
      record { answers = refl; cells = refl; boxes = refl },
      (
        record { answers = refl; cells = refl; boxes = refl },
        (
          record { answers = refl; cells = refl; boxes = refl },
          (record { answers = refl; cells = refl; boxes = refl }, tt),
        ),
      ),
    ),
  );
  uneven = refl;
}
