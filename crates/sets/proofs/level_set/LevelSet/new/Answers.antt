use Rattle.std.proofs.Common.{ℕ, [], ◌∷◌, Ok, ap, arith}
use Rattle.sets.proofs.CountFacts.{level_faults}
use Rattle.sets.proofs.LevelFacts as fact
use Rattle.sets.proofs.level_set.LevelSet.new.Goals as goal

pub returns : goal.returns
returns c = record {
  faults = level_faults;
  scales = λ a b. ap (λ (n : ℕ). Ok (n ∷ [])) (fact.scaled_exact a b);
  curves = λ v. ap (λ (n : ℕ). Ok (n ∷ [])) (fact.scaled_exact v v);
  fades = λ a b t. ap (λ (n : ℕ). Ok (n ∷ [])) (fact.faded_exact a b t);
  raises = λ v. ap (λ (n : ℕ). Ok (n ∷ [])) (omega (arith, v.byte));
  tops = fact.tops;
  dims = fact.scaled_under;
  full = fact.full;
  sags = λ v. (fact.scaled_under v v).0;
  starts = fact.starts;
  ends = fact.ends;
  between = fact.faded_between;
}
