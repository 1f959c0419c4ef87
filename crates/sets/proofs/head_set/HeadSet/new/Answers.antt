use Rattle.sets.proofs.CountFacts.{head_faults}
use Rattle.sets.proofs.HeadFacts as fact
use Rattle.sets.proofs.head_set.HeadSet.new.Goals as goal

pub returns : goal.returns
returns c = record {
  faults = head_faults;
  tints = fact.tints;
  shifts = fact.shifts;
  flips = fact.flips;
  still = fact.still;
  twice = fact.twice;
}
