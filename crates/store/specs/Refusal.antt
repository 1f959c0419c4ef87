-- The numbers of a store's refusals. Assumes nothing.
use Rattle.std.specs.Prelude.{ℕ}
use Rattle.store.specs.declared.fault.StoreFault.{StoreFault}
use Rattle.store.specs.declared.fault.StoreFault.TheVariants.{Beyond}

abbrev pub number : StoreFault → ℕ
number Beyond = 20
