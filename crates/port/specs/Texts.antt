-- The refusal of a port in words. Assumes nothing.
use Rattle.std.specs.Prelude.{ℕ, List, codes}
use Rattle.port.specs.declared.refusal.PortRefusal.{PortRefusal}
use Rattle.port.specs.declared.refusal.PortRefusal.TheVariants.{Port}

abbrev pub port_text : PortRefusal → List ℕ
port_text Port = codes "the port is over 15"
