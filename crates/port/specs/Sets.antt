-- What the code's port sets mean. Assumes nothing.
use Rattle.std.specs.Prelude.{ℕ, Bool, cond, ◌&&◌, List, Ok, Err, Result, nat_lt, slice_index_or, slice_set}
use Rattle.part.specs.Sets.{bit}
use Rattle.port.specs.declared.ports.Port.{Port}
use Rattle.port.specs.declared.ports.Ports.{Ports}
use Rattle.port.specs.declared.refusal.PortRefusal.{PortRefusal}
use Rattle.port.specs.declared.refusal.PortRefusal.TheVariants as refusal

-- the number of a refusal
abbrev pub number_of : PortRefusal → ℕ
number_of refusal.Port = 11

-- a port with no senders and no receivers
abbrev pub no_sets : Port
no_sets = record { senders = 0; receivers = 0 }

-- the sets of senders and of receivers, by port; empty beyond the last
abbrev pub sends_of : Ports → ℕ → ℕ
sends_of ps x = (slice_index_or ps.ports x no_sets).senders

abbrev pub receives_of : Ports → ℕ → ℕ
receives_of ps x = (slice_index_or ps.ports x no_sets).receivers

-- a setting replaces the earlier one; beyond the last port it is refused, and alters none
abbrev pub settled : List Port → ℕ → ℕ → ℕ → List Port
settled ps x s r = cond (nat_lt x 16) (slice_set ps x (record { senders = s; receivers = r })) ps

-- the answer of a setting
abbrev pub answered : ℕ → Result (Unit {0}) PortRefusal
answered x = cond (nat_lt x 16) (Ok tt) (Err refusal.Port)

-- of n parts, p is among the senders of port x, or among its receivers
abbrev pub may_send : ℕ → Ports → ℕ → ℕ → Bool
may_send n ps x p = nat_lt p n && (nat_lt x 16 && bit p (sends_of ps x))

abbrev pub may_receive : ℕ → Ports → ℕ → ℕ → Bool
may_receive n ps x p = nat_lt p n && (nat_lt x 16 && bit p (receives_of ps x))
