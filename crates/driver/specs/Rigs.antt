-- What the calls on a rig do. Assumes nothing.
use Rattle.std.specs.Prelude.{◌≡◌, ℕ, cond, ◌&&◌, replicate, ◌==◌, nat_lt}
use Rattle.part.specs.Sets.{parts}
use Rattle.sheet.specs.Rows.{made, granted, swapped}
use Rattle.sheet.specs.View.{rows_of}
use Rattle.sheet.specs.View as sheet
use Rattle.port.specs.Sets.{no_sets, settled}
use Rattle.driver.specs.declared.rig.Rig.{Rig}
use Rattle.driver.specs.declared.rig.calls.RigRefusal.{RigRefusal}
use Rattle.driver.specs.declared.rig.calls.RigRefusal.TheVariants.{Kind, Layers, AtSheet}

-- the number of each refusal of a new rig
abbrev pub number_of : RigRefusal → ℕ
number_of Kind = 101
number_of Layers = 102
number_of (AtSheet why) = sheet.number_of why

-- the refusal of a new rig: a kind other than 0 and 1, more than two layers, then the sheet's own
abbrev pub new_number : ℕ → ℕ → ℕ → ℕ
new_number kind piled cells = cond (nat_lt kind 2) (cond (nat_lt piled 3) (made cells).number 102) 101

-- A new rig: what was asked, or one cell, levels and no layers where it is refused; no bits, no swapped cells, no ports.
pub record NewRig (kind piled cells : ℕ) (r : Rig) (no : ℕ) : Type 0 where
  pub number : no ≡ new_number kind piled cells
  pub rows : rows_of r.sheet ≡ cond (no == 0) (made cells).rows (made 1).rows
  pub ports : r.ports.ports ≡ replicate 16 no_sets
  pub heads : r.heads ≡ (no == 0) && kind == 1
  pub layers : r.layers ≡ cond (no == 0) piled 0

-- A grant on a rig is the sheet's; all else of the rig stays.
pub record Grants (x y : Rig) (cell part mode no : ℕ) : Type 0 where
  pub rows : rows_of y.sheet ≡ (granted parts (rows_of x.sheet) cell part mode).rows
  pub number : no ≡ (granted parts (rows_of x.sheet) cell part mode).number
  pub ports : y.ports ≡ x.ports
  pub heads : y.heads ≡ x.heads
  pub layers : y.layers ≡ x.layers

-- So is a swap.
pub record Swaps (x y : Rig) (cell no : ℕ) : Type 0 where
  pub rows : rows_of y.sheet ≡ (swapped (rows_of x.sheet) cell).rows
  pub number : no ≡ (swapped (rows_of x.sheet) cell).number
  pub ports : y.ports ≡ x.ports
  pub heads : y.heads ≡ x.heads
  pub layers : y.layers ≡ x.layers

-- A setting of a port is the port sets' own; all else of the rig stays.
pub record Connects (x y : Rig) (port senders receivers no : ℕ) : Type 0 where
  pub ports : y.ports.ports ≡ settled x.ports.ports port senders receivers
  pub number : no ≡ cond (nat_lt port 16) 0 11
  pub sheet : y.sheet ≡ x.sheet
  pub heads : y.heads ≡ x.heads
  pub layers : y.layers ≡ x.layers
