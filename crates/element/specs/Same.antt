-- Two elements with equal parts are equal: a bound has one proof. Assumes nothing.
use Rattle.std.specs.Prelude.{◌≡◌, ◌<◌, true}
use mathlib.Core.HLevel.{is_prop→PathP}
use Rattle.std.proofs.Math.Bridge.{le_prop}
use base.Stored.{Coded-set, coded_bool}
use Rattle.element.specs.Bytes.{in_bytes}
use Rattle.element.specs.declared.level.Level.{Level}
use Rattle.element.specs.declared.head.Head.{Head}

pub same_level : {a b : Level} → a.value ≡ b.value → a ≡ b
same_level {a} {b} e = λ i. record {
  value = e i;
  byte = is_prop→PathP (λ j. e j < 256) (λ j. le_prop) a.byte b.byte i;
}

pub same_head : {a b : Head} → a.pan ≡ b.pan → a.tilt ≡ b.tilt → a.colour ≡ b.colour → a ≡ b
same_head {a} {b} p t c = λ i. record {
  pan = p i;
  tilt = t i;
  colour = c i;
  panned = is_prop→PathP (λ j. p j < 65536) (λ j. le_prop) a.panned b.panned i;
  tilted = is_prop→PathP (λ j. t j < 65536) (λ j. le_prop) a.tilted b.tilted i;
  coloured = is_prop→PathP (λ j. in_bytes (c j) ≡ true) (λ j. Coded-set coded_bool _ _) a.coloured b.coloured i;
}
