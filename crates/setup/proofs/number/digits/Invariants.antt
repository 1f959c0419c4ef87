use Rattle.std.proofs.Common.{◌≡◌, ◌≤◌, drop}
use Rattle.std.specs.Option.{option_map}
use Rattle.setup.specs.Numbers.{capped, written_after}
use Rattle.setup.proofs.number.digits.Given as goal

abbrev pub invariant-loop-c : goal.invariant-loop-c
invariant-loop-c l =
    (l.value ≤ 4294967296)
    × (option_map capped (written_after l.base l.value (drop l.c-index l.word)) ≡ option_map capped (written_after l.base 0 l.word))
