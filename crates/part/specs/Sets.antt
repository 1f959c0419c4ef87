-- A set of parts as a number: bit p stands for part p. Assumes nothing.
use Rattle.std.specs.Prelude.{ℕ, ◌/◌, ◌%◌, ◌^◌, Bool, ◌==◌}

-- how many parts a host has
abbrev pub parts : ℕ
parts = 8

-- whether part p is in the set m
abbrev pub bit : ℕ → ℕ → Bool
bit p m = m / 2 ^ p % 2 == 1
