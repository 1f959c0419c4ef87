-- The level set: what each code makes of a list of levels. Assumes nothing.
use Rattle.std.specs.Prelude.{ℕ, ◌+◌, ◌-◌, ◌*◌, ◌/◌, min, cond, List, [], ◌∷◌, length, fold, Ok, Err, Result, ◌==◌, nat_lt}
use Rattle.element.specs.declared.level.Level.{Level}
use Rattle.element.specs.Levels.{level}
use Rattle.instruction.specs.declared.fault.SetFault.{SetFault}
use Rattle.instruction.specs.declared.fault.SetFault.TheVariants.{UnknownCode, WrongCount}
use Rattle.sets.specs.Takes.{one_of, two_of, three_of, onto, meaning_of}

abbrev pub higher : Level → Level → Level
higher a b = cond (nat_lt a.value b.value) b a

abbrev pub highest : Level → List Level → Level
highest = fold higher

-- the highest of one to eight
abbrev pub top_of : List Level → Result Level SetFault
top_of [] = Err WrongCount
top_of (a ∷ xs) = cond (nat_lt 7 (length xs)) (Err WrongCount) (Ok (highest a xs))

-- a dimmed by b, to the nearest level
abbrev pub scaled : Level → Level → Level
scaled a b = level ((a.value * b.value + 127) / 255)

-- the dimmer curve
abbrev pub curved : Level → Level
curved v = level ((v.value * v.value + 127) / 255)

-- t of 255 parts of the way from a to b
abbrev pub faded : Level → Level → Level → Level
faded a b t = level ((a.value * (255 - t.value) + b.value * t.value + 127) / 255)

abbrev pub raised : Level → Level
raised v = level (min (v.value + 1) 255)

-- codes 2 to 6 give one level
abbrev pub level_value : ℕ → List Level → Result Level SetFault
level_value code xs =
    cond (code == 2) (top_of xs)
    (cond (code == 3) (onto (λ p. scaled p.0 p.1) (two_of xs))
    (cond (code == 4) (onto curved (one_of xs))
    (cond (code == 5) (onto (λ p. faded p.0 p.1 p.2) (three_of xs))
    (cond (code == 6) (onto raised (one_of xs))
    (Err UnknownCode)))))

-- code 1 gives its elements back
abbrev pub level_meaning : ℕ → List Level → Result (List Level) SetFault
level_meaning = meaning_of level_value
