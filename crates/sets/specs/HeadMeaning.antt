-- The head set: what each code makes of a list of heads. Assumes nothing.
use Rattle.std.specs.Prelude.{ℕ, ◌+◌, ◌-◌, ◌%◌, cond, List, Err, Result, ◌==◌}
use Rattle.element.specs.declared.head.Head.{Head}
use Rattle.element.specs.Heads.{head}
use Rattle.instruction.specs.declared.fault.SetFault.{SetFault}
use Rattle.instruction.specs.declared.fault.SetFault.TheVariants.{UnknownCode}
use Rattle.sets.specs.Takes.{one_of, two_of, onto, meaning_of}

-- the aim of a with the colour of b
abbrev pub tinted : Head → Head → Head
tinted a b = head a.pan a.tilt b.colour

-- a moved on by the pan and tilt of b
abbrev pub shifted : Head → Head → Head
shifted a b = head ((a.pan + b.pan) % 65536) ((a.tilt + b.tilt) % 65536) a.colour

-- half a turn about, and tilted the other way
abbrev pub flipped : Head → Head
flipped a = head ((a.pan + 32768) % 65536) (65535 - a.tilt) a.colour

-- codes 2 to 4 give one head
abbrev pub head_value : ℕ → List Head → Result Head SetFault
head_value code xs =
    cond (code == 2) (onto (λ p. tinted p.0 p.1) (two_of xs))
    (cond (code == 3) (onto (λ p. shifted p.0 p.1) (two_of xs))
    (cond (code == 4) (onto flipped (one_of xs))
    (Err UnknownCode)))

-- code 1 gives its elements back
abbrev pub head_meaning : ℕ → List Head → Result (List Head) SetFault
head_meaning = meaning_of head_value
