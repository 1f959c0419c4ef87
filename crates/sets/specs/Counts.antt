-- Which codes a set has, and how many elements each takes. Assumes nothing.
use Rattle.std.specs.Prelude.{ℕ, cond, List, Some, None, Ok, Err, Option, Result, ◌==◌, nat_lt}
use Rattle.instruction.specs.declared.fault.SetFault.{SetFault}
use Rattle.instruction.specs.Outcomes.{fault_number}

-- the fewest and the most elements that each code of the level set takes
abbrev pub level_takes : ℕ → Option (ℕ × ℕ)
level_takes code =
    cond (code == 1) (Some (0, 4))
    (cond (code == 2) (Some (1, 8))
    (cond (code == 3) (Some (2, 2))
    (cond (code == 4) (Some (1, 1))
    (cond (code == 5) (Some (3, 3))
    (cond (code == 6) (Some (1, 1))
    None)))))

-- the same of the head set
abbrev pub head_takes : ℕ → Option (ℕ × ℕ)
head_takes code =
    cond (code == 1) (Some (0, 4))
    (cond (code == 2) (Some (2, 2))
    (cond (code == 3) (Some (2, 2))
    (cond (code == 4) (Some (1, 1))
    None)))

-- the fault's number at n elements, 0 for none: no such code, then too few, then too many
abbrev pub fault_at : Option (ℕ × ℕ) → ℕ → ℕ
fault_at None n = 1
fault_at (Some p) n = cond (nat_lt n p.0) 2 (cond (nat_lt p.1 n) 2 0)

-- the number of the fault that a meaning is, 0 for none
abbrev pub fault_in : {E : Type 0} → Result (List E) SetFault → ℕ
fault_in (Ok vs) = 0
fault_in (Err f) = fault_number f
