-- Refusals and kinds in words. Assumes nothing.
use Rattle.std.specs.Prelude.{ℕ, ◌-◌, cond, ◌||◌, List, [], ◌++◌, Some, None, codes, decimal, Option, ◌==◌, nat_lt}
use Rattle.command.specs.Kinds.{kind_text}
use Rattle.command.specs.declared.kind.Kind.{Kind}

-- what the refusal of a command or a run says, by its number; 0 is none
abbrev pub reason_text : ℕ → List ℕ
reason_text n =
    cond (n == 0) (codes "done")
    (cond (n == 1) (codes "not 32 bytes")
    (cond (n == 5) (codes "the log is too short")
    (cond (n == 6) (codes "a scratch list is too short")
    (cond (n == 7) (codes "no such kind")
    (cond (n == 8) (codes "the shape is broken")
    (cond (n == 9) (codes "no such part")
    (cond (n == 10) (codes "the turn is not there")
    (cond (n == 11) (codes "no right to the port")
    (cond (n == 12) (codes "no right to the cell")
    (cond (n == 13) (codes "the instruction set faults")
    (cond (n == 19) (codes "store and sheet differ in size")
    (codes "refused"))))))))))))

-- a kind's name, ? where there is none
abbrev pub name_text : Option Kind → List ℕ
name_text None = codes "?"
name_text (Some k) = kind_text k

-- what a refusal is about, by its number and detail: a byte of the record, a cell that it names, or the fault of the set
abbrev pub detail_text : ℕ → ℕ → List ℕ
detail_text n at =
    cond (n == 7 || (n == 8 || (n == 9 || n == 11))) (codes " (byte " ++ (decimal at ++ codes ")"))
    (cond (n == 12) (cond (nat_lt at 8) (codes " (argument " ++ (decimal at ++ codes ")")) (codes " (result " ++ (decimal (at - 8) ++ codes ")")))
    (cond (n == 13) (codes " (set fault " ++ (decimal at ++ codes ")")) []))

-- a refusal in words
abbrev pub refusal_text : ℕ → ℕ → List ℕ
refusal_text n at = codes "refusal " ++ (decimal n ++ (codes ": " ++ (reason_text n ++ detail_text n at)))
