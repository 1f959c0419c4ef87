-- The records of a show file, in words. Assumes nothing.
use Rattle.std.specs.Prelude.{ℕ, cond, List, [], ◌++◌, Some, None, codes, decimal, Option, ◌==◌, slice_get}
use Rattle.command.specs.Order.{Order, malformed, restore, save, work, ordered}
use Rattle.report.specs.Asks.{order_text}
use Rattle.report.specs.Rows.{right, left}

-- the part, if the record is long enough to name one
abbrev pub part_text : Option ℕ → List ℕ
part_text None = []
part_text (Some n) = codes "  part " ++ left 3 (decimal n)

-- what a record asks, or why it is refused, by the refusal's number and detail
abbrev pub asked_text : Order → List ℕ
asked_text (malformed n d) =
    cond (n == 1) (codes "refusal 1: not 32 bytes")
    (cond (n == 7) (codes "refusal 7 at byte 3: no such kind")
    (codes "refusal 8 at byte " ++ (decimal d ++ codes ": the shape is broken")))
asked_text restore = order_text restore
asked_text save = order_text save
asked_text (work w) = order_text (work w)

-- the index in its column, the part, and what is asked
abbrev pub listed_text : ℕ → List ℕ → List ℕ
listed_text place bs = right 5 (decimal place) ++ (part_text (slice_get bs 2) ++ (codes "  " ++ asked_text (ordered bs)))
