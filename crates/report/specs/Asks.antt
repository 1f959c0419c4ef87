-- What a command asks, in words. Assumes nothing.
use Rattle.std.specs.Prelude.{ℕ, cond, List, [], ◌++◌, length, take, codes, decimal, ◌==◌}
use Rattle.std.specs.List.{flat_map}
use Rattle.command.specs.Order.{Order, malformed, restore, save, work, instruct, send, receive}

abbrev pub number_text : ℕ → List ℕ
number_text n = codes " " ++ decimal n

-- the first eight cells, behind a word; nothing where there are none
abbrev pub cells_text : List ℕ → List ℕ → List ℕ
cells_text w ns = cond (length ns == 0) [] (w ++ flat_map number_text (take 8 ns))

-- a command is never malformed
abbrev pub order_text : Order → List ℕ
order_text (malformed n d) = []
order_text restore = codes "restore"
order_text save = codes "save"
order_text (work (instruct code xs rs)) = codes "instruct code " ++ (decimal code ++ (cells_text (codes " cells") xs ++ cells_text (codes " into cells") rs))
order_text (work (send x xs)) = codes "send port " ++ (decimal x ++ cells_text (codes " cells") xs)
order_text (work (receive x rs)) = codes "receive port " ++ (decimal x ++ cells_text (codes " into cells") rs)
