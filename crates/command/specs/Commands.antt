-- What decoded commands and refusals stand for. Assumes nothing.
use Rattle.std.specs.Prelude.{ℕ, ◌≤◌, List, ◌++◌, length, Ok, Err, codes, decimal, Result}
use Rattle.cells.specs.Cells.{cell_list}
use Rattle.command.specs.Order.{Order, malformed, restore, save, work, instruct, send, receive}
use Rattle.command.specs.declared.command.Command.{Command}
use Rattle.command.specs.declared.command.Command.TheVariants.{Restore, Save, Instruct, Send, Receive}
use Rattle.command.specs.declared.malformed.Malformed.{Malformed}
use Rattle.command.specs.declared.malformed.Malformed.TheVariants.{Length, Kind, Shape}

abbrev pub number_of : Malformed → ℕ
number_of Length = 1
number_of Kind = 7
number_of (Shape i) = 8

abbrev pub detail_of : Malformed → ℕ
detail_of Length = 0
detail_of Kind = 3
detail_of (Shape i) = i

-- a refusal in words
abbrev pub malformed_text : Malformed → List ℕ
malformed_text Length = codes "refusal 1: not 32 bytes"
malformed_text Kind = codes "refusal 7 at byte 3: no such kind"
malformed_text (Shape i) = codes "refusal 8 at byte " ++ (decimal i ++ codes ": the shape is broken")

abbrev pub order_of : Command → Order
order_of Restore = restore
order_of Save = save
order_of (Instruct code args results) = work (instruct code (cell_list args.now) (cell_list results.now))
order_of (Send port args) = work (send port (cell_list args.now))
order_of (Receive port results) = work (receive port (cell_list results.now))

abbrev pub decoded_of : Result Command Malformed → Order
decoded_of (Ok c) = order_of c
decoded_of (Err m) = malformed (number_of m) (detail_of m)

-- no more cells than a command may have
abbrev pub Few : Command → Type 0
Few Restore = Unit {0}
Few Save = Unit {0}
Few (Instruct code args results) = (length (cell_list args.now) ≤ 8) × (length (cell_list results.now) ≤ 4)
Few (Send port args) = length (cell_list args.now) ≤ 4
Few (Receive port results) = length (cell_list results.now) ≤ 4
