-- The kinds of command by number and name. Assumes nothing.
use Rattle.std.specs.Prelude.{◌≡◌, ℕ, false, List, Ok, Err, codes, Result}
use Rattle.command.specs.Shape.{known}
use Rattle.command.specs.declared.kind.Kind.{Kind}
use Rattle.command.specs.declared.kind.UnknownKind.{UnknownKind}
use Rattle.command.specs.declared.kind.Kind.TheVariants.{Restore, Save, Instruct, Send, Receive}

abbrev pub kind_number : Kind → ℕ
kind_number Restore = 1
kind_number Save = 2
kind_number Instruct = 3
kind_number Send = 4
kind_number Receive = 5

-- what a kind byte names: the kind of that number, or the byte itself where it is no kind's
abbrev pub Named : ℕ → Result Kind UnknownKind → Type 0
Named b (Err e) = (e.0 ≡ b) × (known b ≡ false)
Named b (Ok k) = kind_number k ≡ b

abbrev pub kind_text : Kind → List ℕ
kind_text Restore = codes "restore"
kind_text Save = codes "save"
kind_text Instruct = codes "instruct"
kind_text Send = codes "send"
kind_text Receive = codes "receive"
