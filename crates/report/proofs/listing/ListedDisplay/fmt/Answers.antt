use Rattle.std.proofs.Common.{◌≡◌, ◌++◌, codes, decimal, refl, ap, ◌∙◌}
use Rattle.std.specs.Fmt.{styled_decimal}
use Rattle.std.proofs.Output.{has_written_of_eq}
use Rattle.command.specs.Commands.{order_of, number_of, detail_of, malformed_text}
use Rattle.command.specs.Order.{malformed, ordered}
use Rattle.command.specs.declared.command.Command.{Command}
use Rattle.command.specs.declared.command.Command.TheVariants.{Restore, Save, Instruct, Send, Receive}
use Rattle.command.specs.declared.malformed.Malformed.{Malformed}
use Rattle.command.specs.declared.malformed.Malformed.TheVariants.{Length, Kind, Shape}
use Rattle.report.specs.Asks.{order_text}
use Rattle.report.specs.Rows.{right}
use Rattle.report.specs.Listings.{part_text, asked_text, listed_text}
use Rattle.report.proofs.Columns.{to_right}
use Rattle.report.proofs.listing.ListedDisplay.fmt.Goals as goal

asked : (c : Command) → order_text (order_of c) ≡ asked_text (order_of c)
asked Restore = refl
asked Save = refl
asked (Instruct code args results) = refl
asked (Send port args) = refl
asked (Receive port results) = refl

refused : (m : Malformed) → malformed_text m ≡ asked_text (malformed (number_of m) (detail_of m))
refused Length = refl
refused Kind = refl
refused (Shape at) = refl

pub returns-in-Ok-clause-writes : goal.returns-in-Ok-clause-writes
returns-in-Ok-clause-writes g c = λ p ok.
    let n = c.args.self.now.place in
    let bs = c.args.self.now.bytes.now in
    let place : styled_decimal c.laid_out.result n ≡ right 5 (decimal n) = ap (λ s. styled_decimal s n) c.laid_out.ensures ∙ to_right 5 (decimal n) in
    let asks : order_text (order_of c.in-Ok.command) ≡ asked_text (ordered bs) = asked c.in-Ok.command ∙ ap asked_text c.in-Ok.ensures.order in
    let text : styled_decimal c.laid_out.result n ++ (part_text c.part_of-part.result.0 ++ (codes "  " ++ order_text (order_of c.in-Ok.command))) ≡ listed_text n bs = rw (place, c.part_of-part.ensures, asks) in
    has_written_of_eq _ _ _ _ _ text (c.write.ensures.writes p ok)

pub returns-in-Err-clause-writes : goal.returns-in-Err-clause-writes
returns-in-Err-clause-writes g c = λ p ok.
    let n = c.args.self.now.place in
    let bs = c.args.self.now.bytes.now in
    let place : styled_decimal c.laid_out-in-Err.result n ≡ right 5 (decimal n) = ap (λ s. styled_decimal s n) c.laid_out-in-Err.ensures ∙ to_right 5 (decimal n) in
    let why : malformed_text c.in-Err.why ≡ asked_text (ordered bs) = refused c.in-Err.why ∙ ap asked_text c.in-Err.ensures.order in
    let text : styled_decimal c.laid_out-in-Err.result n ++ (part_text c.part_of-part.result.0 ++ (codes "  " ++ malformed_text c.in-Err.why)) ≡ listed_text n bs = rw (place, c.part_of-part.ensures, why) in
    has_written_of_eq _ _ _ _ _ text (c.write-in-Err.ensures.writes p ok)
