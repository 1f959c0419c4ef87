use Rattle.std.proofs.Common.{◌≡◌, ◌++◌, codes, decimal, sym, ap, ◌∙◌}
use Rattle.std.specs.Fmt.{styled_decimal}
use Rattle.std.proofs.Output.{has_written_of_eq}
use Rattle.report.specs.Rows.{left}
use Rattle.report.specs.Listings.{part_text}
use Rattle.report.proofs.Columns.{to_left}
use Rattle.report.proofs.listing.PartDisplay.fmt.Goals as goal

pub returns-in-Some-clause-writes : goal.returns-in-Some-clause-writes
returns-in-Some-clause-writes g c = λ p ok.
    let n = c.in-Some.part in
    let part : styled_decimal c.laid_out.result n ≡ left 3 (decimal n) = ap (λ s. styled_decimal s n) c.laid_out.ensures ∙ to_left 3 (decimal n) in
    has_written_of_eq _ _ _ _ _ (ap (λ t. codes "  part " ++ t) part ∙ ap part_text (sym c.in-Some.is)) (c.write.ensures.writes p ok)
