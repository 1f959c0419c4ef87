use Rattle.std.proofs.Common.{◌≡◌, ℕ, List, Option, decimal, subst, ap, ap₂, ◌∙◌}
use Rattle.std.specs.Fmt.{DisplaysOnOk, styled_decimal, styled_text}
use Rattle.wording.specs.Reasons.{name_text}
use Rattle.report.specs.Rows.{right, left, kind_text_of}
use Rattle.report.proofs.Columns.{to_right, named}
use Rattle.report.proofs.row.RowDisplay.fmt.Goals as goal

pub returns-clause-writes : goal.returns-clause-writes
returns-clause-writes g c =
    let r = c.args.self.now.logged.now in
    let place : styled_decimal c.laid_out.result r.place ≡ right 5 (decimal r.place) = ap (λ s. styled_decimal s r.place) c.laid_out.ensures ∙ to_right 5 (decimal r.place) in
    let part : styled_decimal c.laid_out-2.result r.part ≡ right 4 (decimal r.part) = ap (λ s. styled_decimal s r.part) c.laid_out-2.ensures ∙ to_right 4 (decimal r.part) in
    let kind : styled_text c.laid_out-3.result c.kind_name-kind.result.now ≡ left 8 (kind_text_of r.kind) =
    ap₂ (λ s t. styled_text s t) c.laid_out-3.ensures (c.kind_name-kind.ensures ∙ ap name_text c.ok.ensures.value) ∙ named r.kind c.try_from.result c.try_from.ensures in
    subst (λ (o : Option (List ℕ)). DisplaysOnOk g.W.Write.write_str_gives c.args.f.now c.write.result o c.write.new.self) (rw (place, part, kind)) c.write.ensures.writes
