use Rattle.std.proofs.Common.{◌∷◌, [], get_or, sym, ap, ◌∙◌}
use Rattle.std.proofs.lemmas.Result.{err_from_is_err_and}
use Rattle.setup.specs.Directives.{then, ended}
use Rattle.setup.specs.Keywords.{words_wanted}
use Rattle.setup.specs.Pieces.{words_of}
use Rattle.setup.proofs.Asking.{asked_told, ended_more, ended_last}
use Rattle.setup.proofs.line.read_words.Goals as goal

pub returns-in_err-asked-clause-value : goal.returns-in_err-asked-clause-value
returns-in_err-asked-clause-value c =
    let w = c.in-Some.name.now in
    let p = err_from_is_err_and c.from_residual-in_err-asked.result c.from_residual-in_err-asked.ensures.1 in
    let ws = words_of c.next.new.self.0.now in
    let k = c.in_ok-try_from.field-0 in
    rw (p.1, p.2) (ap (λ r. then r (ended (get_or (w ∷ ws) (words_wanted k) []))) (c.in_err-asked.ensures.value w)
    ∙ sym (asked_told c.args.text.now w ws k c.in-Some.ensures.steps.0 c.in-Some.ensures.steps.1 c.in_ok-try_from.ensures))

pub returns-then-is_some-clause-value : goal.returns-then-is_some-clause-value
returns-then-is_some-clause-value c =
    let w = c.in-Some.name.now in
    let ws = words_of c.next.new.self.0.now in
    let k = c.in_ok-try_from.field-0 in
    let f = ended (get_or (w ∷ ws) (words_wanted k) []) in
    sym (ended_more c.directive.new.words.0.now c.next-2.new.self.0.now (w ∷ ws) (words_wanted k) c.in_ok-asked.asked c.next-2.result (c.in_ok-asked.ensures.rest w) c.next-2.ensures.steps (sym c.if-is_some.ensures))
    ∙ ap (λ r. then r f) (c.in_ok-asked.ensures.value w)
    ∙ sym (asked_told c.args.text.now w ws k c.in-Some.ensures.steps.0 c.in-Some.ensures.steps.1 c.in_ok-try_from.ensures)

pub returns-clause-value : goal.returns-clause-value
returns-clause-value c =
    let w = c.in-Some.name.now in
    let ws = words_of c.next.new.self.0.now in
    let k = c.in_ok-try_from.field-0 in
    let f = ended (get_or (w ∷ ws) (words_wanted k) []) in
    sym (ended_last c.directive.new.words.0.now c.next-2.new.self.0.now (w ∷ ws) (words_wanted k) c.in_ok-asked.asked c.next-2.result (c.in_ok-asked.ensures.rest w) c.next-2.ensures.steps (sym c.if-is_some.ensures))
    ∙ ap (λ r. then r f) (c.in_ok-asked.ensures.value w)
    ∙ sym (asked_told c.args.text.now w ws k c.in-Some.ensures.steps.0 c.in-Some.ensures.steps.1 c.in_ok-try_from.ensures)
