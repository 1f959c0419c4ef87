use Rattle.std.proofs.Common.{◌≡◌, ◌∷◌, length, sym, ap, ◌∙◌, arith}
use Rattle.std.proofs.lemmas.Bool.{eqb-true}
use Rattle.setup.specs.Pieces.{first_word, after_word, words_of}
use Rattle.setup.proofs.Fronts.{no_words, words_more}
use Rattle.setup.proofs.Reading.{filled}
use Rattle.setup.proofs.pieces.WordsIterator.next.Goals as goal

pub returns-then-is_empty-clause-steps : goal.returns-then-is_empty-clause-steps
returns-then-is_empty-clause-steps c =
    let n = no_words c.args.self.now.0.now (ap length (sym c.split_word.ensures.word) ∙ eqb-true _ _ (sym c.if-is_empty.ensures)) in
    (n, n)

pub returns-clause-steps : goal.returns-clause-steps
returns-clause-steps c =
    let t = c.args.self.now.0.now in
    let f = filled c.split_word.result.0.now c.if-is_empty.ensures in
    (rw (c.split_word.ensures.word, c.split_word.ensures.after) (words_more t (rw (← c.split_word.ensures.word) f)), f)

pub returns-clause-goes : goal.returns-clause-goes
returns-clause-goes c =
    let t = c.args.self.now.0.now in
    let e : words_of t ≡ first_word t ∷ words_of (after_word t) = words_more t (rw (← c.split_word.ensures.word) (filled c.split_word.result.0.now c.if-is_empty.ensures)) in
    record { on = λ _. (tt, tt, rw c.split_word.ensures.after (omega (arith, ap length e))); keeps = tt; rests = λ _. tt }
