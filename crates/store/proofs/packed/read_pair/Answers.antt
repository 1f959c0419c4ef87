use Rattle.std.proofs.Common.{sym, refl, ap, ◌∙◌, Ok, arith}
use Rattle.store.proofs.Within.{got_within, got_beyond, reads_refused}
use Rattle.store.proofs.Pairing.{length-elements, element_pair}
use Rattle.store.proofs.packed.read_pair.Goals as goal

pub returns-in_err-first-clause-reads : goal.returns-in_err-first-clause-reads
returns-in_err-first-clause-reads g c =
    let past = got_beyond c.as_chunks.result.0.now c.args.n c.get.result c.ok_or.result _ c.get.ensures.lookup c.ok_or.ensures.value c.in_err-first.was in
    reads_refused _ c.args.n c.from_residual.result c.from_residual.ensures.0
    (omega (arith, past, c.as_chunks.ensures.front_len, length-elements g.E.Element.unpacked c.args.words.now))

pub returns-clause-reads : goal.returns-clause-reads
returns-clause-reads g c =
    let cs = c.as_chunks.result.0.now in
    let got = got_within cs c.args.n c.get.result c.ok_or.result c.in_ok-first.field-0 c.get.ensures.lookup c.ok_or.ensures.value c.in_ok-first.was in
    record {
      answer = ap Ok c.unpack.ensures ∙ sym (element_pair g.E.Element.unpacked c.args.words.now cs c.args.n _ c.as_chunks.ensures.front got.0 got.1);
      kept = refl;
    }
