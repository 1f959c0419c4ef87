use Rattle.std.proofs.Common.{length, ap, ◌∙◌}
use Rattle.host.specs.declared.host.Host.{Host}
use Rattle.run.specs.Runs.{requests_of, done_of}
use Rattle.pile.proofs.Plain.{plain_ran}
use Rattle.pile.proofs.show.run_bare.Goals as goal

pub returns : goal.returns
returns g c =
    let st = g.S.Store in
    let el = g.S.Item.Element in
    let is = g.I.InstructionSet in
    let y = c.run.new.host in
    let cs = done_of c.run.result (requests_of c.args.file (length c.args.args.now) (length c.args.results.now)) in
    let did = c.run.ensures.ran in
    record {
      answer = c.run.ensures.answer;
      ran = plain_ran st el is c.args.kept.now c.keep.result c.args.store c.into_store.result c.args.set c.resume-host.result y cs c.args.log.now c.run.new.log
          c.resume-host.ensures c.keep.ensures c.into_store.ensures did;
      lender = ap st.lender c.into_store.ensures ∙ (c.run.ensures.lender ∙ ap (λ (h : Host g.row.S.Denot g.row.I.Denot g.row.S-Item.Denot). st.lender h.store) c.resume-host.ensures);
      args = c.run.ensures.args;
      results = c.run.ensures.results;
    }
