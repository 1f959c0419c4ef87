use Rattle.std.proofs.Common.{ap, ◌∙◌}
use Rattle.host.specs.declared.host.Host.{Host}
use Rattle.host.specs.Parts.{request_of}
use Rattle.pile.proofs.Plain.{plain_commanded}
use Rattle.pile.proofs.single.command_bare.Goals as goal

pub returns : goal.returns
returns g c =
    let st = g.S.Store in
    let q = request_of c.args.place c.args.bytes.now c.args.args.now c.args.results.now in
    let did = c.command.ensures.commanded in
    record {
      commanded = plain_commanded st g.S.Item.Element g.I.InstructionSet c.args.kept.now c.keep.result c.args.store c.into_store.result c.args.set c.resume-host.result
          c.command.new.self q c.command.result c.resume-host.ensures c.keep.ensures c.into_store.ensures did;
      lender = ap st.lender c.into_store.ensures ∙ (c.command.ensures.lender ∙ ap (λ (h : Host g.row.S.Denot g.row.I.Denot g.row.S-Item.Denot). st.lender h.store) c.resume-host.ensures);
      cleared = c.command.ensures.cleared;
    }
