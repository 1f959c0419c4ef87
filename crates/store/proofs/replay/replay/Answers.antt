use Rattle.std.proofs.Common.{refl, ◌∙◌, arith}
use Rattle.std.proofs.lemmas.List.{set-get_or}
use Rattle.store.proofs.Going.{going_more, going_end}
use Rattle.store.proofs.replay.replay.Goals as goal

pub loop-i-init : goal.loop-i-init
loop-i-init g c = record { going = record { front = refl; cells = refl; back = refl }; lender = refl; few = omega arith }

pub loop-i-preserved : goal.loop-i-preserved
loop-i-preserved g c =
    let got = c.in-Some.ensures.lookup in
    record {
      going = going_more (g.S.Store.cells c.args.store.now) (g.S.Store.cells c.loop-i.store) (g.S.Store.cells c.perform.new.store)
          c.args.accesses.now c.args.places.now c.loop-i.places c.loop-i.i c.in-Some.access.now c.perform.result
          got.3.0 (omega arith) c.loop-i.auto.places got.1 c.perform.ensures.answered c.perform.ensures.cells c.loop-i.invariant.going;
      lender = c.perform.ensures.lender ∙ c.loop-i.invariant.lender;
      few = omega (arith, got.3.0);
    }

pub returns-after-loop-i : goal.returns-after-loop-i
returns-after-loop-i g c =
    record {
      cells = going_end (g.S.Store.cells c.args.store.now) (g.S.Store.cells c.loop-i.store) c.args.accesses.now c.args.places.now
          c.loop-i.places c.loop-i.i (omega arith) c.loop-i.invariant.going;
      lender = c.loop-i.invariant.lender;
    }

pub returns-in_default : goal.returns-in_default
returns-in_default g c =
    rw set-get_or (record {
      cells = going_end (g.S.Store.cells c.args.store.now) (g.S.Store.cells c.loop-i.store) c.args.accesses.now c.args.places.now
          c.loop-i.places c.loop-i.i (omega (arith, c.in_default.ensures.lookup.3)) c.loop-i.invariant.going;
      lender = c.loop-i.invariant.lender;
    })
