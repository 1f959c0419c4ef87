use Rattle.std.proofs.Common.{ℕ, ◌≤◌, List, length, sym, ◌∙◌, ap₂, subst, arith}
use Rattle.std.proofs.lemmas.List.{map-set}
use Rattle.sheet.specs.declared.rights.Rights.{Rights}
use Rattle.sheet.specs.Laws.{TakenIs16}
use Rattle.sheet.specs.View.{rows_of}
use Rattle.sheet.proofs.Members.{member_none}
use Rattle.sheet.proofs.Keeps.{row_zero_set}
use Rattle.sheet.proofs.Outcomes.{granted_is, taken_is_16}
use Rattle.sheet.proofs.sheet.Sheet.grant.Goals as goal

pub invariant_of-sheet : goal.invariant_of-sheet
invariant_of-sheet c =
    let s = c.args.self in
    let f : s.count ≤ length s.swapped = omega arith in
    let away = member_none c.args.cell s.swapped s.count f c.in-Ok.ensures.free in
    record {
      least = s.least;
      most = s.most;
      few = s.few;
      within = s.within;
      unread = row_zero_set (λ r. r.read) s.rights s.swapped s.count c.args.cell c.in-Ok.rights away s.unread;
      unwritten = row_zero_set (λ r. r.write) s.rights s.swapped s.count c.args.cell c.in-Ok.rights away s.unwritten;
      distinct = s.distinct;
    }

pub returns-in-Ok : goal.returns-in-Ok
returns-in-Ok c =
    let s = c.args.self in
    let t = rows_of s in
    let x = c.args.cell in
    let r = c.in-Ok.rights in
    record {
      after = ap₂ (λ (xs ys : List ℕ). record { rows = record { read = xs; write = ys; size = t.size; swaps = t.swaps }; number = 0 })
          (map-set (λ (r : Rights). r.read) s.rights x r) (map-set (λ (r : Rights). r.write) s.rights x r)
          ∙ sym (granted_is 8 t x c.args.part c.args.mode r c.in-Ok.ensures);
      taken = subst (λ (k : ℕ). TakenIs16 8 t x c.args.part c.args.mode k) c.in-Ok.ensures.number (taken_is_16 8 t x c.args.part c.args.mode);
    }

pub returns-in-Err-clause-taken : goal.returns-in-Err-clause-taken
returns-in-Err-clause-taken c =
    let t = rows_of c.args.self in
    subst (λ (k : ℕ). TakenIs16 8 t c.args.cell c.args.part c.args.mode k) (sym c.in-Err.ensures) (taken_is_16 8 t c.args.cell c.args.part c.args.mode)
