use Rattle.std.proofs.Common.{◌≤◌, length, refl, arith}
use Rattle.sheet.specs.Laws.{Kept}
use Rattle.sheet.specs.View.{rows_of}
use Rattle.sheet.proofs.Keeps.{kept}
use Rattle.sheet.proofs.sheet.Sheet.swaps.Goals as goal

pub returns : goal.returns
returns c =
    let s = c.args.self.now in
    let f : s.count ≤ length s.swapped = omega arith in
    let k : Kept (rows_of s) = kept s.rights s.size s.swapped s.count f s.few s.within s.unread s.unwritten s.distinct in
    record { value = refl; few = k.few; within = k.within; distinct = k.distinct; kept = k }
