use Rattle.std.proofs.Common.{◌≡◌, ◌<◌, ◌≤◌, length, get_or, arith}
use Rattle.std.proofs.lemmas.List.{length-take-le}
use Rattle.part.proofs.Ones.{or_none}
use Rattle.sheet.specs.Sound.{reads, writes}
use Rattle.sheet.proofs.Members.{member_none}
use Rattle.sheet.proofs.Keeps.{more_swaps, more_distinct}
use Rattle.sheet.proofs.sheet.Sheet.swap.Goals as goal

pub invariant_of-sheet : goal.invariant_of-sheet
invariant_of-sheet c =
    let s = c.args.self in
    let x = c.args.cell in
    let o = c.in-Ok.ensures in
    let f : s.count ≤ length s.swapped = omega arith in
    let room : s.count < 16 = rw (length-take-le s.count s.swapped f) at o.room in
    let lt : s.count < length s.swapped = omega arith in
    let z = or_none (get_or (reads s.rights) x 0) (get_or (writes s.rights) x 0) o.bare in
    record {
      least = s.least;
      most = s.most;
      few = omega arith;
      within = more_swaps s.swapped s.count x lt (λ k. k < s.size) s.within o.within;
      unread = more_swaps s.swapped s.count x lt (λ k. get_or (reads s.rights) k 0 ≡ 0) s.unread z.0;
      unwritten = more_swaps s.swapped s.count x lt (λ k. get_or (writes s.rights) k 0 ≡ 0) s.unwritten z.1;
      distinct = more_distinct s.swapped s.count x lt s.distinct (member_none x s.swapped s.count f o.free);
    }
