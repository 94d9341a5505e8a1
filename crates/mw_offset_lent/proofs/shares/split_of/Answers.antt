use Rattle.std.proofs.Common.{arith}
use Rattle.mw_offset_lent.proofs.Covers.{cover_by}
use Rattle.mw_offset_lent.proofs.shares.split_of.Goals as goal

pub returns-clause-split : goal.returns-clause-split
returns-clause-split c = λ lanes four room within.
    let s = c.args.shares.now in
    let all = c.args.all.now in
    record {
      upper = cover_by s.shared.items s.upper.items all c.as_slice-shared.result.now c.as_slice-upper.result.now 0 c.as_slice-shared.ensures.value c.as_slice-upper.ensures.value c.requires.upper;
      lower = cover_by s.shared.items s.lower.items all c.as_slice-shared.result.now c.as_slice-lower.result.now s.ahead c.as_slice-shared.ensures.value c.as_slice-lower.ensures.value c.requires.lower;
      ahead = c.requires.ahead (omega (arith, four, room, within));
      side = c.requires.shift.side;
      left = c.requires.shift.left;
      right = c.requires.shift.right;
      lanes = four;
      room = room;
      within = within;
    }
