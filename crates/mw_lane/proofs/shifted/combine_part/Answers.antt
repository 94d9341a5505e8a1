use Rattle.std.proofs.Common.{arith, ◌+◌, ◌-◌, length, refl, ◌≤◌}
use Rattle.std.proofs.lemmas.Option.{slice_get_past}
use Rattle.mw_lane.proofs.Parts.{part_done}
use Rattle.mw_lane.proofs.shifted.combine_part.Goals as goal
use Rattle.mw_lane.proofs.shifted.combine_part.Goals.{else-ahead-row-via-then-ahead-row+else-behind-out, else-ahead-row-via-else-ahead-row}

pub returns-then-behind-out-clause-after : goal.returns-then-behind-out-clause-after
returns-then-behind-out-clause-after g c = λ x d from to.
    part_done g.E.Extremum.merge c.args.row.now c.args.out.now c.combine_rows.new.acc c.args.ahead c.args.behind c.min-count.result (c.args.behind + c.min-count.result - c.args.behind) (c.args.ahead + c.min-count.result - c.args.ahead) x d
    (omega arith) (omega arith) (omega arith) (omega arith) (omega arith) c.combine_rows.ensures from to

pub returns-else-ahead-row-clause-after : goal.returns-else-ahead-row-clause-after
returns-else-ahead-row-clause-after g c = λ x d from to.
    let past : length c.args.row.now ≤ x - c.args.behind + c.args.ahead = elim c.else-ahead-row.branch [ else-ahead-row-via-then-ahead-row+else-behind-out w ↦ omega arith | else-ahead-row-via-else-ahead-row w ↦ omega arith ] in
    rw (slice_get_past c.args.row.now (x - c.args.behind + c.args.ahead) past) refl
