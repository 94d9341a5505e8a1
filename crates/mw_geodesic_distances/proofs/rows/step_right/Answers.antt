use Rattle.std.proofs.Common.{ℕ, length, subst}
use Rattle.mw_geodesic_distances.specs.Rows.{distance_at, IsRunRight}
use Rattle.mw_geodesic_distances.proofs.Lowered.{stepped_right}
use Rattle.mw_geodesic_distances.proofs.rows.step_right.Goals as goal

pub returns-clause-step : goal.returns-clause-step
returns-clause-step c =
    let mid = c.pull.new.row in
    let made = c.run_right.new.row in
    let run = subst (λ (t : ℕ). IsRunRight t (distance_at mid) (distance_at made)) c.pull.auto.row c.run_right.ensures in
    stepped_right c.args.reach (length c.args.row.now) (distance_at c.args.other.now) (distance_at c.args.row.now) (distance_at mid) (distance_at made) c.pull.ensures run
