use Rattle.std.proofs.Common.{ℕ, length, subst}
use Rattle.mw_geodesic_distances.specs.Rows.{distance_at, IsRunLeft}
use Rattle.mw_geodesic_distances.proofs.Lowered.{stepped_left}
use Rattle.mw_geodesic_distances.proofs.rows.step_left.Goals as goal

pub returns-clause-step : goal.returns-clause-step
returns-clause-step c =
    let mid = c.pull.new.row in
    let made = c.run_left.new.row in
    let run = subst (λ (t : ℕ). IsRunLeft t (distance_at mid) (distance_at made)) c.pull.auto.row c.run_left.ensures in
    stepped_left c.args.reach (length c.args.row.now) (distance_at c.args.other.now) (distance_at c.args.row.now) (distance_at mid) (distance_at made) c.pull.ensures run
