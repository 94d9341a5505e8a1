use Rattle.std.proofs.Common.{◌∙◌, ℕ, length, subst, arith}
use Rattle.mw_geodesic_distances.specs.Rows.{distance_at, IsLoweredFromLeft, IsLoweredFromRight}
use Rattle.mw_geodesic_distances.proofs.Lowered.{pulled_straight, pulled_wide}
use Rattle.mw_geodesic_distances.proofs.rows.pull.Goals as goal

pub returns-else-reach-gt0 : goal.returns-else-reach-gt0
returns-else-reach-gt0 c = pulled_straight c.args.reach (length c.args.row.now) (distance_at c.args.other.now) (distance_at c.args.row.now) (distance_at c.lower.new.row) (omega arith) c.lower.ensures

pub returns-then-reach-gt0 : goal.returns-then-reach-gt0
returns-then-reach-gt0 c =
    let other = c.args.other.now in
    let a = c.lower.new.row in
    let b = c.lower_from_left.new.row in
    let made = c.lower_from_right.new.row in
    let left = subst (λ (t : ℕ). IsLoweredFromLeft t (distance_at other) (distance_at a) (distance_at b)) c.lower.auto.row c.lower_from_left.ensures in
    let right = subst (λ (t : ℕ). IsLoweredFromRight t (distance_at other) (distance_at b) (distance_at made)) (c.lower_from_left.auto.row ∙ c.lower.auto.row) c.lower_from_right.ensures in
    pulled_wide c.args.reach (length c.args.row.now) (distance_at other) (distance_at c.args.row.now) (distance_at a) (distance_at b) (distance_at made) (omega arith) c.lower.ensures left right
