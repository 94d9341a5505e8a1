use Rattle.std.proofs.Common.{◌≡◌, ◌+◌, ℕ, ◌∙◌, min, refl, ap, subst, arith}
use Rattle.mw_geodesic_distances.specs.Rows.{distance_at, IsRewritten}
use Rattle.mw_geodesic_distances.specs.Envelopes.{height_at}
use Rattle.mw_geodesic_distances.proofs.Lists.{made_none, made_more}
use Rattle.mw_geodesic_distances.proofs.envelope.draw_part.Goals as goal

pub loop-x-init : goal.loop-x-init
loop-x-init c = made_none c.args.start (λ x. min (height_at x c.args.site c.args.gap) c.args.top) (distance_at c.args.row.now)

pub loop-x-preserved : goal.loop-x-preserved
loop-x-preserved c =
    made_more c.args.start c.loop-x.x (c.loop-x.x + 1) c.cut.result (λ x. min (height_at x c.args.site c.args.gap) c.args.top) (distance_at c.args.row.now) c.loop-x.row refl (omega arith) (omega arith)
    (c.cut.ensures ∙ ap (λ (t : ℕ). min t c.args.top) c.height.ensures) c.loop-x.invariant

pub returns : goal.returns
returns c =
    let end : c.loop-x.x ≡ c.args.end = omega (arith, c.loop-x-test.false, c.requires.order) in
    subst (λ (t : ℕ). IsRewritten c.args.start t (λ x. min (height_at x c.args.site c.args.gap) c.args.top) (distance_at c.args.row.now) (distance_at c.loop-x.row)) end c.loop-x.invariant
