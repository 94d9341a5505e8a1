use Rattle.std.proofs.Common.{ℕ, ◌≡◌, ◌+◌, arith, refl, subst}
use Rattle.mw_model.specs.PlanSteps.{ranked}
use Rattle.mw_model.specs.Windows.{seen_at}
use Rattle.mw_rank.specs.Ranks.{levels_under, HasRows}
use Rattle.mw_rank.proofs.Rows.{has_rows_more}
use Rattle.mw_rank_medians.proofs.tiles.median_samples.Goals as goal

pub loop-row-preserved : goal.loop-row-preserved
loop-row-preserved g c =
    let wanted = c.args.wanted in
    let tile = wanted.tile in
    let value = λ (x y : ℕ). ranked wanted.k (levels_under g.P.Pixel.level (seen_at wanted.window.now) wanted.offsets.now (tile.x + x) (tile.y + y)) in
    record {
      wide = omega (arith, c.in_ok-push_row.ensures.size, c.loop-row.invariant.wide);
      part = omega (arith, c.in_ok-push_row.ensures.size, c.loop-row.invariant.part);
      rows = has_rows_more g.P.Pixel.level value (λ x. value x c.loop-row.row) tile.width c.loop-row.row c.loop-row.out.items c.push_row.new.out.items (λ x. refl) c.in_ok-push_row.ensures.medians c.loop-row.invariant.rows;
    }

pub returns : goal.returns
returns g c =
    let wanted = c.args.wanted in
    let tile = wanted.tile in
    let all : c.loop-row.row ≡ tile.height = omega arith in
    subst (λ (n : ℕ). HasRows g.P.Pixel.level (λ x y. ranked wanted.k (levels_under g.P.Pixel.level (seen_at wanted.window.now) wanted.offsets.now (tile.x + x) (tile.y + y))) tile.width n c.loop-row.out.items) all c.loop-row.invariant.rows
