use Rattle.std.proofs.Common.{◌+◌, ◌*◌, arith, inl, refl, sym}
use Rattle.mw_geodesic_levels.specs.Levels.{level_numbered}
use Rattle.mw_geodesic_grey.proofs.Edges.{kept_at_edge, first_row, row_cleared, all_cleared}
use Rattle.mw_geodesic_grey.proofs.border.clear_inside.Goals as goal

pub returns-then-width-lt2 : goal.returns-then-width-lt2
returns-then-width-lt2 g c = λ x y p q. sym (kept_at_edge c.args.width c.args.height x y (level_numbered g.P.Pixel.level c.args.samples.now (y * c.args.width + x)) (inl (omega arith)))

pub loop-y-init : goal.loop-y-init
loop-y-init g c = record { size = c.requires; rows = first_row c.args.width c.args.height (level_numbered g.P.Pixel.level c.args.samples.now) }

pub loop-y-preserved : goal.loop-y-preserved
loop-y-preserved g c =
    let level = g.P.Pixel.level in
    record {
      size = omega (arith, c.clear_run.auto.samples, c.loop-y.invariant.size);
      rows = row_cleared c.args.width c.args.height c.loop-y.y (c.loop-y.y * c.args.width) (level_numbered level c.args.samples.now) (level_numbered level c.loop-y.samples) (level_numbered level c.clear_run.new.samples)
          (omega arith) (omega arith) (omega arith) refl c.clear_run.ensures.inside c.clear_run.ensures.outside c.loop-y.invariant.rows;
    }

pub returns : goal.returns
returns g c = all_cleared c.args.width c.args.height c.loop-y.y (level_numbered g.P.Pixel.level c.args.samples.now) (level_numbered g.P.Pixel.level c.loop-y.samples) (omega arith) c.loop-y.invariant.rows
