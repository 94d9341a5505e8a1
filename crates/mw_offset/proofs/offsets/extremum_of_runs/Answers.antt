use Rattle.std.proofs.Common.{◌≤◌, arith}
use Rattle.mw_model.specs.Windows.{seen_at}
use Rattle.mw_line.proofs.Tiles.{tile_made, on_frame}
use Rattle.mw_line.proofs.Within.{sliding_within}
use Rattle.mw_offset.proofs.offsets.extremum_of_runs.Goals as goal

pub returns-clause-over_window : goal.returns-clause-over_window
returns-clause-over_window g c =
    tile_made g.E.Extremum.merge c.args.neutral c.args.neutral (seen_at c.args.window.now) c.args.offsets.now c.args.tile c.in_ok-samples.samples.items c.new.result c.new.ensures
    (omega (arith, c.in_ok-samples.ensures.size)) c.in_ok-samples.ensures.cells

pub returns-clause-over_frame : goal.returns-clause-over_frame
returns-clause-over_frame g c = λ f window. on_frame g.E.Extremum.merge c.args.neutral c.args.window.now f c.args.offsets.now c.args.tile c.new.result (returns-clause-over_window g c) window

pub returns-clause-small : goal.returns-clause-small
returns-clause-small g c = λ most n-le all.
    sliding_within g.E.Extremum.merge (λ (s : g.row.P.Denot). g.P.Pixel.level s ≤ most) (λ a b p q. g.met.E.Extremum.stays_within a b most p q) c.args.neutral n-le c.args.window.now all c.args.offsets.now c.args.tile
    c.new.result (returns-clause-over_window g c)
