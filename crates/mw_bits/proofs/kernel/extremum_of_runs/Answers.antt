use Rattle.std.proofs.Common.{cond, ◌∙◌}
use Rattle.mw_model.specs.Windows.{seen_at}
use Rattle.mw_offset.proofs.mw_line.Tiles.{tile_made, on_frame}
use Rattle.mw_offset.specs.mw_pixel_words.Packed.{samples_of}
use Rattle.mw_offset.proofs.mw_pixel_words.Bits.{sample_is_bit, length-samples_of}
use Rattle.mw_bits.proofs.UniformSeen.{uniform_made}
use Rattle.mw_bits.proofs.kernel.extremum_of_runs.Goals as goal

pub returns-in-Some-clause-over_window : goal.returns-in-Some-clause-over_window
returns-in-Some-clause-over_window g c =
    uniform_made g.E.Extremum.merge (g.E.Extremum.neutral_of 1) (cond c.in-Some.pixel 1 0) (seen_at c.args.set.now) c.args.offsets.now c.args.tile c.of_words.result (c.of_words.ensures ∙ c.in_ok-uniform.ensures) c.in-Some.ensures

pub returns-in-Some-clause-over_frame : goal.returns-in-Some-clause-over_frame
returns-in-Some-clause-over_frame g c = λ f window.
    on_frame g.E.Extremum.merge (g.E.Extremum.neutral_of 1) c.args.set.now f c.args.offsets.now c.args.tile c.of_words.result (returns-in-Some-clause-over_window g c) window

pub returns-clause-over_window : goal.returns-clause-over_window
returns-clause-over_window g c =
    let tile = c.args.tile in
    let words = c.in_ok-words.words.items in
    tile_made g.E.Extremum.merge (g.E.Extremum.neutral_of 1) 0 (seen_at c.args.set.now) c.args.offsets.now tile (samples_of tile.width tile.height words) c.plane_of.result c.plane_of.ensures
    (length-samples_of tile.width tile.height words)
    (λ x y less row_less. sample_is_bit tile.width tile.height words x y less row_less ∙ c.in_ok-words.ensures.cells x y less row_less)

pub returns-clause-over_frame : goal.returns-clause-over_frame
returns-clause-over_frame g c = λ f window.
    on_frame g.E.Extremum.merge (g.E.Extremum.neutral_of 1) c.args.set.now f c.args.offsets.now c.args.tile c.plane_of.result (returns-clause-over_window g c) window
