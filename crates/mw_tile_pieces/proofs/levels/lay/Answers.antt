use Rattle.std.proofs.Common.{List, length, ap, ◌∙◌}
use Rattle.mw_model.specs.Rasters.{Raster}
use Rattle.mw_tile_pieces.proofs.Laid.{apart_laid, samples_fit, samples_laid}
use Rattle.mw_tile_pieces.proofs.levels.lay.Goals as goal

pub copy_block-requires-clause-fits : goal.copy_block-requires-clause-fits
copy_block-requires-clause-fits g c =
    samples_fit c.args.place c.place-held.result c.args.piece.now c.in-Some.block _ _ c.place-held.ensures c.in-Some.ensures c.requires.size (ap (λ (t : List _). length t) (c.samples.ensures.value ∙ ap (λ (f : Raster _). f.cells) c.plane.ensures.value) ∙ c.plane.ensures.full)

pub returns-in-Some : goal.returns-in-Some
returns-in-Some g c =
    samples_laid c.args.place c.place-held.result c.args.piece.now c.in-Some.block _ _ _ c.place-held.ensures c.in-Some.ensures (c.samples.ensures.value ∙ ap (λ (f : Raster _). f.cells) c.plane.ensures.value) c.copy_block.auto.out c.copy_block.ensures

pub returns-in_default : goal.returns-in_default
returns-in_default g c = apart_laid c.args.place c.place-held.result c.args.piece.now c.args.out.now c.place-held.ensures c.in_default.ensures
