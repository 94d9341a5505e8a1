use Rattle.std.proofs.Common.{ℕ, ◌*◌, length, ap, sym, ◌∙◌}
use Rattle.mw_model.specs.Rasters.{Raster}
use Rattle.mw_pixel_words.proofs.Bits.{length-samples_of, samples_small}
use Rattle.mw_pixel_words.proofs.words.Words.width.Goals as goal

pub returns-clause-size : goal.returns-clause-size
returns-clause-size c =
    let inside = c.self.inside in
    ap (λ (v : Raster ℕ). length v.cells) (sym c.self.view_is) ∙ length-samples_of inside.width inside.height inside.words.items ∙ ap (λ (v : Raster ℕ). v.height * v.width) c.self.view_is

pub returns-clause-small : goal.returns-clause-small
returns-clause-small c =
    let inside = c.self.inside in
    samples_small inside.width inside.height inside.words.items c.args.self.now.cells (ap (λ (v : Raster ℕ). v.cells) (sym c.self.view_is))
