use Rattle.std.proofs.Common.{ℕ, ◌*◌, replicate, ap, ◌∙◌}
use Rattle.mw_model.specs.Rasters.{raster}
use Rattle.mw_pixel_words.proofs.Filled.{none_packed, none_samples}
use Rattle.mw_pixel_words.proofs.words.Words.none.Goals as goal

pub new-requires : goal.new-requires
new-requires c = none_packed c.args.width c.args.height c.in_ok-words.words.items (c.in_ok-words.ensures ∙ ap (λ (t : ℕ). replicate (c.args.height * t) 0) c.stride.ensures.value)

pub returns : goal.returns
returns c =
    c.new.ensures ∙ ap (raster c.args.width c.args.height) (none_samples c.args.width c.args.height c.in_ok-words.words.items (c.in_ok-words.ensures ∙ ap (λ (t : ℕ). replicate (c.args.height * t) 0) c.stride.ensures.value))
