use Rattle.std.proofs.Common.{◌≡◌, ℕ, ◌*◌, ◌-◌, ◌^◌, List, length, replicate, ap, ◌∙◌, arith}
use Rattle.mw_model.proofs.mw_facts.Elements.{take-written}
use Rattle.mw_model.specs.Rasters.{raster}
use Rattle.mw_pixel_words.specs.Packed.{samples_of}
use Rattle.mw_pixel_words.proofs.Filled.{all_samples}
use Rattle.mw_pixel_words.proofs.Trims.{trimmed_bit}
use Rattle.mw_pixel_words.proofs.words.Words.all.Goals as goal

pub returns : goal.returns
returns c =
    let out = c.trim_rows.new.out in
    let whole : length out ≡ c.in_ok-words.words.len = omega arith in
    c.new.ensures
    ∙ ap (λ (t : List ℕ). raster c.args.width c.args.height (samples_of c.args.width c.args.height t)) (take-written c.in_ok-words.words.items out c.in_ok-words.words.len whole)
    ∙ ap (raster c.args.width c.args.height)
    (all_samples c.args.width c.args.height c.as_mut_slice.result.now out (c.as_mut_slice.ensures.value ∙ c.in_ok-words.ensures ∙ ap (λ (t : ℕ). replicate (c.args.height * t) (2 ^ 64 - 1)) c.stride.ensures.value) (trimmed_bit c.args.width c.args.height c.as_mut_slice.result.now out c.trim_rows.ensures))
