use Rattle.std.proofs.Common.{◌≡◌, true, map, ap, sym, subst, ◌∙◌}
use Rattle.std.proofs.lemmas.Result.{IfOk-weaker}
use Rattle.mw_model.specs.declared.offsets.OffsetBox.{OffsetBox}
use Rattle.mw_model.specs.Flat.{dilation, erosion, minus}
use Rattle.mw_model.specs.Pictures.{Picture}
use Rattle.mw_model.specs.Rectangles.{box_offsets}
use Rattle.mw_c_arrays.specs.Sources.{picture_in}
use Rattle.mw_c_lent.specs.Slides.{slide_box, slide_picture}
use Rattle.mw_c_lent.specs.Suited.{SuitGradient}
use Rattle.mw_c_lent.proofs.gradients.put_range.Goals as goal

pub returns-clause-made : goal.returns-clause-made
returns-clause-made g c =
    let level = g.P.Pixel.level in
    let f = picture_in c.args.f in
    let b = c.in-Some.offsets in
    let out = c.put_gradient.new.out in
    IfOk-weaker c.put_gradient.result (λ done. done ≡ true → map level out ≡ (minus (dilation (box_offsets b) f) (erosion (box_offsets b) f)).samples)
    (λ done. done ≡ true → map level out ≡ (minus (slide_picture c.args.upper f) (slide_picture c.args.lower f)).samples)
    (λ done made yes. made yes ∙ ap (λ (p : Picture). p.samples) (c.in-Some.ensures.picture f))
    c.put_gradient.ensures.made

pub returns-in_default-clause-taken : goal.returns-in_default-clause-taken
returns-in_default-clause-taken g c = λ b range suit. absurd (c.in_default.ensures.none b range)

pub returns-clause-taken : goal.returns-clause-taken
returns-clause-taken g c = λ b range suit.
    let same : b ≡ c.in-Some.offsets = ap slide_box (sym range.greatest ∙ c.in-Some.ensures.range.greatest) in
    c.put_gradient.ensures.taken (subst (λ (x : OffsetBox). SuitGradient g.P.Pixel.top_level x c.args.f) same suit)
