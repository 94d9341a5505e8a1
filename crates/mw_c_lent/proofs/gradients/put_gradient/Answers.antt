use Rattle.std.proofs.Common.{◌≡◌, ℕ, true, map, sym, arith, rules, ap, ◌∙◌}
use Rattle.std.proofs.lemmas.Result.{IfOk-weaker}
use Rattle.mw_model.specs.declared.offsets.Rect.{Rect}
use Rattle.mw_model.specs.Flat.{dilation, erosion, minus}
use Rattle.mw_model.specs.Rectangles.{box_offsets}
use Rattle.mw_model.specs.Windows.{View, seen_at}
use Rattle.mw_c_arrays.specs.Sources.{picture_in}
use Rattle.mw_c_arrays.proofs.SourceImages.{source_image}
use Rattle.mw_grid.specs.Rectangles.{whole_frame}
use Rattle.mw_c_lent.specs.Boxes.{IsMadeUnder}
use Rattle.mw_c_lent.specs.InPlace.{IsWholeView}
use Rattle.mw_c_lent.specs.Rows.{IsStrip}
use Rattle.mw_c_lent.specs.Slides.{range_value}
use Rattle.mw_c_lent.proofs.Ranges.{whole_range, whole_stands}
use Rattle.mw_c_lent.proofs.Views.{whole_is}
use Rattle.mw_c_lent.proofs.gradients.put_gradient.Goals as goal

pub returns-clause-made : goal.returns-clause-made
returns-clause-made g c =
    let level = g.P.Pixel.level in
    let f = picture_in c.args.f in
    let w = c.new-lent.result in
    let r = c.whole_frame-frame.result in
    let b = c.args.offsets in
    let top = c.in-Some-of.top in
    let out = c.gradient_into.new.out in
    let image = source_image c.args.f c.requires.sound in
    let whole : IsWholeView level w f =
    whole_is level w f c.width-width.result c.height-height.result r c.in-Some.samples.now c.width-width.ensures c.height-height.ensures c.whole_frame-frame.ensures.value c.new-lent.ensures c.in-Some.ensures.samples image.picture.size in
    let is = c.whole_frame-frame.ensures.value in
    let high = ap (λ (t : Rect). t.height) is ∙ c.height-height.ensures in
    let strip : IsStrip r f = record {
      left = ap (λ (t : Rect). t.x) is;
      wide = ap (λ (t : Rect). t.width) is ∙ c.width-width.ensures;
      some = omega (arith, high, image.height.0);
      low = omega (arith, high, ap (λ (t : Rect). t.y) is);
    } in
    IfOk-weaker c.gradient_into.result (λ done. done ≡ true → IsMadeUnder (range_value (level top)) level (seen_at w) (box_offsets b) r out)
    (λ done. done ≡ true → map level out ≡ (minus (dilation (box_offsets b) f) (erosion (box_offsets b) f)).samples)
    (λ done made yes. whole_range level w f b top r out whole (sym (c.in-Some-of.ensures.level ∙ c.maxval.ensures)) strip (ap (λ (t : Rect). t.y) is) high (made yes))
    c.gradient_into.ensures.made

pub returns-in_default-clause-taken : goal.returns-in_default-clause-taken
returns-in_default-clause-taken g c = λ suit. absurd (c.in_default.ensures.none suit.levels)

pub returns-in_default-of-clause-taken : goal.returns-in_default-of-clause-taken
returns-in_default-of-clause-taken g c = λ suit.
    let yes = c.in_default-of.ensures.fits.1 (omega (arith, suit.maxval, c.maxval.ensures)) in
    search rules

pub returns-clause-taken : goal.returns-clause-taken
returns-clause-taken g c = λ suit.
    let level = g.P.Pixel.level in
    let f = picture_in c.args.f in
    let w = c.new-lent.result in
    let r = c.whole_frame-frame.result in
    let image = source_image c.args.f c.requires.sound in
    let whole : IsWholeView level w f =
    whole_is level w f c.width-width.result c.height-height.result r c.in-Some.samples.now c.width-width.ensures c.height-height.ensures c.whole_frame-frame.ensures.value c.new-lent.ensures c.in-Some.ensures.samples image.picture.size in
    let is : r ≡ whole_frame f.width f.height = c.whole_frame-frame.ensures.value ∙ ap (λ (n : ℕ). whole_frame n c.height-height.result) c.width-width.ensures ∙ ap (λ (n : ℕ). whole_frame f.width n) c.height-height.ensures in
    c.gradient_into.ensures.taken suit.small (whole_stands f.width f.height w.place r (ap (λ (v : View _). v.place) whole.view) is suit.wide image.height.0)
