use Rattle.std.proofs.Common.{◌≡◌, ap, sym, ◌∙◌}
use Rattle.mw_model.specs.declared.offsets.OffsetBox.{OffsetBox}
use Rattle.mw_model.specs.Flat.{dilation, erosion, minus}
use Rattle.mw_model.specs.Rectangles.{box_offsets}
use Rattle.mw_c_lent.specs.declared.slides.Slide.{Slide}
use Rattle.mw_c_lent.specs.declared.slides.Slide.TheVariants as slide
use Rattle.mw_c_lent.specs.Slides.{slide_picture}
use Rattle.mw_c_lent.proofs.Ranges.{box_same}
use Rattle.mw_c_lent.proofs.gradients.gradient_box.Goals as goal

pub returns-then-eq-clause-picture : goal.returns-then-eq-clause-picture
returns-then-eq-clause-picture c = λ f.
    let box = c.in-Greatest.offsets in
    let other = c.in-Least.others in
    let same : box ≡ other = box_same box other (sym c.if-eq.ensures) in
    ap (λ (b : OffsetBox). minus (dilation (box_offsets box) f) (erosion (box_offsets b) f)) same
    ∙ ap (λ (s : Slide). minus (slide_picture s f) (erosion (box_offsets other) f)) (sym c.in-Greatest.is)
    ∙ ap (λ (s : Slide). minus (slide_picture c.args.upper f) (slide_picture s f)) (sym c.in-Least.is)

pub returns-then-eq-clause-range : goal.returns-then-eq-clause-range
returns-then-eq-clause-range c =
    let box = c.in-Greatest.offsets in
    let other = c.in-Least.others in
    record {
      greatest = c.in-Greatest.is;
      least = c.in-Least.is ∙ ap (λ (b : OffsetBox). slide.Least b) (sym (box_same box other (sym c.if-eq.ensures)));
    }
