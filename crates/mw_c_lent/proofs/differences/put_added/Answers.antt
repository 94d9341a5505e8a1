use Rattle.std.proofs.Common.{List, map, ap, ◌∙◌}
use Rattle.mw_c_lent.specs.Slides.{steps_picture}
use Rattle.mw_c_lent.proofs.Lessened.{strip_less, strip_of_view}
use Rattle.mw_c_lent.proofs.Slid.{frame_strip, steps_strip, whole_sides}
use Rattle.mw_c_lent.proofs.differences.put_added.Goals as goal

pub returns-clause-made : goal.returns-clause-made
returns-clause-made g c = λ f whole top.
    let level = g.P.Pixel.level in
    let w = c.args.lent.now in
    let r = c.args.strip in
    let steps = c.args.job.steps in
    let sides = whole_sides level w f whole in
    let strip = frame_strip w.frame_width w.frame_height r f sides.0 sides.1 c.requires.strip in
    let own = map level c.own_rows.result.now in
    let itself = ap (λ (xs : List _). map level xs) c.own_rows.ensures.value ∙ strip_of_view level w f r whole strip in
    let made = c.put_second.ensures.made f whole top in
    strip_less level (steps_picture steps f) f r c.subtract_row.new.row (map level c.put_second.new.out) own (steps_strip steps f r strip) c.subtract_row.ensures made itself
