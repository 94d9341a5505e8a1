use Rattle.std.proofs.Common.{map}
use Rattle.mw_c_lent.specs.Slides.{slide_picture}
use Rattle.mw_c_lent.proofs.Lessened.{slide_made, strip_less}
use Rattle.mw_c_lent.proofs.Slid.{alike_strip, frame_strip, slide_shape, whole_sides}
use Rattle.mw_c_lent.proofs.differences.put_less.Goals as goal

pub returns-clause-made : goal.returns-clause-made
returns-clause-made g c = λ f whole top.
    let level = g.P.Pixel.level in
    let w = c.args.lent.now in
    let r = c.args.strip in
    let pair = c.args.pair in
    let sides = whole_sides level w f whole in
    let strip = frame_strip w.frame_width w.frame_height r f sides.0 sides.1 c.requires.strip in
    let first = slide_made level w f pair.upper pair.top r c.put_slide.new.out whole top strip c.put_slide.ensures.made in
    let second = c.front_rows.ensures.rows (slide_picture pair.lower f) (alike_strip f (slide_picture pair.lower f) r (slide_shape pair.lower f) strip) (c.requires.stands f whole top) in
    strip_less level (slide_picture pair.upper f) (slide_picture pair.lower f) r c.subtract_row.new.row (map level c.put_slide.new.out) (map level c.front_rows.result.now)
    (alike_strip f (slide_picture pair.upper f) r (slide_shape pair.upper f) strip) c.subtract_row.ensures first second
