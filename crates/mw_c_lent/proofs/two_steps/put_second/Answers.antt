use Rattle.std.proofs.Common.{◌≡◌, ℕ, ◌+◌, ◌*◌, ◌≤◌, min, length, sym, subst, ◌∙◌}
use Rattle.mw_model.specs.Rectangles.{box_offsets}
use Rattle.mw_model.specs.Windows.{View, seen_at}
use Rattle.mw_c_lent.specs.Boxes.{IsMadeUnder}
use Rattle.mw_c_lent.specs.Slides.{slide_box, slide_picture, slide_value}
use Rattle.mw_c_lent.proofs.Slid.{alike_strip, frame_strip, grown_in, room_for, slide_shape, steps_made, whole_sides}
use Rattle.mw_c_lent.proofs.Stood.{rows_at}
use Rattle.mw_c_lent.proofs.two_steps.put_second.Goals as goal

pub front_rows-rows-requires : goal.front_rows-rows-requires
front_rows-rows-requires g c =
    let w = c.args.lent.now in
    let strip = c.args.strip in
    let reach = c.args.job.steps.reach in
    let place = c.grown-place.result in
    let rows = grown_in w.frame_width w.frame_height c.frame_width-width.result c.frame_height-height.result reach strip place c.frame_width-width.ensures c.frame_height-height.ensures c.requires.strip c.grown-place.ensures.value in
    let same : strip.width ≡ place.width = c.requires.strip.across ∙ sym rows.across in
    let most : ℕ = min (strip.height + (reach.up + reach.down)) w.frame_height in
    room_for place.height most place.width (length c.args.between.now) rows.few (subst (λ (t : ℕ). most * t ≤ length c.args.between.now) same c.requires.between)

pub returns-clause-made : goal.returns-clause-made
returns-clause-made g c = λ f whole top.
    let level = g.P.Pixel.level in
    let w = c.args.lent.now in
    let strip = c.args.strip in
    let steps = c.args.job.steps in
    let place = c.grown-place.result in
    let made = slide_picture steps.first f in
    let sides = whole_sides level w f whole in
    let wide = c.frame_width-width.ensures ∙ sides.0 in
    let high = c.frame_height-height.ensures ∙ sides.1 in
    let rows = grown_in w.frame_width w.frame_height c.frame_width-width.result c.frame_height-height.result steps.reach strip place c.frame_width-width.ensures c.frame_height-height.ensures c.requires.strip c.grown-place.ensures.value in
    let own = alike_strip f made place (slide_shape steps.first f) (frame_strip w.frame_width w.frame_height place f sides.0 sides.1 rows.rows) in
    let stands = rows_at level made _ _ place.y (place.y + place.height) c.args.between.now (sym rows.from) (sym rows.to) (c.requires.stands f whole top) in
    let first = c.front_rows-rows.ensures.rows made own stands in
    let second = subst (λ (v : View g.row.P.Denot). IsMadeUnder (slide_value (level c.args.job.top) steps.second) level (seen_at v) (box_offsets (slide_box steps.second)) strip c.put_slide.new.out) c.new-seen.ensures c.put_slide.ensures.made in
    steps_made level f steps c.args.job.top c.frame_width-width.result c.frame_height-height.result place strip c.front_rows-rows.result.now c.put_slide.new.out top wide high
    (frame_strip w.frame_width w.frame_height strip f sides.0 sides.1 c.requires.strip) c.grown-place.ensures.value c.requires.sound.reach first second
