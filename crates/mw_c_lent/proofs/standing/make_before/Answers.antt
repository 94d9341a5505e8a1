use Rattle.std.proofs.Common.{◌≡◌, ℕ, ◌+◌, ◌-◌, ◌*◌, ◌≤◌, length, refl, ap, sym, subst, arith}
use borrow.Rule.Slice.PartMut.{put_mid}
use Rattle.mw_model.specs.declared.offsets.Rect.{Rect}
use Rattle.mw_c_lent.specs.Slides.{AreFrameRows, slide_picture}
use Rattle.mw_c_lent.proofs.Lessened.{slide_made}
use Rattle.mw_c_lent.proofs.Slid.{alike_strip, frame_strip, slide_shape, slide_size, whole_sides}
use Rattle.mw_c_lent.proofs.Stood.{fewer_rows, rows_behind, two_parts}
use Rattle.mw_c_lent.proofs.standing.make_before.Goals as goal

pub overflow_add-stop : goal.overflow_add-stop
overflow_add-stop g c =
    let s = c.args.standing in
    let m = c.frame_width-width.result in
    let held : (c.args.end - s.from) * m ≤ length c.args.between.now = subst (λ (t : ℕ). (c.args.end - s.from) * t ≤ length c.args.between.now) (sym c.frame_width-width.ensures) c.requires.held in
    omega (arith, held, two_parts s.from s.to c.args.end m c.requires.joined (omega arith))

pub slice_bounds-rows-end : goal.slice_bounds-rows-end
slice_bounds-rows-end g c =
    let s = c.args.standing in
    let m = c.frame_width-width.result in
    let held : (c.args.end - s.from) * m ≤ length c.args.between.now = subst (λ (t : ℕ). (c.args.end - s.from) * t ≤ length c.args.between.now) (sym c.frame_width-width.ensures) c.requires.held in
    omega (arith, held, two_parts s.from s.to c.args.end m c.requires.joined (omega arith))

pub returns-then-standing-end-clause-made : goal.returns-then-standing-end-clause-made
returns-then-standing-end-clause-made g c = λ f whole top.
    let s = c.args.standing in
    fewer_rows g.P.Pixel.level (slide_picture c.args.maker.first.slide f) s.from s.to c.args.end c.args.between.now (omega arith) (c.requires.stands f whole top)

pub returns-clause-made : goal.returns-clause-made
returns-clause-made g c = λ f whole top.
    let level = g.P.Pixel.level in
    let w = c.args.lent.now in
    let slide = c.args.maker.first.slide in
    let s = c.args.standing in
    let m = c.frame_width-width.result in
    let old = c.args.between.now in
    let part = c.put_slide.new.out in
    let tile : Rect = record { x = 0; y = s.to; width = m; height = c.args.end - s.to } in
    let rows : AreFrameRows tile w.frame_width w.frame_height = record { left = refl; across = c.frame_width-width.ensures; some = omega arith; low = omega (arith, c.requires.low); wide = c.requires.wide } in
    let sides = whole_sides level w f whole in
    let strip = frame_strip w.frame_width w.frame_height tile f sides.0 sides.1 rows in
    let made = slide_made level w f slide c.args.maker.top tile part whole top strip c.put_slide.ensures.made in
    let held : (c.args.end - s.from) * m ≤ length old = subst (λ (t : ℕ). (c.args.end - s.from) * t ≤ length old) (sym c.frame_width-width.ensures) c.requires.held in
    let a : ℕ = (s.to - s.from) * m in
    let k : ℕ = (c.args.end - s.to) * m in
    let same : a + k - a ≡ k = omega arith in
    rows_behind level (slide_picture slide f) tile s.from c.args.end old part (put_mid a (a + k - a) old part) (alike_strip f (slide_picture slide f) tile (slide_shape slide f) strip) (slide_size slide f) c.requires.joined (omega arith)
    (omega (arith, held, two_parts s.from s.to c.args.end m c.requires.joined (omega arith))) made (ap (λ (n : ℕ). put_mid a n old part) same) (c.requires.stands f whole top)
