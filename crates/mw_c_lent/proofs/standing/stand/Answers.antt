use Rattle.std.proofs.Common.{length, refl, sym, arith, ◌∙◌}
use Rattle.mw_c_lent.specs.Slides.{slide_picture}
use Rattle.mw_c_lent.proofs.Slid.{grown_in, slide_shape, whole_sides}
use Rattle.mw_c_lent.proofs.Stood.{grown_held}
use Rattle.mw_c_lent.proofs.standing.stand.Goals as goal

pub move_to_front-requires-clause-behind : goal.move_to_front-requires-clause-behind
move_to_front-requires-clause-behind g c =
    let w = c.args.lent.now in
    let reach = c.args.maker.first.reach in
    let rows = grown_in w.frame_width w.frame_height c.frame_width-width.result c.frame_height-height.result reach c.args.strip c.grown-place.result c.frame_width-width.ensures c.frame_height-height.ensures c.requires.strip c.grown-place.ensures.value in
    omega (arith, rows.from, c.requires.behind)

pub move_to_front-requires-clause-joined : goal.move_to_front-requires-clause-joined
move_to_front-requires-clause-joined g c =
    let w = c.args.lent.now in
    let reach = c.args.maker.first.reach in
    let rows = grown_in w.frame_width w.frame_height c.frame_width-width.result c.frame_height-height.result reach c.args.strip c.grown-place.result c.frame_width-width.ensures c.frame_height-height.ensures c.requires.strip c.grown-place.ensures.value in
    omega (arith, rows.from, c.requires.joined)

pub make_before-requires-clause-joined : goal.make_before-requires-clause-joined
make_before-requires-clause-joined g c =
    let w = c.args.lent.now in
    let reach = c.args.maker.first.reach in
    let rows = grown_in w.frame_width w.frame_height c.frame_width-width.result c.frame_height-height.result reach c.args.strip c.grown-place.result c.frame_width-width.ensures c.frame_height-height.ensures c.requires.strip c.grown-place.ensures.value in
    omega (arith, rows.from, c.requires.joined)

pub make_before-requires-clause-low : goal.make_before-requires-clause-low
make_before-requires-clause-low g c =
    let within = c.grown-place.ensures.within in
    omega (arith, within.down, c.frame_height-height.ensures)

pub make_before-requires-clause-held : goal.make_before-requires-clause-held
make_before-requires-clause-held g c =
    let w = c.args.lent.now in
    let reach = c.args.maker.first.reach in
    let rows = grown_in w.frame_width w.frame_height c.frame_width-width.result c.frame_height-height.result reach c.args.strip c.grown-place.result c.frame_width-width.ensures c.frame_height-height.ensures c.requires.strip c.grown-place.ensures.value in
    grown_held w.frame_width w.frame_height reach c.args.strip c.grown-place.result w.frame_width (length c.move_to_front.new.between) rows (sym c.requires.strip.across) (omega (arith, c.requires.between, c.move_to_front.ensures.between))

pub make_before-requires-clause-lines : goal.make_before-requires-clause-lines
make_before-requires-clause-lines g c = omega (arith, c.requires.lines, c.requires.strip.across)

pub make_before-requires-clause-stands : goal.make_before-requires-clause-stands
make_before-requires-clause-stands g c = λ f whole top.
    let w = c.args.lent.now in
    let slide = c.args.maker.first.slide in
    let sides = whole_sides g.P.Pixel.level w f whole in
    let shape = slide_shape slide f in
    c.move_to_front.ensures.moved (slide_picture slide f) (shape.width ∙ sym sides.0 ∙ sym c.requires.strip.across) (c.requires.stands f whole top)

pub returns-clause-from : goal.returns-clause-from
returns-clause-from g c =
    let w = c.args.lent.now in
    let reach = c.args.maker.first.reach in
    let rows = grown_in w.frame_width w.frame_height c.frame_width-width.result c.frame_height-height.result reach c.args.strip c.grown-place.result c.frame_width-width.ensures c.frame_height-height.ensures c.requires.strip c.grown-place.ensures.value in
    rows.from

pub returns-clause-to : goal.returns-clause-to
returns-clause-to g c =
    let w = c.args.lent.now in
    let reach = c.args.maker.first.reach in
    let rows = grown_in w.frame_width w.frame_height c.frame_width-width.result c.frame_height-height.result reach c.args.strip c.grown-place.result c.frame_width-width.ensures c.frame_height-height.ensures c.requires.strip c.grown-place.ensures.value in
    rows.to

pub returns-clause-held : goal.returns-clause-held
returns-clause-held g c =
    let w = c.args.lent.now in
    let reach = c.args.maker.first.reach in
    let rows = grown_in w.frame_width w.frame_height c.frame_width-width.result c.frame_height-height.result reach c.args.strip c.grown-place.result c.frame_width-width.ensures c.frame_height-height.ensures c.requires.strip c.grown-place.ensures.value in
    grown_held w.frame_width w.frame_height reach c.args.strip c.grown-place.result c.args.strip.width (length c.make_before.new.between) rows refl (omega (arith, c.requires.between, c.move_to_front.ensures.between, c.make_before.ensures.between))

pub returns-clause-stands : goal.returns-clause-stands
returns-clause-stands g c = c.make_before.ensures.made
