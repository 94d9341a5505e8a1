use Rattle.std.proofs.Common.{◌≡◌, ℕ, ◌+◌, ◌*◌, ◌≤◌, min, length, refl, ap, sym, subst, arith, ◌∙◌}
use Rattle.mw_model.specs.declared.offsets.Rect.{Rect}
use Rattle.mw_line_lent.specs.Near.{IsAround}
use Rattle.mw_c_lent.specs.declared.standing.First.{First}
use Rattle.mw_c_lent.specs.Recipes.{recipe_picture, rows_beyond}
use Rattle.mw_c_lent.specs.Slides.{AreFrameRows, slide_box, slide_picture}
use Rattle.mw_c_lent.specs.Standing.{HasRowsAround, seen_from, seen_to}
use Rattle.mw_c_lent.proofs.Lessened.{recipe_shape, recipe_size}
use Rattle.mw_c_lent.proofs.Slid.{room_for, strip_fits, whole_sides}
use Rattle.mw_c_lent.proofs.Stood.{first_around, rows_at}
use Rattle.mw_c_lent.proofs.Written.{no_rows, whole_cells}
use Rattle.mw_c_lent.proofs.recipes.put_all.Goals as goal

pub strips-init : goal.strips-init
strips-init g c = record {
  within = omega arith;
  behind = omega arith;
  joined = omega arith;
  held = omega arith;
  between = refl;
  lines = refl;
  size = refl;
  stands = λ f whole top. no_rows g.P.Pixel.level (slide_picture c.made_first-first.result.slide f) 0 0 c.args.between.now refl;
  made = λ f whole top. no_rows g.P.Pixel.level (recipe_picture c.args.order.recipe f) 0 0 c.args.out.now refl;
}

pub strips-preserved : goal.strips-preserved
strips-preserved g c = record {
  within = omega arith;
  behind = omega (arith, c.stand-standing.ensures.from);
  joined = omega (arith, c.stand-standing.ensures.to, c.min.ensures, c.frame_height-height.ensures, c.strips.invariant.within);
  held = c.stand-standing.ensures.held;
  between = c.stand-standing.ensures.between ∙ c.strips.invariant.between;
  lines = c.put_rows_behind.ensures.lines ∙ c.stand-standing.ensures.lines ∙ c.strips.invariant.lines;
  stands = c.stand-standing.ensures.stands;
  size = c.put_rows_behind.ensures.size ∙ c.strips.invariant.size;
  made = λ f whole top. c.put_rows_behind.ensures.made f whole top (c.strips.invariant.made f whole top);
}

pub stand-standing-requires-clause-around : goal.stand-standing-requires-clause-around
stand-standing-requires-clause-around g c = subst (λ (p : First). IsAround (slide_box p.slide)) (sym c.made_first-first.ensures) (first_around c.args.order.recipe c.requires.sound)

pub stand-standing-requires-clause-between : goal.stand-standing-requires-clause-between
stand-standing-requires-clause-between g c =
    let more : ℕ = rows_beyond c.args.order.recipe in
    let high : ℕ = c.args.lent.now.frame_height in
    let most : ℕ = min (c.args.rows + more) high in
    let room : most * c.frame_width-width.result ≤ length c.strips.between =
    subst (λ (t : ℕ). most * t ≤ length c.strips.between) (sym c.frame_width-width.ensures) (omega (arith, c.requires.between, c.strips.invariant.between)) in
    let all = room_for (min (c.min.result + more) high) most c.frame_width-width.result (length c.strips.between) (omega (arith, c.min.ensures)) room in
    subst (λ (p : First). min (c.min.result + (p.reach.up + p.reach.down)) high * c.frame_width-width.result ≤ length c.strips.between) (sym c.made_first-first.ensures) all

pub put_rows_behind-requires-clause-between : goal.put_rows_behind-requires-clause-between
put_rows_behind-requires-clause-between g c =
    let more : ℕ = rows_beyond c.args.order.recipe in
    let high : ℕ = c.args.lent.now.frame_height in
    let most : ℕ = min (c.args.rows + more) high in
    let room : most * c.frame_width-width.result ≤ length c.strips.between =
    subst (λ (t : ℕ). most * t ≤ length c.strips.between) (sym c.frame_width-width.ensures) (omega (arith, c.requires.between, c.strips.invariant.between)) in
    let all = room_for (min (c.min.result + more) high) most c.frame_width-width.result (length c.strips.between) (omega (arith, c.min.ensures)) room in
    omega (arith, all, c.stand-standing.ensures.between)

pub put_rows_behind-requires-clause-stands : goal.put_rows_behind-requires-clause-stands
put_rows_behind-requires-clause-stands g c =
    let level = g.P.Pixel.level in
    let w = c.args.lent.now in
    let strip : Rect = record { x = 0; y = c.strips.done; width = c.frame_width-width.result; height = c.min.result } in
    let p = c.made_first-first.result in
    let seen : HasRowsAround level w p.slide p.reach (level c.args.order.top) strip c.stand-standing.new.between = λ f whole top.
    rows_at level (slide_picture p.slide f) c.stand-standing.result.from c.stand-standing.result.to (seen_from p.reach strip) (seen_to w.frame_height p.reach strip) c.stand-standing.new.between c.stand-standing.ensures.from c.stand-standing.ensures.to (c.stand-standing.ensures.stands f whole top) in
    subst (λ (q : First). HasRowsAround level w q.slide q.reach (level c.args.order.top) strip c.stand-standing.new.between) c.made_first-first.ensures seen

pub put_rows_behind-requires-clause-room : goal.put_rows_behind-requires-clause-room
put_rows_behind-requires-clause-room g c =
    let w = c.args.lent.now in
    let strip : Rect = record { x = 0; y = c.strips.done; width = c.frame_width-width.result; height = c.min.result } in
    let rows : AreFrameRows strip w.frame_width w.frame_height = record {
      left = refl;
      across = c.frame_width-width.ensures;
      some = omega (arith, c.min.ensures, c.strips-test.true, c.requires.some);
      low = omega (arith, c.min.ensures, c.strips-test.true, c.frame_height-height.ensures);
      wide = c.requires.wide;
    } in
    strip_fits w.frame_width w.frame_height (length c.strips.out) strip rows (c.strips.invariant.size ∙ c.requires.room)

pub returns : goal.returns
returns g c = λ f whole top.
    let w = c.args.lent.now in
    let made = recipe_picture c.args.order.recipe f in
    let shape = recipe_shape c.args.order.recipe f in
    let sides = whole_sides g.P.Pixel.level w f whole in
    let end : c.strips.done ≡ made.height = omega (arith, c.strips-test.false, c.strips.invariant.within, c.frame_height-height.ensures, sides.1, shape.height) in
    let count : length c.strips.out ≡ made.height * made.width =
    c.strips.invariant.size ∙ c.requires.room ∙ ap (λ (t : ℕ). t * w.frame_width) (sides.1 ∙ sym shape.height) ∙ ap (λ (t : ℕ). made.height * t) (sides.0 ∙ sym shape.width) in
    whole_cells g.P.Pixel.level made c.strips.done c.strips.out end (recipe_size c.args.order.recipe f) count (c.strips.invariant.made f whole top)
