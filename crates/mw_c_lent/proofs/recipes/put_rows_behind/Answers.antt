use Rattle.std.proofs.Common.{◌≡◌, ℕ, ◌+◌, ◌-◌, ◌*◌, ap, arith}
use borrow.Rule.Slice.PartMut.{put_mid}
use Rattle.mw_c_lent.specs.Recipes.{recipe_picture}
use Rattle.mw_c_lent.proofs.Lessened.{recipe_size, recipe_strip}
use Rattle.mw_c_lent.proofs.Slid.{frame_strip, whole_sides}
use Rattle.mw_c_lent.proofs.Written.{rows_put}
use Rattle.mw_c_lent.proofs.recipes.put_rows_behind.Goals as goal

pub returns-clause-made : goal.returns-clause-made
returns-clause-made g c = λ f whole top before.
    let level = g.P.Pixel.level in
    let w = c.args.lent.now in
    let r = c.args.strip in
    let made = recipe_picture c.args.order.recipe f in
    let sides = whole_sides level w f whole in
    let strip = frame_strip w.frame_width w.frame_height r f sides.0 sides.1 c.requires.strip in
    let a : ℕ = r.y * r.width in
    let k : ℕ = r.height * r.width in
    let same : a + k - a ≡ k = omega arith in
    rows_put level made r 0 r.y c.args.out.now c.put_rows.new.out (put_mid a (a + k - a) c.args.out.now c.put_rows.new.out) (recipe_strip c.args.order.recipe f r strip) (recipe_size c.args.order.recipe f) (omega arith) c.requires.room
    (c.put_rows.ensures.made f whole top) (ap (λ (m : ℕ). put_mid a m c.args.out.now c.put_rows.new.out) same) before
