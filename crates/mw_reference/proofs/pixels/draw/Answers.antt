use Rattle.std.proofs.Common.{◌≡◌, ◌≤◌, ap, sym, subst, arith, List, ℕ, length, ◌∙◌, ◌*◌}
use Rattle.std.specs.Prelude.{All}
use Rattle.mw_model.proofs.ImageLaws.{drawn_picture}
use Rattle.mw_reference.proofs.Loops.{one_pixel_more, one_row_more, all_rows, whole_picture}
use Rattle.mw_reference.proofs.pixels.draw.Goals as goal

pub loop-x-preserved : goal.loop-x-preserved
loop-x-preserved g c =
    one_pixel_more (g.P.Pixels.value c.args.pixels.now) c.width-width.result c.loop-y.y c.loop-x.x c.at.result c.loop-x.samples.items c.push.new.self.items c.loop-x.invariant c.at.ensures
    c.in_ok-push.ensures.items

pub loop-y-preserved : goal.loop-y-preserved
loop-y-preserved g c =
    one_row_more (g.P.Pixels.value c.args.pixels.now) c.width-width.result c.loop-y.y c.loop-x.x c.loop-x.samples.items (omega arith) c.loop-x.invariant

pub new-requires-clause-size : goal.new-requires-clause-size
new-requires-clause-size g c =
    let value = g.P.Pixels.value c.args.pixels.now in
    let f = c.args.like.now in
    let rows = all_rows f c.args.kind c.args.maxval value c.width-width.result c.height-height.result c.loop-y.y c.loop-y.samples.items c.width-width.ensures.is c.height-height.ensures.is (omega arith) c.loop-y.invariant in
    let whole = drawn_picture c.args.kind f.width f.height c.args.maxval value (c.requires.bounded c.width-width.ensures.small.picture) in
    c.loop-y.samples.ok.0 ∙ ap (λ (t : List ℕ). length t) rows ∙ whole.size ∙ sym (same_product (c.height-height.ensures.is) (c.width-width.ensures.is))
  where
    same_product : {a b p q : ℕ} → a ≡ p → b ≡ q → a * b ≡ p * q
    same_product e d = cc

pub new-requires-clause-bounded : goal.new-requires-clause-bounded
new-requires-clause-bounded g c =
    let value = g.P.Pixels.value c.args.pixels.now in
    let f = c.args.like.now in
    let rows = all_rows f c.args.kind c.args.maxval value c.width-width.result c.height-height.result c.loop-y.y c.loop-y.samples.items c.width-width.ensures.is c.height-height.ensures.is (omega arith) c.loop-y.invariant in
    let whole = drawn_picture c.args.kind f.width f.height c.args.maxval value (c.requires.bounded c.width-width.ensures.small.picture) in
    subst (λ (t : List ℕ). All (λ s. s ≤ c.args.maxval) t) (sym rows) whole.bounded

pub returns : goal.returns
returns g c =
    let value = g.P.Pixels.value c.args.pixels.now in
    let f = c.args.like.now in
    let rows = all_rows f c.args.kind c.args.maxval value c.width-width.result c.height-height.result c.loop-y.y c.loop-y.samples.items c.width-width.ensures.is c.height-height.ensures.is (omega arith) c.loop-y.invariant in
    rw c.new.ensures (whole_picture f c.args.kind c.args.maxval value c.width-width.result c.height-height.result c.loop-y.samples.items c.width-width.ensures.is c.height-height.ensures.is rows)
