use Rattle.std.proofs.Common.{◌≡◌, pos, ◌+ℤ◌, ◌-ℤ◌, ap, arith, to_z, of_z, w16, w64}
use Rattle.std.proofs.lemmas.Int.{ints}
use Rattle.mw_model.specs.declared.offsets.Rect.{Rect}
use Rattle.mw_rank_rows.proofs.NumberedBlocks.{shown_here}
use Rattle.mw_rank_rows.proofs.blocks.part_under.Goals as goal

pub returns : goal.returns
returns g c =
    let all = c.args.window.now.place in
    let t = c.args.rectangle in
    let place = c.args.place in
    let dx : to_z w16 (of_z w16 t.dx) ≡ t.dx = omega (arith, ints) in
    let dy : to_z w16 (of_z w16 t.dy) ≡ t.dy = omega (arith, ints) in
    let is = c.place-all.ensures.value in
    let left : to_z w64 (of_z w64 c.place_of-left.result) ≡ pos place.x +ℤ t.dx -ℤ pos all.x = omega (arith, ints, c.place_of-left.ensures.value, c.from-x.ensures, ap (λ (p : Rect). p.x) is) in
    let top : to_z w64 (of_z w64 c.place_of-top.result) ≡ pos place.y +ℤ t.dy -ℤ pos all.y = omega (arith, ints, c.place_of-top.ensures.value, c.from-y.ensures, ap (λ (p : Rect). p.y) is) in
    record {
      left = c.shown_rows-columns.result.skip;
      above = c.shown_rows-rows.result.skip;
      columns = shown_here _ _ _ _ _ _ c.shown_rows-columns.result left (omega arith) (ap (λ (p : Rect). p.width) is) c.shown_rows-columns.ensures;
      rows = shown_here _ _ _ _ _ _ c.shown_rows-rows.result top (omega arith) (ap (λ (p : Rect). p.height) is) c.shown_rows-rows.ensures;
    }
