use Rattle.std.proofs.Common.{◌+◌, ◌*◌, ◌++◌, ◌∷◌, [], true, false, length, length-append, ◌∙◌, ap, arith}
use Rattle.std.proofs.Common.{Vec, Global}
use Rattle.std.specs.Prelude.{vec_capacity}
use Rattle.mw_model.specs.declared.offsets.Offset.{Offset}
use Rattle.mw_element.proofs.Room.{row_room}
use Rattle.mw_element.proofs.Rows.{row_part, row_set, row_unset, pixel_test}
use Rattle.mw_element.proofs.bitmaps.push_row.Goals as goal
use Rattle.mw_element.proofs.bitmaps.push_row.Goals.{then-is_set, else-is_set}

pub push_reserved-requires : goal.push_reserved-requires
push_reserved-requires c =
    let f = c.args.bitmap.now in
    let old = c.args.out.now in
    let is = pixel_test f.cells (c.args.y * f.width + c.columns.x) c.at.result true c.at.ensures c.if-is_set.ensures.set in
    let before = row_part f c.args.ox c.args.oy c.args.y 0 c.columns.x in
    let so_far = c.columns.out.ok.0 ∙ ap length c.columns.invariant.made ∙ length-append old.items before in
    omega (arith, so_far, old.ok.0, c.columns.invariant.kept, row_room f c.args.ox c.args.oy c.args.y c.columns.x (omega arith) is, c.requires.room)

pub columns-preserved : goal.columns-preserved
columns-preserved c =
    let f = c.args.bitmap.now in
    let place = c.args.y * f.width + c.columns.x in
    elim c.if-is_set.branch [
      | then-is_set w ↦
          let is = pixel_test f.cells place c.at.result true c.at.ensures w.if-is_set.ensures.set in
          record {
            made = row_set f c.args.ox c.args.oy c.args.y c.columns.x c.args.out.now.items c.columns.out.items c.if-is_set.out.items c.columns.invariant.made is
                (ap (λ (v : Vec Offset Global). v.items) w.out-is ∙ w.push_reserved.ensures.items ∙ ap (λ (b : Offset). c.columns.out.items ++ b ∷ []) w.seen_from.ensures);
            kept = ap (λ (v : Vec Offset Global). vec_capacity v) w.out-is ∙ w.push_reserved.ensures.capacity ∙ c.columns.invariant.kept;
          }
      | else-is_set w ↦
          let not = pixel_test f.cells place c.at.result false c.at.ensures w.if-is_set.ensures.set in
          record {
            made = ap (λ (v : Vec Offset Global). v.items) w.out-is ∙ row_unset f c.args.ox c.args.oy c.args.y c.columns.x c.args.out.now.items c.columns.out.items c.columns.invariant.made not;
            kept = ap (λ (v : Vec Offset Global). vec_capacity v) w.out-is ∙ c.columns.invariant.kept;
          }
    ]
