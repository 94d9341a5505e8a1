use Rattle.std.proofs.Common.{length, ap, arith, ◌∙◌}
use Rattle.mw_element.proofs.Room.{rows_room}
use Rattle.mw_element.proofs.Rows.{rows_more}
use Rattle.mw_element.proofs.bitmaps.offsets.Goals as goal

pub push_row-requires-clause-room : goal.push_row-requires-clause-room
push_row-requires-clause-room c =
    let so_far = c.rows.out.ok.0 ∙ ap length c.rows.invariant.made in
    omega (arith, so_far, c.rows.invariant.room, rows_room c.args.bitmap.now c.args.ox c.args.oy c.rows.y (omega arith), c.requires.count)

pub rows-preserved : goal.rows-preserved
rows-preserved c = record {
  made = rows_more c.args.bitmap.now c.args.ox c.args.oy c.rows.y c.rows.out.items c.push_row.new.out.items c.rows.invariant.made c.push_row.ensures.items;
  room = c.push_row.ensures.kept ∙ c.rows.invariant.room;
}
