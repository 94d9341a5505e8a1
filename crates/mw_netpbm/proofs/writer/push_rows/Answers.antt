use Rattle.std.proofs.Common.{◌<◌, ◌≤◌, ◌+◌, ◌*◌, ◌/◌, ◌++◌, ℕ, List, take, drop, ap, ◌∙◌, arith}
use Rattle.mw_model.specs.NetpbmWriting.{packed, packed_rows}
use Rattle.mw_netpbm.proofs.Rows.{rows_room}
use Rattle.mw_netpbm.proofs.Packing.{all_rows}
use Rattle.mw_netpbm.proofs.SetRows.{row_bytes, one_row_more}
use Rattle.mw_netpbm.proofs.writer.push_rows.Goals as goal

pub push_packed-requires-clause-room : goal.push_packed-requires-clause-room
push_packed-requires-clause-room c =
    let below : c.rows.y < c.args.set.now.height = omega (arith, c.rows-test.true, c.height-height.ensures) in
    let room = rows_room c.args.set.now.height c.rows.y _ _ _ below c.rows.invariant.room in
    omega (arith, room)

pub rows-preserved : goal.rows-preserved
rows-preserved c =
    let set = c.args.set.now in
    let y = c.rows.y in
    let pixels = take set.width (drop (y * set.width) set.cells) in
    let more =
    c.push_packed.ensures.bytes
    ∙ ap (λ (bs : List ℕ). c.rows.out.items ++ bs) (row_bytes set.width ((c.width.result + 7) / 8) (y * set.width) c.row.result.now set.cells c.row.ensures.samples c.row.ensures.clean)
    ∙ ap (λ (n : ℕ). c.rows.out.items ++ packed ((n + 7) / 8) pixels) c.width.ensures.value in
    let below : y < set.height = omega (arith, c.rows-test.true, c.height-height.ensures) in
    let room = rows_room set.height y _ _ _ below c.rows.invariant.room in
    record {
      made = one_row_more set.width set.height y c.rows.out.items c.push_packed.new.out.items set.cells (c.args.out.now.items ++ packed_rows set.width set.height set.cells) below c.rows.invariant.made more;
      room = omega (arith, room, c.push_packed.ensures.count, c.push_packed.ensures.room);
    }

pub returns : goal.returns
returns c =
    let set = c.args.set.now in
    let past : set.height ≤ c.rows.y = omega (arith, c.rows-test.false, c.height-height.ensures) in
    all_rows set.width set.height c.rows.y c.rows.out.items (drop (c.rows.y * set.width) set.cells) (c.args.out.now.items ++ packed_rows set.width set.height set.cells) past c.rows.invariant.made
