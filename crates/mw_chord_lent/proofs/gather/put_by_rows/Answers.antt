use Rattle.std.proofs.Common.{◌≡◌, ◌+◌, ◌-◌, ◌*◌, length, refl, arith}
use Rattle.mw_chord_lent.specs.Placed.{gathered_at}
use Rattle.mw_chord_lent.proofs.Puts.{all_fit, blocks_on, in_rows_none, in_rows_one, rows_le}
use Rattle.mw_chord_lent.proofs.gather.put_by_rows.Goals as goal

pub loop-r-init : goal.loop-r-init
loop-r-init g c = record { put = in_rows_none c.args.rows.high c.args.rows.at c.args.rows.width c.args.rows.apart c.args.out.now; made = λ r i few lt. absurd (omega (arith, few)) }

pub loop-r-preserved : goal.loop-r-preserved
loop-r-preserved g c =
    let b = c.args.rows in
    let n = c.args.neutral in
    let r = c.loop-r.r in
    let mid = c.loop-r.out in
    let new = c.put_row.new.out in
    record {
      put = in_rows_one b.high b.at b.width b.apart r (b.at + r * b.apart) c.args.out.now mid new (omega arith) refl c.loop-r.invariant.put c.put_row.ensures.put;
      made = blocks_on (λ r i v. v ≡ gathered_at g.E.Extremum.merge c.args.lists.now n (r * b.wide + i) n c.args.places.now) n b.at b.width b.apart r mid new c.requires.apart c.put_row.ensures.put (λ i lt. c.put_row.ensures.made i lt) c.loop-r.invariant.made;
    }

pub put_row-requires-clause-cells : goal.put_row-requires-clause-cells
put_row-requires-clause-cells g c =
    let b = c.args.rows in
    omega (arith, rows_le c.loop-r.r (b.high - 1) b.wide (omega arith), c.requires.cells)

pub put_row-requires-clause-inside : goal.put_row-requires-clause-inside
put_row-requires-clause-inside g c =
    let b = c.args.rows in
    let fits = rows_le c.loop-r.r (b.high - 1) b.wide (omega arith) in
    all_fit c.args.places.now (c.loop-r.r * b.wide + b.width) ((b.high - 1) * b.wide + b.width) (length c.args.lists.now) (omega (arith, fits)) c.requires.inside

pub put_row-requires-clause-room : goal.put_row-requires-clause-room
put_row-requires-clause-room g c =
    let b = c.args.rows in
    let fits = rows_le c.loop-r.r (b.high - 1) b.apart (omega arith) in
    omega (arith, fits, c.loop-r.invariant.put.size, c.requires.room)

pub returns-clause-made : goal.returns-clause-made
returns-clause-made g c = λ r i few lt. c.loop-r.invariant.made r i (omega (arith, few)) lt
