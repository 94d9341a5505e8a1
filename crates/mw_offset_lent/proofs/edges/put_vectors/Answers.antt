use Rattle.std.proofs.Common.{◌≡◌, ◌+◌, ◌-◌, ◌*◌, length, refl, arith}
use Rattle.mw_offset_lent.specs.Places.{merged_at}
use Rattle.mw_offset_lent.proofs.EdgeColumns.{blocks_on}
use Rattle.mw_offset_lent.proofs.Puts.{in_rows_none, in_rows_one, rows_le}
use Rattle.mw_offset_lent.proofs.Rooms.{all_fit}
use Rattle.mw_offset_lent.proofs.edges.put_vectors.Goals as goal

pub loop-r-init : goal.loop-r-init
loop-r-init g c = record { put = in_rows_none c.args.column.high c.args.column.at g.P.Laned.WIDTH c.args.column.apart c.args.out.now; made = λ r i few lt. absurd (omega (arith, few)) }

pub loop-r-preserved : goal.loop-r-preserved
loop-r-preserved g c =
    let b = c.args.column in
    let n = c.args.neutral in
    let w = g.P.Laned.WIDTH in
    let r = c.loop-r.r in
    let mid = c.loop-r.out in
    let new = c.put_vector.new.out in
    record {
      put = in_rows_one b.high b.at w b.apart r (b.at + r * b.apart) c.args.out.now mid new (omega arith) refl c.loop-r.invariant.put c.put_vector.ensures.put;
      made = blocks_on (λ r i v. v ≡ merged_at g.E.Extremum.merge c.args.cells.now n (r * c.args.wide + i) n c.args.places.now) n b.at w b.apart r mid new c.requires.apart c.put_vector.ensures.put (λ i lt. c.put_vector.ensures.made i lt) c.loop-r.invariant.made;
    }

pub overflow_mul-from : goal.overflow_mul-from
overflow_mul-from g c = omega (arith, rows_le c.loop-r.r (c.args.column.high - 1) c.args.wide (omega arith), c.requires.cells)

pub overflow_mul-at : goal.overflow_mul-at
overflow_mul-at g c = omega (arith, rows_le c.loop-r.r (c.args.column.high - 1) c.args.column.apart (omega arith), c.requires.room)

pub overflow_add-at : goal.overflow_add-at
overflow_add-at g c = omega (arith, rows_le c.loop-r.r (c.args.column.high - 1) c.args.column.apart (omega arith), c.requires.room)

pub put_vector-requires-clause-inside : goal.put_vector-requires-clause-inside
put_vector-requires-clause-inside g c =
    let b = c.args.column in
    let w = g.P.Laned.WIDTH in
    let fits = rows_le c.loop-r.r (b.high - 1) c.args.wide (omega arith) in
    all_fit c.args.places.now (c.loop-r.r * c.args.wide + w) ((b.high - 1) * c.args.wide + w) (length c.args.cells.now) (omega (arith, fits)) c.requires.inside

pub put_vector-requires-clause-room : goal.put_vector-requires-clause-room
put_vector-requires-clause-room g c =
    let b = c.args.column in
    let fits = rows_le c.loop-r.r (b.high - 1) b.apart (omega arith) in
    omega (arith, fits, c.loop-r.invariant.put.size, c.requires.room)

pub returns-clause-made : goal.returns-clause-made
returns-clause-made g c = λ r i few lt. c.loop-r.invariant.made r i (omega (arith, few)) lt
