use Rattle.std.proofs.Common.{◌≡◌, ℕ, ◌+◌, ◌-◌, ◌*◌, length, refl, ap, arith, ◌∙◌}
use Rattle.mw_chord_lent.specs.Placed.{gathered_at}
use Rattle.mw_chord_lent.proofs.Puts.{all_fit, blocks_on, in_rows_none, in_rows_one, rows_le}
use Rattle.mw_chord_lent.proofs.gather.put_column.Goals as goal

pub loop-r-init : goal.loop-r-init
loop-r-init g c = record { put = in_rows_none c.args.rows.high (c.args.rows.at + c.args.column) (2 * g.P.Laned.WIDTH) c.args.rows.apart c.args.out.now; made = λ r i few lt. absurd (omega (arith, few)) }

pub loop-r-preserved : goal.loop-r-preserved
loop-r-preserved g c =
    let f = g.E.Extremum.merge in
    let b = c.args.rows in
    let n = c.args.neutral in
    let lists = c.args.lists.now in
    let places = c.args.places.now in
    let column = c.args.column in
    let w = 2 * g.P.Laned.WIDTH in
    let r = c.loop-r.r in
    let mid = c.loop-r.out in
    let new = c.put_block.new.out in
    record {
      put = in_rows_one b.high (b.at + column) w b.apart r (b.at + column + r * b.apart) c.args.out.now mid new (omega arith) refl c.loop-r.invariant.put c.put_block.ensures.put;
      made = blocks_on (λ r i v. v ≡ gathered_at f lists n (r * b.wide + (column + i)) n places) n (b.at + column) w b.apart r mid new (omega (arith, c.requires.column, c.requires.apart)) c.put_block.ensures.put
          (λ i lt.
          let here : r * b.wide + column + i ≡ r * b.wide + (column + i) = omega arith in
          c.put_block.ensures.made i lt ∙ ap (λ (t : ℕ). gathered_at f lists n t n places) here)
          c.loop-r.invariant.made;
    }

pub put_block-requires-clause-inside : goal.put_block-requires-clause-inside
put_block-requires-clause-inside g c =
    let b = c.args.rows in
    let w = 2 * g.P.Laned.WIDTH in
    let fits = rows_le c.loop-r.r (b.high - 1) b.wide (omega arith) in
    all_fit c.args.places.now (c.loop-r.r * b.wide + c.args.column + w) ((b.high - 1) * b.wide + b.width) (length c.args.lists.now) (omega (arith, fits, c.requires.column)) c.requires.inside

pub put_block-requires-clause-room : goal.put_block-requires-clause-room
put_block-requires-clause-room g c =
    let b = c.args.rows in
    let fits = rows_le c.loop-r.r (b.high - 1) b.apart (omega arith) in
    omega (arith, fits, c.loop-r.invariant.put.size, c.requires.room, c.requires.column)

pub returns-clause-made : goal.returns-clause-made
returns-clause-made g c = λ r i few lt. c.loop-r.invariant.made r i (omega (arith, few)) lt
