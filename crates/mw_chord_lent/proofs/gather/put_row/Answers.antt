use Rattle.std.proofs.Common.{◌≡◌, ℕ, ◌+◌, ◌*◌, ◌≤◌, length, ap, arith, ◌∙◌}
use Rattle.mw_chord_lent.specs.Placed.{gathered_at}
use Rattle.mw_chord_lent.proofs.Puts.{all_fit, put_none, put_on, put_part}
use Rattle.mw_chord_lent.proofs.gather.put_row.Goals as goal

pub by_block-init : goal.by_block-init
by_block-init g c = record { within = omega arith; put = put_none (c.args.rows.at + c.args.r * c.args.rows.apart) c.args.rows.width c.args.out.now; made = λ i lt. absurd (omega (arith, lt)) }

pub by_block-preserved : goal.by_block-preserved
by_block-preserved g c =
    let f = g.E.Extremum.merge in
    let neutral = c.args.neutral in
    let lists = c.args.lists.now in
    let rows = c.args.rows in
    let places = c.args.places.now in
    let at = rows.at + c.args.r * rows.apart in
    let from = c.args.r * rows.wide in
    let column = c.min-column.result in
    let w = 2 * g.P.Laned.WIDTH in
    let mid = c.by_block.out in
    let new = c.put_block.new.out in
    let fits : column + w ≤ rows.width = omega (arith, c.min-column.ensures, c.requires.lanes, c.WIDTH.ensures) in
    record {
      within = omega (arith, fits, c.WIDTH-in-by_block.ensures);
      put = put_part at rows.width (at + column) w c.args.out.now mid new (omega arith) (omega (arith, fits)) c.by_block.invariant.put c.put_block.ensures.put;
      made = λ i lt.
          put_on (λ i v. v ≡ gathered_at f lists neutral (from + i) neutral places) neutral at c.by_block.done column w mid new (omega (arith, c.min-column.ensures)) c.put_block.ensures.put
          (λ i lt.
          let here : from + column + i ≡ from + (column + i) = omega arith in
          c.put_block.ensures.made i lt ∙ ap (λ (t : ℕ). gathered_at f lists neutral t neutral places) here)
          (λ i lt. c.by_block.invariant.made i lt) i (omega (arith, lt, c.WIDTH-in-by_block.ensures));
    }

pub put_block-requires-clause-inside : goal.put_block-requires-clause-inside
put_block-requires-clause-inside g c =
    let rows = c.args.rows in
    let from = c.args.r * rows.wide in
    let column = c.min-column.result in
    let w = 2 * g.P.Laned.WIDTH in
    all_fit c.args.places.now (from + column + w) (from + rows.width) (length c.args.lists.now) (omega (arith, c.min-column.ensures, c.requires.lanes, c.WIDTH.ensures)) c.requires.inside

pub returns-clause-made : goal.returns-clause-made
returns-clause-made g c = λ i lt. c.by_block.invariant.made i (omega (arith, lt))
