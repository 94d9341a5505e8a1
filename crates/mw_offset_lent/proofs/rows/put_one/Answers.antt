use Rattle.std.proofs.Common.{◌≡◌, ℕ, ◌+◌, ◌*◌, ◌≤◌, length, ap, arith, ◌∙◌}
use Rattle.mw_offset_lent.proofs.Puts.{put_none, put_on, put_part}
use Rattle.mw_offset_lent.specs.Places.{merged_at}
use Rattle.mw_offset_lent.proofs.Rooms.{all_fit}
use Rattle.mw_offset_lent.proofs.rows.put_one.Goals as goal

pub by_block-init : goal.by_block-init
by_block-init g c = record { within = omega arith; put = put_none c.args.at c.args.split.width c.args.out.now; made = λ i lt. absurd (omega (arith, lt)) }

pub by_block-preserved : goal.by_block-preserved
by_block-preserved g c =
    let f = g.E.Extremum.merge in
    let neutral = c.args.neutral in
    let cells = c.args.cells.now in
    let s = c.args.split in
    let all = s.all.now in
    let at = c.args.at in
    let from = c.args.from in
    let column = c.min-column.result in
    let w = 2 * g.P.Laned.WIDTH in
    let mid = c.by_block.out in
    let new = c.put_block.new.out in
    let fits : column + w ≤ s.width = omega (arith, c.min-column.ensures, c.requires.split.room, c.WIDTH.ensures) in
    record {
      within = omega (arith, fits, c.WIDTH-in-by_block.ensures);
      put = put_part at s.width (at + column) w c.args.out.now mid new (omega arith) (omega (arith, fits)) c.by_block.invariant.put c.put_block.ensures.put;
      made = λ i lt.
          put_on (λ i v. v ≡ merged_at f cells neutral (from + i) neutral all) neutral at c.by_block.done column w mid new (omega (arith, c.min-column.ensures)) c.put_block.ensures.put
          (λ i lt.
          let here : from + column + i ≡ from + (column + i) = omega arith in
          c.put_block.ensures.made i lt ∙ ap (λ (t : ℕ). merged_at f cells neutral t neutral all) here)
          (λ i lt. c.by_block.invariant.made i lt) i (omega (arith, lt, c.WIDTH-in-by_block.ensures));
    }

pub put_block-requires-clause-inside : goal.put_block-requires-clause-inside
put_block-requires-clause-inside g c =
    let s = c.args.split in
    let column = c.min-column.result in
    let w = 2 * g.P.Laned.WIDTH in
    all_fit s.all.now (c.args.from + column + w) (c.args.from + s.width) (length c.args.cells.now) (omega (arith, c.min-column.ensures, c.requires.split.room, c.WIDTH.ensures)) c.requires.inside

pub returns-clause-made : goal.returns-clause-made
returns-clause-made g c = λ i lt. c.by_block.invariant.made i (omega (arith, lt))
