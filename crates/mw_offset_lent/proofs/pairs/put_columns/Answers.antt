use Rattle.std.proofs.Common.{◌≡◌, ℕ, ◌+◌, ◌-◌, ◌*◌, ◌≤◌, length, ap, arith, ◌∙◌}
use Rattle.mw_offset_lent.proofs.Puts.{in_rows_none, in_rows_on, in_rows_part, in_rows_twice}
use Rattle.mw_offset_lent.specs.Places.{merged_at}
use Rattle.mw_offset_lent.proofs.Rooms.{all_fit}
use Rattle.mw_offset_lent.proofs.pairs.put_columns.Goals as goal

pub by_block-init : goal.by_block-init
by_block-init g c = record {
  within = c.put_wide-done.ensures.within;
  put = in_rows_none 2 c.args.two.at (c.args.split.width - c.args.split.left - c.args.split.right) c.args.two.apart c.put_wide-done.new.out;
  made = λ r i few lt. c.put_wide-done.ensures.made r i few lt;
}

pub by_block-preserved : goal.by_block-preserved
by_block-preserved g c =
    let f = g.E.Extremum.merge in
    let neutral = c.args.neutral in
    let cells = c.args.cells.now in
    let s = c.args.split in
    let all = s.all.now in
    let two = c.args.two in
    let from = c.args.from in
    let n = s.width - s.left - s.right in
    let column = c.min-column.result in
    let w = 2 * g.P.Laned.WIDTH in
    let mid = c.by_block.out in
    let new = c.put_two_blocks.new.out in
    let split = c.requires.split in
    let fits : column + w ≤ n = omega (arith, c.min-column.ensures, split.room, split.left, split.right, split.side, c.WIDTH.ensures) in
    record {
      within = omega (arith, fits, c.WIDTH-in-by_block.ensures);
      put = in_rows_part 2 two.at n two.apart column w c.put_wide-done.new.out mid new fits c.by_block.invariant.put c.put_two_blocks.ensures.put;
      made = λ r i few lt.
          in_rows_on (λ r i v. v ≡ merged_at f cells neutral (from + r * s.ahead + i) neutral all) neutral 2 two.at n two.apart c.by_block.done column w mid new (omega (arith, c.min-column.ensures)) fits c.requires.apart c.put_two_blocks.ensures.put
          (λ r i few lt.
          let here : from + column + r * s.ahead + i ≡ from + r * s.ahead + (column + i) = omega arith in
          c.put_two_blocks.ensures.made r i few lt ∙ ap (λ (t : ℕ). merged_at f cells neutral t neutral all) here)
          (λ r i few lt. c.by_block.invariant.made r i few lt) r i few (omega (arith, lt, c.WIDTH-in-by_block.ensures));
    }

pub put_two_blocks-requires-clause-inside : goal.put_two_blocks-requires-clause-inside
put_two_blocks-requires-clause-inside g c =
    let s = c.args.split in
    let split = c.requires.split in
    let n = s.width - s.left - s.right in
    let column = c.min-column.result in
    let w = 2 * g.P.Laned.WIDTH in
    all_fit s.all.now (c.args.from + column + s.ahead + w) (c.args.from + s.ahead + n) (length c.args.cells.now) (omega (arith, c.min-column.ensures, split.room, split.left, split.right, split.side, c.WIDTH.ensures)) c.requires.inside

pub returns-clause-put : goal.returns-clause-put
returns-clause-put g c =
    let s = c.args.split in
    let two = c.args.two in
    in_rows_twice 2 two.at (s.width - s.left - s.right) two.apart c.args.out.now c.put_wide-done.new.out c.by_block.out c.put_wide-done.ensures.put c.by_block.invariant.put

pub returns-clause-made : goal.returns-clause-made
returns-clause-made g c = λ r i few lt. c.by_block.invariant.made r i few (omega (arith, lt))
