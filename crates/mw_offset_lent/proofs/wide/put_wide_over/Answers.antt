use Rattle.std.proofs.Common.{◌≡◌, ℕ, ◌+◌, ◌-◌, ◌*◌, ◌≤◌, length, ap, arith, ◌∙◌}
use Rattle.mw_offset_lent.proofs.Puts.{in_rows_none, in_rows_on, in_rows_part}
use Rattle.mw_offset_lent.specs.Places.{merged_at}
use Rattle.mw_offset_lent.proofs.Rooms.{all_fit}
use Rattle.mw_offset_lent.proofs.wide.put_wide_over.Goals as goal

pub by_block-init : goal.by_block-init
by_block-init g c = record {
  within = omega arith;
  put = in_rows_none 2 c.args.two.at (c.args.counted.split.width - c.args.counted.split.left - c.args.counted.split.right) c.args.two.apart c.args.out.now;
  made = λ r i few lt. absurd (omega (arith, lt));
}

pub by_block-preserved : goal.by_block-preserved
by_block-preserved g c =
    let f = g.E.Extremum.merge in
    let neutral = c.args.neutral in
    let cells = c.args.cells.now in
    let s = c.args.counted.split in
    let all = s.all.now in
    let two = c.args.two in
    let from = c.args.from in
    let n = s.width - s.left - s.right in
    let done = c.by_block.done in
    let w = 4 * g.P.Laned.WIDTH in
    let mid = c.by_block.out in
    let new = c.put_wide_blocks.new.out in
    let fits : done + w ≤ n = omega (arith, c.WIDTH.ensures) in
    record {
      within = omega (arith, fits, c.WIDTH-in-by_block.ensures);
      put = in_rows_part 2 two.at n two.apart done w c.args.out.now mid new fits c.by_block.invariant.put c.put_wide_blocks.ensures.put;
      made = λ r i few lt.
          in_rows_on (λ r i v. v ≡ merged_at f cells neutral (from + r * s.ahead + i) neutral all) neutral 2 two.at n two.apart done done w mid new (omega arith) fits c.requires.apart c.put_wide_blocks.ensures.put
          (λ r i few lt.
          let here : from + done + r * s.ahead + i ≡ from + r * s.ahead + (done + i) = omega arith in
          c.put_wide_blocks.ensures.made r i few lt ∙ ap (λ (t : ℕ). merged_at f cells neutral t neutral all) here)
          (λ r i few lt. c.by_block.invariant.made r i few lt) r i few (omega (arith, lt, c.WIDTH-in-by_block.ensures));
    }

pub put_wide_blocks-requires-clause-inside : goal.put_wide_blocks-requires-clause-inside
put_wide_blocks-requires-clause-inside g c =
    let s = c.args.counted.split in
    let n = s.width - s.left - s.right in
    let done = c.by_block.done in
    let w = 4 * g.P.Laned.WIDTH in
    all_fit s.all.now (c.args.from + done + s.ahead + w) (c.args.from + s.ahead + n) (length c.args.cells.now) (omega (arith, c.WIDTH.ensures)) c.requires.inside
