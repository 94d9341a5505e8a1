use Rattle.std.proofs.Common.{◌≡◌, ℕ, length, ap, sym, ◌∙◌, arith}
use Rattle.mw_element.proofs.Counts.{count_more}
use Rattle.mw_element.proofs.Room.{offsets_are_ones}
use Rattle.mw_element.proofs.Rows.{rows_part}
use Rattle.mw_element.proofs.bitmaps.count.Goals as goal

pub rows-preserved : goal.rows-preserved
rows-preserved c = record {
  made = count_more c.args.bitmap.now c.rows.y c.rows.count c.count_row-count.result c.rows.invariant.made c.count_row-count.ensures.value;
  few = omega (arith, c.rows.invariant.few, c.count_row-count.ensures.few, c.requires.wide);
}

pub returns : goal.returns
returns c =
    λ ox oy.
    let f = c.args.bitmap.now in
    let size = c.height-y-end.ensures.size in
    let end : c.rows.y ≡ f.height = omega arith in
    offsets_are_ones f ox oy size ∙ sym (c.rows.invariant.made ∙ ap (λ (y : ℕ). length (rows_part f 0 0 0 y)) end ∙ offsets_are_ones f 0 0 size)
