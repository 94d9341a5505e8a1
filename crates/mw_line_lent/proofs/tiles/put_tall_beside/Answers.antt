use Rattle.std.proofs.Common.{ℕ, get_or, ap, sym, arith, ◌∙◌, zero-add}
use Rattle.mw_line_lent.proofs.tiles.put_tall_beside.Goals as goal

pub put_tall_with_room-requires-clause-tall : goal.put_tall_with_room-requires-clause-tall
put_tall_with_room-requires-clause-tall g c =
    let n = c.args.neutral in
    let line = c.fill.new.out in
    record {
      suited = c.requires.suited;
      part = c.requires.part;
      low = c.requires.low;
      near = c.requires.near;
      far = c.requires.far;
      room = omega (arith, c.fill.ensures.put.size);
      neutral = λ i lt. ap (λ (t : ℕ). get_or line t n) (sym (zero-add i)) ∙ c.fill.ensures.made i n lt;
    }
