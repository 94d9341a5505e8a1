use Rattle.std.proofs.Common.{ℕ, get_or, ap, sym, arith, ◌∙◌, zero-add}
use Rattle.mw_line_lent.proofs.tiles.begin_sheet.Goals as goal

pub returns : goal.returns
returns g c =
    let b = c.args.boxes in
    let n = c.args.neutral in
    let count = b.part.count in
    let cells = c.fill.new.out in
    record {
      size = c.fill-2.ensures.put.size ∙ c.fill.ensures.put.size ∙ c.requires.size;
      first = λ i lt. c.fill-2.ensures.put.before i n (omega (arith, lt)) ∙ ap (λ (t : ℕ). get_or cells t n) (sym (zero-add i)) ∙ c.fill.ensures.made i n lt;
      last = λ i lt. c.fill-2.ensures.made i n lt;
    }
