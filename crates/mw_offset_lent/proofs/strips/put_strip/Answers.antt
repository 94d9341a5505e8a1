use Rattle.std.proofs.Common.{◌<◌, arith}
use Rattle.std.proofs.lemmas.Int.{ints}
use Rattle.mw_offset_lent.proofs.strips.put_strip.Goals as goal

pub put_in_place-requires-clause-strip : goal.put_in_place-requires-clause-strip
put_in_place-requires-clause-strip g c =
    let work = c.requires.work in
    record {
      some = omega (arith, c.min-high.ensures, c.min-most.ensures, work.laid.some, c.requires.row);
      within = omega (arith, c.min-high.ensures, c.min-most.ensures, c.requires.row);
      most = omega (arith, c.min-high.ensures, c.min-most.ensures);
    }

pub put_in_place-requires-clause-lines : goal.put_in_place-requires-clause-lines
put_in_place-requires-clause-lines g c =
    let work = c.requires.work in
    let free = c.rows_in_place-free.ensures in
    let some : 0 < c.rows_in_place-free.result = omega arith in
    let top = free.top some in
    let bottom = free.bottom some in
    record {
      some = omega (arith, ints, top, bottom);
      top = omega (arith, ints, top, work.laid.row, c.requires.row);
      bottom = omega (arith, ints, bottom, c.min-high.ensures, work.laid.row, c.requires.row);
    }

pub put_laid-requires-clause-strip : goal.put_laid-requires-clause-strip
put_laid-requires-clause-strip g c =
    let high = c.rows_to_lay-high.ensures in
    record { some = high.some; within = omega (arith, high.most, c.min-most.ensures, c.requires.row); most = omega (arith, high.most, c.min-most.ensures) }
