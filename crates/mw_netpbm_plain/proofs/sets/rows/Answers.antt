use Rattle.std.proofs.Common.{◌*◌, sym, arith}
use Rattle.mw_netpbm_plain.specs.Plain.{plain_at, pixel_in_text}
use Rattle.mw_netpbm_plain.specs.SetWords.{words_from}
use Rattle.mw_netpbm_plain.proofs.PlainSets.{one_row_read, fault_row, all_rows_read, tail_row}
use Rattle.mw_netpbm_plain.proofs.sets.rows.Goals as goal

pub rows-preserved : goal.rows-preserved
rows-preserved c = record {
  made = one_row_read c.args.width c.args.height c.rows.y c.rows.out.items c.row.new.out.items c.rows.rest.now c.in-Ok.after.now (words_from c.args.width c.args.height (plain_at pixel_in_text (c.args.height * c.args.width) c.args.bytes.now)) c.rows-test.true c.in-Ok.ensures.value c.rows.invariant.made;
  filled = omega (arith, c.in-Ok.ensures.len, c.rows.invariant.filled);
  room = omega (arith, c.row.ensures.capacity, c.rows.invariant.room);
}

pub returns-in-Err-clause-value : goal.returns-in-Err-clause-value
returns-in-Err-clause-value c = fault_row c.args.width c.args.height c.rows.y c.rows.out.items c.rows.rest.now c.in-Err.fault (words_from c.args.width c.args.height (plain_at pixel_in_text (c.args.height * c.args.width) c.args.bytes.now)) c.rows-test.true c.in-Err.ensures.value c.rows.invariant.made

pub returns-in-Err-tail-clause-value : goal.returns-in-Err-tail-clause-value
returns-in-Err-tail-clause-value c = tail_row c.args.width c.args.height c.rows.y c.rows.out.items c.rows.rest.now c.in-Err-tail.fault (words_from c.args.width c.args.height (plain_at pixel_in_text (c.args.height * c.args.width) c.args.bytes.now)) c.rows-test.false (sym c.in-Err-tail.ensures) c.rows.invariant.made

pub returns-clause-value : goal.returns-clause-value
returns-clause-value c = all_rows_read c.args.width c.args.height c.rows.y c.rows.out.items c.rows.rest.now (words_from c.args.width c.args.height (plain_at pixel_in_text (c.args.height * c.args.width) c.args.bytes.now)) c.rows-test.false (sym c.in_default.ensures) c.rows.invariant.made
