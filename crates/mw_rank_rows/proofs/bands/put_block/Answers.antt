use Rattle.std.proofs.Common.{arith, ◌∙◌}
use Rattle.mw_rank_rows.proofs.NumberedBlocks.{rows_put, rows_left}
use Rattle.mw_rank_rows.proofs.bands.put_block.Goals as goal

pub loop-j-preserved : goal.loop-j-preserved
loop-j-preserved g c =
    let known = c.loop-j.invariant in
    let j = c.loop-j.j in
    let width = c.args.width in
    let from = c.args.from in
    let columns = c.args.columns in
    record {
      size = c.put_row.ensures.size ∙ known.size;
      put = rows_put c.loop-j.out c.put_row.new.out c.args.block.now width from columns j c.requires.across c.put_row.ensures.put c.put_row.ensures.others known.put;
      others = λ x k d lt. rows_left c.loop-j.out c.put_row.new.out width from columns j c.requires.across c.put_row.ensures.others x k d lt ∙ known.others x k d lt;
    }

pub returns-clause-put : goal.returns-clause-put
returns-clause-put g c = λ x j d lt down. c.loop-j.invariant.put x j d lt (omega arith)
