use Rattle.std.proofs.Common.{arith, ◌∙◌, ◌+◌, length-set}
use Rattle.mw_model.proofs.mw_facts.Merged.{merged_step, merged_chunk, merged_all, length-merged}
use Rattle.mw_lane.proofs.combine.combine_rows.Goals as goal

pub by_block-preserved : goal.by_block-preserved
by_block-preserved g c =
    let step = merged_chunk g.E.Extremum.merge c.by_block.at 64 _ c.args.acc.now c.args.other.now c.by_block.acc c.combine_block.new.acc (omega arith) c.requires c.by_block.invariant.so_far c.combine_block.ensures in
    record { within = rw step (omega (arith, length-merged g.E.Extremum.merge (c.by_block.at + 64) c.args.acc.now c.args.other.now)); so_far = step }

pub by_one-preserved : goal.by_one-preserved
by_one-preserved g c = record {
  within = omega (arith, length-set c.by_one.acc c.by_one.at c.combine.result);
  so_far = merged_step g.E.Extremum.merge c.by_one.at c.args.acc.now c.args.other.now c.by_one.acc c.index-acc-at.result c.index-other-at.result c.combine.result (omega arith) c.requires c.by_one.invariant.so_far c.index-acc-at.is c.index-other-at.is c.combine.ensures;
}

pub returns : goal.returns
returns g c = c.by_one.invariant.so_far ∙ merged_all g.E.Extremum.merge c.by_one.at c.args.acc.now c.args.other.now c.requires (omega arith)
