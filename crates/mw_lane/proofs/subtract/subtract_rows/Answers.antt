use Rattle.std.proofs.Common.{arith, ◌∙◌, ◌+◌, length-set, ap, map}
use Rattle.mw_model.proofs.mw_facts.Merged.{merged_step, merged_chunk, merged_all, length-merged}
use Rattle.mw_lane.proofs.Differences.{map-zip2}
use Rattle.mw_lane.proofs.subtract.subtract_rows.Goals as goal

pub by_block-preserved : goal.by_block-preserved
by_block-preserved g c =
    let step = merged_chunk g.P.Lanes.difference c.by_block.at 64 _ c.args.acc.now c.args.other.now c.by_block.acc c.subtract_block.new.acc (omega arith) c.requires c.by_block.invariant.so_far c.subtract_block.ensures in
    record { within = rw step (omega (arith, length-merged g.P.Lanes.difference (c.by_block.at + 64) c.args.acc.now c.args.other.now)); so_far = step }

pub by_one-preserved : goal.by_one-preserved
by_one-preserved g c = record {
  within = omega (arith, length-set c.by_one.acc c.by_one.at c.subtract.result);
  so_far = merged_step g.P.Lanes.difference c.by_one.at c.args.acc.now c.args.other.now c.by_one.acc c.index-acc-at.result c.index-other-at.result c.subtract.result (omega arith) c.requires c.by_one.invariant.so_far c.index-acc-at.is c.index-other-at.is c.subtract.ensures;
}

pub returns-clause-rows : goal.returns-clause-rows
returns-clause-rows g c = c.by_one.invariant.so_far ∙ merged_all g.P.Lanes.difference c.by_one.at c.args.acc.now c.args.other.now c.requires (omega arith)

pub returns-clause-levels : goal.returns-clause-levels
returns-clause-levels g c =
    ap (map g.P.Pixel.level) (c.by_one.invariant.so_far ∙ merged_all g.P.Lanes.difference c.by_one.at c.args.acc.now c.args.other.now c.requires (omega arith))
    ∙ map-zip2 g.P.Lanes.difference g.P.Pixel.level g.met.P.Lanes.level_of_difference c.args.acc.now c.args.other.now
