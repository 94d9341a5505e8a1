use Rattle.std.proofs.Common.{◌+◌, ◌*◌, ◌∙◌, arith, length-set}
use Rattle.mw_rank_rows.proofs.Steps.{put_more, put_others}
use Rattle.mw_rank_rows.proofs.slide.put_column.Goals as goal

pub loop-r-preserved : goal.loop-r-preserved
loop-r-preserved g c =
    let made = c.loop-r.made in
    let width = c.args.width in
    let at = c.args.at in
    let r = c.loop-r.r in
    let a = c.sample_of.result in
    let i = c.loop-r.invariant in
    record {
      size = length-set made (r * width + at) a ∙ i.size;
      put = put_more g.P.Pixel.level made width at r c.args.levels a (i.size ∙ c.requires.whole) c.requires.inside c.loop-r-test.true c.sample_of.ensures i.put;
      others = λ s q e lt other. put_others made width at r a c.requires.inside s q e lt other ∙ i.others s q e lt other;
    }

pub returns-clause-put : goal.returns-clause-put
returns-clause-put g c = λ r e lt. c.loop-r.invariant.put r e (omega arith)
