use Rattle.mw_rank.proofs.Rows.{gains_more}
use Rattle.mw_rank_counts.proofs.counting.push_lowest.Goals as goal

pub loop-i-preserved : goal.loop-i-preserved
loop-i-preserved g c =
    gains_more g.P.Pixel.level (λ i. 0) c.loop-i._i c.args.out.now.items c.loop-i.out.items c.push.new.self.items c.sample_of-lowest.result c.in_ok-push.ensures.items c.sample_of-lowest.ensures c.loop-i.invariant
