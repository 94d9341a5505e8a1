use Rattle.mw_rank_counts.proofs.Squeezing.{one_place_more, one_place_long}
use Rattle.mw_rank_counts.proofs.squeezed.room_for.Goals as goal

pub loop-q-preserved : goal.loop-q-preserved
loop-q-preserved c = record {
  size = one_place_long c.loop-q.places.items c.push.new.self.items c.loop-q.q c.in_ok-push.ensures.items c.loop-q.invariant.size;
  places = one_place_more c.loop-q.places.items c.push.new.self.items c.loop-q.q c.in_ok-push.ensures.items c.loop-q.invariant.size c.loop-q.invariant.places;
}
