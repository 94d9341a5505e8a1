use Rattle.mw_geodesic.proofs.Raised.{NothingBefore}
use Rattle.mw_geodesic.proofs.flood.can_offer.Given as goal

abbrev pub invariant-loop-i : goal.invariant-loop-i
invariant-loop-i l = NothingBefore l.element l.i l.mask l.canvas l.q.x l.q.y
