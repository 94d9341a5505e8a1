use Rattle.mw_geodesic.specs.Floods.{left_out, put_in}
use Rattle.mw_geodesic.proofs.flood.wait_if_needed.Goals as goal

pub returns-in_ok-push_back : goal.returns-in_ok-push_back
returns-in_ok-push_back c = rw c.in_ok-push_back.ensures.items put_in

pub returns-else-can_offer : goal.returns-else-can_offer
returns-else-can_offer c = left_out (c.can_offer.ensures c.if-can_offer.false)
