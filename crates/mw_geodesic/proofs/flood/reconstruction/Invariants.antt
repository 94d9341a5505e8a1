use Rattle.std.proofs.Common.{◌≤◌, ◌<◌}
use Rattle.mw_geodesic.specs.Floods.{IsPartlyRebuilt, AllWait}
use Rattle.mw_geodesic.proofs.Raised.{OthersWait, cost}
use Rattle.mw_geodesic.proofs.flood.reconstruction.Given as goal

abbrev pub invariant-loop-i : goal.invariant-loop-i
invariant-loop-i l = record {
  between : IsPartlyRebuilt l.element l.mask l.marker l.canvas;
  waits : OthersWait l.element l.mask l.canvas l.queue.items l.q l.i;
  column : l.q.x < l.canvas.width;
  row : l.q.y < l.canvas.height;
  costs : cost l.canvas l.queue.items ≤ cost l.initial.canvas l.initial.queue.items;
}

abbrev pub invariant-loop-q : goal.invariant-loop-q
invariant-loop-q l = record {
  between : IsPartlyRebuilt l.element l.mask l.marker l.canvas;
  waits : AllWait l.element l.mask l.canvas l.queue.items;
}

abbrev pub decreases-loop-q : goal.decreases-loop-q
decreases-loop-q l = cost l.canvas l.queue.items
