use Rattle.std.proofs.Common.{◌≡◌, ◌≤◌}
use Rattle.mw_geodesic.specs.Neighbours.{IsPlace}
use Rattle.mw_geodesic.specs.Labels.{label_at}
use Rattle.mw_geodesic.proofs.Markings.{Marking, MarkingWaits, MarkingOthersWait, mark_cost}
use Rattle.mw_geodesic.proofs.labels.mark_component.Given as goal

abbrev pub invariant-loop-i : goal.invariant-loop-i
invariant-loop-i l = record {
  marking : Marking l.element l.set l.n l.fn.seed.x l.fn.seed.y l.fn.labels l.labels l.queue.items;
  waits : MarkingOthersWait l.element l.set l.n l.labels l.queue.items l.q l.i;
  place : IsPlace l.set l.q.x l.q.y;
  label : label_at l.set l.labels l.q.x l.q.y ≡ l.n;
  before : label_at l.set l.fn.labels l.q.x l.q.y ≡ 0;
  costs : mark_cost l.labels l.queue.items ≤ mark_cost l.initial.labels l.initial.queue.items;
}

abbrev pub invariant-loop-q : goal.invariant-loop-q
invariant-loop-q l = record {
  marking : Marking l.element l.set l.n l.fn.seed.x l.fn.seed.y l.fn.labels l.labels l.queue.items;
  waits : MarkingWaits l.element l.set l.n l.labels l.queue.items;
}

abbrev pub decreases-loop-q : goal.decreases-loop-q
decreases-loop-q l = mark_cost l.labels l.queue.items
