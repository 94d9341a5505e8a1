use Rattle.std.proofs.Common.{◌≤◌, length}
use Rattle.mw_ready.specs.Links.{Linked}
use Rattle.mw_ready.proofs.links.links_of.Given as goal

abbrev pub invariant-loop-step : goal.invariant-loop-step
invariant-loop-step l = record {
  within : l.step ≤ length l.needs;
  linked : Linked l.needs l.links.items l.step;
}

abbrev pub decreases-loop-step : goal.decreases-loop-step
decreases-loop-step l = l.step
