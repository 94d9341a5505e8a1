use Rattle.std.proofs.Common.{◌≡◌, ◌+◌, ◌≤◌, vec_len}
use Rattle.mw_geodesic_levels.proofs.queue.LevelQueue.pop.Given as goal

abbrev pub invariant-loop-self : goal.invariant-loop-self
invariant-loop-self l = record {
  within : l.self-inside.top ≤ vec_len l.self-inside.heads;
  deep : l.self-inside.depth ≤ vec_len l.self-inside.stretches;
  same : l.self-inside.count + l.self-inside.depth ≡ l.fn.self;
}

abbrev pub decreases-loop-self : goal.decreases-loop-self
decreases-loop-self l = l.self-inside.top
