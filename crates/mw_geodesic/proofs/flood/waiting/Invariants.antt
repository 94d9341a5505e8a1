use Rattle.std.proofs.Common.{ℕ, ◌<◌}
use Rattle.mw_geodesic.specs.Floods.{Has}
use Rattle.mw_geodesic.proofs.Raised.{Told}
use Rattle.mw_geodesic.proofs.flood.waiting.Given as goal

abbrev pub invariant-loop-x : goal.invariant-loop-x
invariant-loop-x l = record {
  inside : (u v : ℕ) → Has l.queue.items u v → (u < l.width) × (v < l.height);
  rows : (u v : ℕ) → u < l.width → v < l.y → Told l.element l.mask l.canvas l.queue.items u v;
  row : (u : ℕ) → u < l.x → Told l.element l.mask l.canvas l.queue.items u l.y;
}

abbrev pub invariant-loop-y : goal.invariant-loop-y
invariant-loop-y l = record {
  inside : (u v : ℕ) → Has l.queue.items u v → (u < l.width) × (v < l.height);
  rows : (u v : ℕ) → u < l.width → v < l.y → Told l.element l.mask l.canvas l.queue.items u v;
}
