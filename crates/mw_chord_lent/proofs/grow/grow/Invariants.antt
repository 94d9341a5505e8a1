use Rattle.std.proofs.Common.{◌≡◌, ◌*◌, ◌≤◌, length}
use Rattle.mw_chord_lent.specs.Grown.{AreGrown}
use Rattle.mw_chord_lent.proofs.grow.grow.Given as goal

abbrev pub invariant-by_chunk : goal.invariant-by_chunk
invariant-by_chunk g l = record {
  within : l.left ≤ l.chunks;
  size : length l.lists ≡ length l.initial.lists;
  grown : AreGrown g.E.Extremum.merge l.initial.lists l.lists l.sizes l.span (l.chunks * (32 * g.P.Laned.WIDTH)) (l.left * (32 * g.P.Laned.WIDTH));
}

abbrev pub decreases-by_chunk : goal.decreases-by_chunk
decreases-by_chunk g l = l.left
