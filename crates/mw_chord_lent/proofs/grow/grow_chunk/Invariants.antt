use Rattle.std.proofs.Common.{◌≡◌, ℕ, ◌+◌, ◌*◌, ◌<◌, get_or}
use Rattle.mw_line_lent.specs.Boxes.{IsPutAt}
use Rattle.mw_chord_lent.proofs.grow.grow_chunk.Given as goal

abbrev pub invariant-loop-k : goal.invariant-loop-k
invariant-loop-k g l = record {
  put : IsPutAt l.step.to (32 * g.P.Laned.WIDTH) l.initial.lists l.lists;
  made : (i : ℕ) (d : g.row.P.Denot) → i < l.k * (2 * g.P.Laned.WIDTH)
      → get_or l.lists (l.step.to + i) d ≡ g.E.Extremum.merge (get_or l.initial.lists (l.step.from + i) d) (get_or l.initial.lists (l.step.from + l.step.ahead + i) d);
}
