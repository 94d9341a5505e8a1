use Rattle.std.proofs.Common.{◌≡◌, ℕ, ◌+◌, ◌*◌, ◌≤◌, List, length}
use Rattle.mw_chord_lent.specs.Grown.{AreGrown}
use Rattle.mw_chord_lent.proofs.Grows.{GrownUpTo}
use Rattle.mw_chord_lent.proofs.grow.grow_chunks.Given as goal

abbrev pub invariant-loop-j : goal.invariant-loop-j
invariant-loop-j g l = record {
  size : length l.lists ≡ length l.initial.lists;
  grown : (cells : List g.row.P.Denot) (n : ℕ) → n ≤ l.span → AreGrown g.E.Extremum.merge cells l.initial.lists l.sizes l.span n (l.first + 32 * g.P.Laned.WIDTH)
      → GrownUpTo g.E.Extremum.merge cells l.lists l.sizes l.span n l.first (32 * g.P.Laned.WIDTH) l.j;
}
