use Rattle.std.proofs.Common.{◌≡◌, ℕ, ◌+◌, ◌<◌, get_or}
use Rattle.mw_line_lent.specs.Boxes.{IsPutAt}
use Rattle.mw_offset_lent.proofs.parts.fill.Given as goal

abbrev pub invariant-loop-i : goal.invariant-loop-i
invariant-loop-i g l = record {
  put : IsPutAt l.at l.n l.initial.out l.out;
  made : (i : ℕ) (d : g.row.P.Denot) → i < l.i → get_or l.out (l.at + i) d ≡ l.neutral;
}
