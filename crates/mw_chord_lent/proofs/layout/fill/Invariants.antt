use Rattle.std.proofs.Common.{◌≡◌, ℕ, ◌<◌, length, get_or}
use Rattle.mw_chord_lent.proofs.layout.fill.Given as goal

abbrev pub invariant-loop-x : goal.invariant-loop-x
invariant-loop-x g l = record {
  size : length l.out ≡ length l.initial.out;
  made : (x : ℕ) (d : g.row.P.Denot) → x < l.x → get_or l.out x d ≡ l.neutral;
}
