use Rattle.std.proofs.Common.{◌≡◌, ℕ, ◌*◌, ◌<◌, length, get_or}
use Rattle.mw_rank_counts.proofs.squeezed.room_for.Given as goal

abbrev pub invariant-loop-q : goal.invariant-loop-q
invariant-loop-q l = record {
  size : length l.places.items ≡ l.q;
  places : (j : ℕ) → j < l.q → get_or l.places.items j 0 ≡ j * 32;
}
