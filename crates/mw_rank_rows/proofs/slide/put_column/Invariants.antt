use Rattle.std.proofs.Common.{ℕ, ◌≡◌, ◌+◌, ◌-◌, ◌*◌, ◌<◌, length, get_or}
use Rattle.mw_rank_rows.proofs.slide.put_column.Given as goal

abbrev pub invariant-loop-r : goal.invariant-loop-r
invariant-loop-r g l = record {
  size : length l.made ≡ length l.initial.made;
  put : (q : ℕ) (e : g.row.P.Denot) → q < l.r → g.P.Pixel.level (get_or l.made (q * l.width + l.at) e) ≡ get_or l.levels (7 - q) 0;
  others : (s q : ℕ) (e : g.row.P.Denot) → q < l.width → (q ≡ l.at → ⊥) → get_or l.made (s * l.width + q) e ≡ get_or l.initial.made (s * l.width + q) e;
}
