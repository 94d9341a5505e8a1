use Rattle.std.proofs.Common.{ℕ, ◌≡◌, ◌+◌, ◌<◌, length}
use Rattle.mw_rank_counts.specs.Counting.{AllUnder}
use Rattle.mw_rank_rows.specs.Columns.{column_count}
use Rattle.mw_rank_rows.specs.Lanes.{Counts, CountsRise}
use Rattle.mw_rank_rows.proofs.column.leave_column.Given as goal

abbrev pub invariant-loop-i : goal.invariant-loop-i
invariant-loop-i g l = record {
  size : length l.counts ≡ length l.initial.counts;
  lanes : length l.below ≡ 8;
  counts : (levels : ℕ) (u w : ℕ → ℕ → ℕ) → Counts levels u l.initial.counts l.front.level l.fn.front.below → AllUnder g.P.Pixel.level g.P.Pixel.TOP l.sheet.samples.now levels
      → ((v j : ℕ) → j < 8 → u v j ≡ w v j + column_count g.P.Pixel.level g.P.Pixel.TOP l.sheet.samples.now l.sheet.width l.at l.sheet.marks.now v j l.i) → CountsRise w → Counts levels w l.counts l.front.level l.below;
}
