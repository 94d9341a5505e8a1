use Rattle.std.proofs.Common.{ℕ, ◌≡◌, ◌+◌, ◌-◌, ◌≤◌, length}
use Rattle.mw_rank_rows.specs.Tables.{LanesHold, ShowsColumns, ColumnsSlide, HasFound}
use Rattle.mw_rank_rows.proofs.slide.slide.Given as goal

abbrev pub invariant-by_column : goal.invariant-by_column
invariant-by_column g l = record {
  within : l.done ≤ l.span.width;
  size : length l.made ≡ length l.initial.made;
  moved : (levels : ℕ) (column : ℕ → ℕ → ℕ → ℕ) (seen : ℕ → ℕ → ℕ → ℕ → ℕ) → ShowsColumns g.P.Pixel.level g.P.Pixel.TOP levels column l.strip l.all
      → ColumnsSlide l.span.columns column seen → LanesHold levels (λ v j. seen v l.span.x l.span.columns j) l.initial.counts l.initial.lanes → LanesHold levels (λ v j. seen v (l.span.x + l.done) l.span.columns j) l.counts l.lanes;
  found : (levels : ℕ) (column : ℕ → ℕ → ℕ → ℕ) (seen : ℕ → ℕ → ℕ → ℕ → ℕ) → ShowsColumns g.P.Pixel.level g.P.Pixel.TOP levels column l.strip l.all
      → ColumnsSlide l.span.columns column seen → LanesHold levels (λ v j. seen v l.span.x l.span.columns j) l.initial.counts l.initial.lanes → HasFound g.P.Pixel.level levels seen l.span.columns l.span.k l.span.x l.span.width l.done l.made;
}

abbrev pub decreases-by_column : goal.decreases-by_column
decreases-by_column g l = l.span.width - l.done
