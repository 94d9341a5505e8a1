use Rattle.std.proofs.Common.{ℕ, ◌+◌, ◌-◌}
use Rattle.mw_rank_rows.specs.Tables.{ColumnsSlide, LanesHold, ShowsColumns}
use Rattle.mw_rank_rows.proofs.slide.leave_all.Given as goal

abbrev pub invariant-loop-c : goal.invariant-loop-c
invariant-loop-c g l = (levels : ℕ) (column : ℕ → ℕ → ℕ → ℕ) (seen : ℕ → ℕ → ℕ → ℕ → ℕ) → ShowsColumns g.P.Pixel.level g.P.Pixel.TOP levels column l.strip l.all
    → ColumnsSlide l.columns column seen → LanesHold levels (λ v j. seen v l.x l.columns j) l.initial.counts l.initial.lanes → LanesHold levels (λ v j. seen v (l.x + l.c) (l.columns - l.c) j) l.counts l.lanes
