use Rattle.std.proofs.Common.{ℕ, ◌%◌, ◌*◌, ap, arith}
use Rattle.mw_grid.specs.Counts.{bit}
use Rattle.mw_grid.specs.Grids.{tile_count}
use Rattle.mw_ready.specs.Boards.{is_source, step_on_grid, step_reads}
use Rattle.mw_ready.specs.Kept.{seen_by}
use Rattle.mw_ready.specs.Spans.{tiles_spanned}
use Rattle.mw_ready.proofs.Raising.{raises_same, raises_three, raised_most}
use Rattle.mw_ready.proofs.Spanning.{spans-most, spans-seen}
use Rattle.mw_ready.proofs.reads.raise_sources.Goals as goal

pub raise_source-requires-clause-fits : goal.raise_source-requires-clause-fits
raise_source-requires-clause-fits c = λ u lt.
    let a = c.args in
    omega (arith, c.requires.fits u lt, spans-most a.grid a.need.reach c.args.spans.now u c.requires.spans)

pub raise_source-requires-2-clause-fits : goal.raise_source-requires-2-clause-fits
raise_source-requires-2-clause-fits c = λ u lt.
    let a = c.args in
    let first = c.raise_source in
    let size = first.ensures.size in
    let number : ℕ → ℕ = λ v. tiles_spanned a.grid c.args.spans.now (v % tile_count a.grid) in
    let most = spans-most a.grid a.need.reach c.args.spans.now u c.requires.spans in
    omega (arith, c.requires.fits u (omega arith), most, raised_most number (λ v. is_source (step_on_grid a.grid v) c.sources-first.result.0) a.counts.now first.new.counts u (tile_count a.grid) first.ensures (omega arith) most)

pub raise_source-requires-3-clause-fits : goal.raise_source-requires-3-clause-fits
raise_source-requires-3-clause-fits c = λ u lt.
    let a = c.args in
    let first = c.raise_source in
    let second = c.raise_source-2 in
    let size = first.ensures.size in
    let size-2 = second.ensures.size in
    let number : ℕ → ℕ = λ v. tiles_spanned a.grid c.args.spans.now (v % tile_count a.grid) in
    let most = spans-most a.grid a.need.reach c.args.spans.now u c.requires.spans in
    omega (
      arith,
      c.requires.fits u (omega arith),
      most,
      raised_most number (λ v. is_source (step_on_grid a.grid v) c.sources-first.result.0) a.counts.now first.new.counts u (tile_count a.grid) first.ensures (omega arith) most,
      raised_most number (λ v. is_source (step_on_grid a.grid v) c.sources-first.result.1) first.new.counts second.new.counts u (tile_count a.grid) second.ensures (omega arith) most,
    )

pub returns : goal.returns
returns c =
    let a = c.args in
    let number : ℕ → ℕ = λ u. tiles_spanned a.grid c.args.spans.now (u % tile_count a.grid) in
    raises_same (λ u. bit (step_reads a.need (step_on_grid a.grid u)) * number u) (λ u. bit (step_reads a.need (step_on_grid a.grid u)) * seen_by a.grid a.need.reach (u % tile_count a.grid)) a.counts.now c.raise_source-3.new.counts
    (λ u. ap (λ (k : ℕ). bit (step_reads a.need (step_on_grid a.grid u)) * k) (spans-seen a.grid a.need.reach c.args.spans.now u c.requires.spans))
    (raises_three number (λ u. is_source (step_on_grid a.grid u) c.sources-first.result.0) (λ u. is_source (step_on_grid a.grid u) c.sources-first.result.1) (λ u. is_source (step_on_grid a.grid u) c.sources-first.result.2) (λ u. step_reads a.need (step_on_grid a.grid u))
    a.counts.now c.raise_source.new.counts c.raise_source-2.new.counts c.raise_source-3.new.counts (λ u. c.sources-first.ensures (step_on_grid a.grid u)) c.raise_source.ensures c.raise_source-2.ensures c.raise_source-3.ensures)
