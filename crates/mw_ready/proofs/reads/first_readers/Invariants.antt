use Rattle.std.proofs.Common.{◌≡◌, ℕ, ◌*◌, ◌<◌, length, get_or}
use Rattle.mw_grid.specs.Grids.{tile_count}
use Rattle.mw_ready.specs.Kept.{reader_count}
use Rattle.mw_ready.proofs.reads.first_readers.Given as goal

abbrev pub invariant-loop-k : goal.invariant-loop-k
invariant-loop-k l = record {
  size : length l.counts.items ≡ length l.needs * tile_count l.grid;
  each : (u : ℕ) → u < length l.needs * tile_count l.grid → get_or l.counts.items u 0 ≡ reader_count l.needs l.grid (l.k * tile_count l.grid) u;
}
