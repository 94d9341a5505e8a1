use Rattle.std.proofs.Common.{◌≡◌, ℕ, ◌-◌, ◌*◌, ◌<◌, ◌≤◌, length}
use Rattle.mw_offset.specs.MergedAt.{run_extremum}
use Rattle.mw_offset.proofs.Gathers.{gather_below, IsDoubled}
use Rattle.mw_offset.specs.mw_pixel_words.Packed.{bit_of}
use Rattle.mw_bits_rows.specs.Rows.{laid_bits}
use Rattle.mw_bits.proofs.by_runs.combine_runs.Given as goal

abbrev pub invariant-sizes : goal.invariant-sizes
invariant-sizes g l =
    let f = g.E.Extremum.merge in
    record {
      more : l.sizes.least < l.sizes.next;
      twice : l.sizes.next ≤ 2 * l.sizes.least;
      grown : IsDoubled f (laid_bits l.fn.cells) (laid_bits l.cells) l.sizes.least;
      cells_size : length l.cells ≡ length l.fn.cells;
      out_size : length l.out ≡ length l.fn.out;
      done : (n : ℕ) → ((q : ℕ) → q < 64 * length l.fn.out → bit_of l.fn.out q ≡ n) → (q : ℕ) → q < 64 * length l.fn.out → bit_of l.out q ≡ gather_below f n (run_extremum f (laid_bits l.fn.cells) n l.laid.extent l.laid.wide q) l.sizes.next l.runs;
    }

abbrev pub decreases-sizes : goal.decreases-sizes
decreases-sizes g l = length l.counts - l.sizes.least
