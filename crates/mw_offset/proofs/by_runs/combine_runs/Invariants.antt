use Rattle.std.proofs.Common.{◌≡◌, ℕ, ◌+◌, ◌-◌, ◌*◌, ◌<◌, ◌≤◌, length, get_or}
use Rattle.mw_offset.specs.MergedAt.{run_extremum}
use Rattle.mw_offset.proofs.Gathers.{gather_below, IsDoubled}
use Rattle.mw_offset.proofs.by_runs.combine_runs.Given as goal

abbrev pub invariant-sizes : goal.invariant-sizes
invariant-sizes g l =
    let f = g.E.Extremum.merge in
    let laid = l.laid in
    record {
      more : l.sizes.least < l.sizes.next;
      twice : l.sizes.next ≤ 2 * l.sizes.least;
      grown : IsDoubled f l.fn.cells l.cells l.sizes.least;
      out_size : length l.out ≡ length l.fn.out;
      done : (n : g.row.P.Denot) → ((q : ℕ) → get_or l.fn.out q n ≡ n) → (x y : ℕ) → x < laid.width → y < laid.height
          → get_or l.out (y * laid.width + x) n ≡ gather_below f n (run_extremum f l.fn.cells n laid.extent laid.wide (y * laid.wide + x)) l.sizes.next l.runs;
    }

abbrev pub decreases-sizes : goal.decreases-sizes
decreases-sizes g l = l.longest + 1 - l.sizes.least
