use Rattle.std.proofs.Common.{◌≡◌, ℕ, ◌+◌, ◌<◌, length, take, get_or, fold}
use Rattle.mw_offset.specs.MergedAt.{merge_from}
use Rattle.mw_offset.proofs.merging.merge_block.Given as goal

abbrev pub invariant-loop-place : goal.invariant-loop-place
invariant-loop-place g l = record {
  size : length l.best ≡ 64;
  done : (q : ℕ) (d : g.row.P.Denot) → q < 64 → get_or l.best q d ≡ fold (merge_from g.E.Extremum.merge l.cells d (l.at + q)) (get_or l.block q d) (take l.place-index l.places);
}
