use Rattle.std.proofs.Common.{◌-◌, length}
use Rattle.mw_rank_counts.proofs.costs.mostly_apart.Given as goal

abbrev pub decreases-looks : goal.decreases-looks
decreases-looks g l = length l.samples - l.place
