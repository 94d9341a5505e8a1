use Rattle.std.proofs.Common.{◌*◌, arith}
use Rattle.mw_geodesic_runs.proofs.Tallies.{left_small}
use Rattle.mw_geodesic_runs.proofs.ChangedPlaces.{changes_are}
use Rattle.mw_geodesic_runs.proofs.changes.changes_of.Goals as goal

pub change_bits-requires : goal.change_bits-requires
change_bits-requires c = let small = left_small c.args.words.now (64 * c.args.k) in let is = c.bit_before.ensures in omega arith

pub returns : goal.returns
returns c = changes_are c.args.words.now c.args.k c.bit_before.result c.change_bits.result c.bit_before.ensures c.change_bits.ensures.first c.change_bits.ensures.others
