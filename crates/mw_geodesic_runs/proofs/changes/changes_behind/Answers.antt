use Rattle.std.proofs.Common.{◌/◌, ◌%◌, refl, arith}
use Rattle.mw_geodesic_runs.proofs.ChangedPlaces.{positive, none_behind, first_lowest, first_behind}
use Rattle.mw_geodesic_runs.proofs.changes.changes_behind.Goals as goal

pub without_lowest-requires : goal.without_lowest-requires
without_lowest-requires c =
    let lowest = first_lowest c.args.words.now c.args.at (c.args.at / 64) c.changes_of.result refl c.requires.zeros (c.requires.one (omega arith)) c.changes_of.ensures in
    positive c.changes_of.result (c.args.at % 64) lowest.one

pub returns-then-k-words : goal.returns-then-k-words
returns-then-k-words c = none_behind c.args.words.now c.args.at (c.args.at / 64) (omega arith)

pub returns : goal.returns
returns c =
    let lowest = first_lowest c.args.words.now c.args.at (c.args.at / 64) c.changes_of.result refl c.requires.zeros (c.requires.one (omega arith)) c.changes_of.ensures in
    first_behind c.args.words.now c.args.at (c.args.at / 64) c.changes_of.result c.without_lowest.result refl (c.without_lowest.ensures (c.args.at % 64) lowest) c.changes_of.ensures
