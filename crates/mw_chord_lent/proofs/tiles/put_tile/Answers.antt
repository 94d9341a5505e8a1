use Rattle.std.proofs.Common.{◌<◌, arith}
use Rattle.mw_chord_lent.proofs.Works.{runs_fit}
use Rattle.mw_chord_lent.proofs.tiles.put_tile.Goals as goal

pub places_of-requires-clause-fits : goal.places_of-requires-clause-fits
places_of-requires-clause-fits g c =
    let longest = c.longest_of-longest.result in
    let some : 0 < longest = omega arith in
    runs_fit _ c.args.tile c.args.extent longest c.plan_of-plan.result c.args.runs.now some c.plan_of-plan.ensures c.requires.inside
