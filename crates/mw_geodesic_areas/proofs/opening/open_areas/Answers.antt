use Rattle.std.proofs.Common.{◌∙◌, List, ap, map}
use Rattle.std.proofs.lemmas.List.{length-map}
use Rattle.std.proofs.lemmas.Result.{on_ok_weaker}
use Rattle.mw_model.specs.declared.offsets.Offset.{Offset}
use Rattle.mw_geodesic.specs.Components.{area_opening}
use Rattle.mw_geodesic_levels.specs.Pictures.{element_with_corners}
use Rattle.mw_geodesic_areas.specs.Seen.{level_seen}
use Rattle.mw_geodesic_areas.proofs.Opened.{opened_lists, shown}
use Rattle.mw_geodesic_areas.proofs.opening.open_areas.Goals as goal

pub returns-clause-made : goal.returns-clause-made
unfolding level_seen
returns-clause-made g c = λ maxval is.
    let level = g.P.Pixel.level in
    let made = c.open_into.new.out in
    on_ok_weaker c.open_into.result
    (λ each.
    opened_lists (element_with_corners c.corners.result) maxval c.args.width c.args.height c.args.least (map level c.args.samples.now) (map level made) is (length-map made level ∙ c.open_into.ensures.size ∙ c.requires.out) each
    ∙ ap (λ (e : List Offset). area_opening e c.args.least (shown maxval c.args.width c.args.height (map level c.args.samples.now))) c.corners.ensures) c.open_into.ensures.each
