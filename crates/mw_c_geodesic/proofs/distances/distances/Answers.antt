use Rattle.std.proofs.Common.{◌≡◌, ◌∙◌, None, List, ap, length, rules, sym}
use Rattle.mw_model.specs.Pictures.{IsImage}
use Rattle.mw_c_arrays.specs.Arrays.{set_picture}
use Rattle.mw_c_arrays.proofs.SourceImages.{set_fills}
use Rattle.mw_geodesic_distances.specs.declared.metric.Metric.{Metric}
use Rattle.mw_geodesic_distances.specs.Metrics.{metric_distance}
use Rattle.mw_c_geodesic.proofs.DistanceSizes.{distance_size}
use Rattle.mw_c_geodesic.proofs.Passed.{passed, room_is, where_none}
use Rattle.mw_c_geodesic.proofs.distances.distances.Goals as goal

pub returns-in-Ok-clause-value : goal.returns-in-Ok-clause-value
returns-in-Ok-clause-value c = c.in-Ok.ensures ∙ ap (λ (m : Metric). (metric_distance m c.args.top (set_picture c.args.f)).samples) c.metric_of.ensures

pub returns-in-Ok-clause-size : goal.returns-in-Ok-clause-size
returns-in-Ok-clause-size c =
    let f = set_picture c.args.f in
    let none : c.refused.result ≡ None = search rules in
    let parts = passed c.first_of-metric.result c.fault-image.result c.room_fault-places.result None (sym c.refused.ensures ∙ none) in
    let image = where_none c.fault-image.result (IsImage f) parts.image c.fault-image.ensures.sound in
    ap length c.in-Ok.ensures ∙ distance_size c.metric_of.result c.args.top f ∙ sym (set_fills c.args.f image) ∙ sym (room_is c.args.room (length c.args.f.pixels.now) (sym c.room_fault-places.ensures ∙ parts.room))
