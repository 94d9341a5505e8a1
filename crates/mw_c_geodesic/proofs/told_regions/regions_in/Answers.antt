use Rattle.std.proofs.Common.{◌+◌, ◌∙◌, length, ap}
use Rattle.std.proofs.lemmas.List.{length_push}
use Rattle.mw_c_geodesic.specs.Sides.{IsRegionIn}
use Rattle.mw_c_geodesic.proofs.ToldRegions.{region_more}
use Rattle.mw_c_geodesic.proofs.told_regions.regions_in.Goals as goal

pub loop-k-preserved : goal.loop-k-preserved
loop-k-preserved c =
    let known = c.loop-k.invariant in
    let regions = c.loop-k.regions.items in
    record {
      size = ap length c.in_ok-push.ensures.items ∙ length_push regions c.region_in.result ∙ ap (λ n. n + 1) known.size;
      each = λ j d lt.
          region_more (λ i r. IsRegionIn c.args.t.now c.args.width c.args.height i r) regions c.push.new.self.items c.region_in.result c.loop-k.k known.size c.in_ok-push.ensures.items c.region_in.ensures known.each j d lt;
    }
