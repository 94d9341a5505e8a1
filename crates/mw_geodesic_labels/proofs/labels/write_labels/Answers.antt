use Rattle.std.proofs.Common.{ℕ, length, subst}
use Rattle.mw_model.specs.Rasters.{Raster}
use Rattle.mw_pixel.specs.Images.{set_of}
use Rattle.mw_geodesic.specs.Neighbours.{neighbours_of}
use Rattle.mw_geodesic_runs.specs.Components.{AreRunSpans}
use Rattle.mw_geodesic_labels.proofs.HeldSpans.{held_fit, held_labels}
use Rattle.mw_geodesic_labels.proofs.labels.write_labels.Goals as goal

pub write_spans-requires : goal.write_spans-requires
write_spans-requires c =
    let e = neighbours_of c.args.neighbours in
    let p = c.args.set.now in
    let found = c.in_ok-found.found in
    let are : AreRunSpans e (set_of p) found.spans.items found.starts.items found.numbers.items found.count =
    subst (λ (t : Raster ℕ). AreRunSpans e (set_of t) found.spans.items found.starts.items found.numbers.items found.count) c.words.ensures.value c.in_ok-found.ensures in
    held_fit e (set_of p) found.spans.items c.as_slice-spans.result.now found.starts.items c.as_slice-starts.result.now found.numbers.items c.as_slice-numbers.result.now found.count c.width-width.result c.height-height.result (length c.args.out.now) are c.width-width.ensures.value c.height-height.ensures.value c.as_slice-spans.ensures.value c.as_slice-starts.ensures.value c.as_slice-numbers.ensures.value c.requires.room

pub returns-clause-made : goal.returns-clause-made
returns-clause-made c =
    let e = neighbours_of c.args.neighbours in
    let p = c.args.set.now in
    let found = c.in_ok-found.found in
    let are : AreRunSpans e (set_of p) found.spans.items found.starts.items found.numbers.items found.count =
    subst (λ (t : Raster ℕ). AreRunSpans e (set_of t) found.spans.items found.starts.items found.numbers.items found.count) c.words.ensures.value c.in_ok-found.ensures in
    held_labels e (set_of p) found.spans.items c.as_slice-spans.result.now found.starts.items c.as_slice-starts.result.now found.numbers.items c.as_slice-numbers.result.now c.write_spans.new.labels found.count c.width-width.result c.height-height.result (length c.args.out.now) are c.width-width.ensures.value c.height-height.ensures.value c.as_slice-spans.ensures.value c.as_slice-starts.ensures.value c.as_slice-numbers.ensures.value c.requires.room
    c.write_spans.ensures
