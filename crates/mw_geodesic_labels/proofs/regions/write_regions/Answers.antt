use Rattle.std.proofs.Common.{ℕ, ◌/◌, List, length, subst, sym, arith}
use Rattle.mw_model.specs.Rasters.{Raster}
use Rattle.mw_pixel.specs.Images.{set_of}
use Rattle.mw_geodesic.specs.Neighbours.{neighbours_of}
use Rattle.mw_geodesic_runs.specs.Components.{AreRunSpans}
use Rattle.mw_geodesic_labels.specs.Regions.{AreRegionsTold}
use Rattle.mw_geodesic_labels.proofs.HeldSpans.{held_components, held_counted, held_rows}
use Rattle.mw_geodesic_labels.proofs.Results.{told_unwritten}
use Rattle.mw_geodesic_labels.proofs.regions.write_regions.Goals as goal
use Rattle.mw_geodesic_labels.proofs.regions.write_regions.Goals.{then-count-room, else-count-room}

pub gather_rows-requires : goal.gather_rows-requires
gather_rows-requires c =
    let e = neighbours_of c.args.neighbours in
    let p = c.args.set.now in
    let found = c.in_ok-found.found in
    let are : AreRunSpans e (set_of p) found.spans.items found.starts.items found.numbers.items found.count =
    subst (λ (t : Raster ℕ). AreRunSpans e (set_of t) found.spans.items found.starts.items found.numbers.items found.count) c.words.ensures.value c.in_ok-found.ensures in
    held_counted e (set_of p) found.spans.items c.as_slice-spans.result.now found.starts.items c.as_slice-starts.result.now found.numbers.items c.as_slice-numbers.result.now found.count (length c.args.out.now / 7) c.height-height.result c.requires.few are (omega (arith, c.if-count-room.true)) c.height-height.ensures.value c.as_slice-spans.ensures.value c.as_slice-starts.ensures.value c.as_slice-numbers.ensures.value

pub returns-clause-made : goal.returns-clause-made
returns-clause-made c =
    let e = neighbours_of c.args.neighbours in
    let p = c.args.set.now in
    let found = c.in_ok-found.found in
    let are : AreRunSpans e (set_of p) found.spans.items found.starts.items found.numbers.items found.count =
    subst (λ (t : Raster ℕ). AreRunSpans e (set_of t) found.spans.items found.starts.items found.numbers.items found.count) c.words.ensures.value c.in_ok-found.ensures in
    let f = set_of p in
    let old = c.args.out.now in
    elim c.if-count-room.branch [
      | then-count-room w ↦
          let told = held_rows e (set_of p) found.spans.items c.as_slice-spans.result.now found.starts.items c.as_slice-starts.result.now found.numbers.items c.as_slice-numbers.result.now found.count c.height-height.result old w.gather_rows.new.out w.gather_rows.result c.requires.few are (omega (arith, w.if-count-room.true)) c.height-height.ensures.value c.as_slice-spans.ensures.value c.as_slice-starts.ensures.value c.as_slice-numbers.ensures.value w.gather_rows.ensures in
          subst (λ (t : List ℕ). AreRegionsTold e f found.count old t) (sym w.out-is) told
      | else-count-room w ↦
          subst (λ (t : List ℕ). AreRegionsTold e f found.count old t) (sym w.out-is)
          (told_unwritten e f found.count old (held_components e f found.spans.items found.starts.items found.numbers.items found.count are) (omega (arith, w.if-count-room.false)))
    ]
