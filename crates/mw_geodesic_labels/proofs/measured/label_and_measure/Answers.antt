use Rattle.std.proofs.Common.{ℕ, ◌/◌, List, length, subst, sym, arith}
use Rattle.mw_model.specs.Rasters.{Raster}
use Rattle.mw_pixel.specs.Images.{set_of}
use Rattle.mw_geodesic.specs.Neighbours.{neighbours_of}
use Rattle.mw_geodesic_runs.specs.Components.{AreRunSpans}
use Rattle.mw_geodesic_labels.specs.Regions.{AreRegionsWithLabels}
use Rattle.mw_geodesic_labels.proofs.HeldSpans.{held_components, held_counted, held_fit, held_labels, held_rows}
use Rattle.mw_geodesic_labels.proofs.Results.{with_labels, without_labels}
use Rattle.mw_geodesic_labels.proofs.measured.label_and_measure.Goals as goal
use Rattle.mw_geodesic_labels.proofs.measured.label_and_measure.Goals.{then-count-room, else-count-room}

pub gather_rows-requires : goal.gather_rows-requires
gather_rows-requires c =
    let e = neighbours_of c.args.neighbours in
    let p = c.args.set.now in
    let found = c.in_ok-found.found in
    let are : AreRunSpans e (set_of p) found.spans.items found.starts.items found.numbers.items found.count =
    subst (λ (t : Raster ℕ). AreRunSpans e (set_of t) found.spans.items found.starts.items found.numbers.items found.count) c.words.ensures.value c.in_ok-found.ensures in
    held_counted e (set_of p) found.spans.items c.as_slice-spans.result.now found.starts.items c.as_slice-starts.result.now found.numbers.items c.as_slice-numbers.result.now found.count (length c.args.rows.now / 7) c.height-height.result c.requires.few are (omega (arith, c.if-count-room.true)) c.height-height.ensures.value c.as_slice-spans.ensures.value c.as_slice-starts.ensures.value c.as_slice-numbers.ensures.value

pub write_spans-requires : goal.write_spans-requires
write_spans-requires c =
    let e = neighbours_of c.args.neighbours in
    let p = c.args.set.now in
    let found = c.in_ok-found.found in
    let are : AreRunSpans e (set_of p) found.spans.items found.starts.items found.numbers.items found.count =
    subst (λ (t : Raster ℕ). AreRunSpans e (set_of t) found.spans.items found.starts.items found.numbers.items found.count) c.words.ensures.value c.in_ok-found.ensures in
    held_fit e (set_of p) found.spans.items c.as_slice-spans.result.now found.starts.items c.as_slice-starts.result.now found.numbers.items c.as_slice-numbers.result.now found.count c.width-width.result c.height-height.result (length c.args.out.now) are c.width-width.ensures.value c.height-height.ensures.value c.as_slice-spans.ensures.value c.as_slice-starts.ensures.value c.as_slice-numbers.ensures.value c.requires.room

pub returns-clause-made : goal.returns-clause-made
returns-clause-made c =
    let e = neighbours_of c.args.neighbours in
    let p = c.args.set.now in
    let found = c.in_ok-found.found in
    let are : AreRunSpans e (set_of p) found.spans.items found.starts.items found.numbers.items found.count =
    subst (λ (t : Raster ℕ). AreRunSpans e (set_of t) found.spans.items found.starts.items found.numbers.items found.count) c.words.ensures.value c.in_ok-found.ensures in
    let f = set_of p in
    let old_rows = c.args.rows.now in
    let old = c.args.out.now in
    elim c.if-count-room.branch [
      | then-count-room w ↦
          let rows = w.gather_rows.new.out in
          let new = w.write_spans.new.labels in
          let told = held_rows e (set_of p) found.spans.items c.as_slice-spans.result.now found.starts.items c.as_slice-starts.result.now found.numbers.items c.as_slice-numbers.result.now found.count c.height-height.result old_rows rows w.gather_rows.result c.requires.few are (omega (arith, w.if-count-room.true)) c.height-height.ensures.value c.as_slice-spans.ensures.value c.as_slice-starts.ensures.value c.as_slice-numbers.ensures.value w.gather_rows.ensures in
          let labelling = held_labels e (set_of p) found.spans.items c.as_slice-spans.result.now found.starts.items c.as_slice-starts.result.now found.numbers.items c.as_slice-numbers.result.now new found.count c.width-width.result c.height-height.result (length old) are c.width-width.ensures.value c.height-height.ensures.value c.as_slice-spans.ensures.value c.as_slice-starts.ensures.value c.as_slice-numbers.ensures.value c.requires.room w.write_spans.ensures in
          subst (λ (t : List ℕ). AreRegionsWithLabels e f found.count old_rows t old c.if-count-room.out) (sym w.rows-is)
          (subst (λ (t : List ℕ). AreRegionsWithLabels e f found.count old_rows rows old t) (sym w.out-is) (with_labels e f found.count old_rows rows old new told labelling (omega (arith, w.if-count-room.true))))
      | else-count-room w ↦
          subst (λ (t : List ℕ). AreRegionsWithLabels e f found.count old_rows t old c.if-count-room.out) (sym w.rows-is)
          (subst (λ (t : List ℕ). AreRegionsWithLabels e f found.count old_rows old_rows old t) (sym w.out-is)
          (without_labels e f found.count old_rows old (held_components e f found.spans.items found.starts.items found.numbers.items found.count are) (omega (arith, w.if-count-room.false))))
    ]
