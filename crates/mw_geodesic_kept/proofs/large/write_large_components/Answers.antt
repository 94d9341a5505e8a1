use Rattle.std.proofs.Common.{◌≡◌, ◌∙◌, ℕ, List, length, drop, replicate, refl, ap, sym, arith}
use Rattle.std.proofs.lemmas.List.{take_at}
use Rattle.mw_pixel.specs.Images.{set_of}
use Rattle.mw_geodesic.specs.Neighbours.{neighbours_of}
use Rattle.mw_geodesic_runs.specs.declared.runs.Run.{Run}
use Rattle.mw_geodesic_labels.specs.Painting.{painted_runs, RunsFit}
use Rattle.mw_geodesic_labels.proofs.HeldSpans.{of_held}
use Rattle.mw_geodesic_kept.proofs.Results.{spans_found, counted_held}
use Rattle.mw_geodesic_kept.proofs.ShownLarge.{numbers_some, numbers_most, told_as, told_low, told_held, large_written}
use Rattle.mw_geodesic_kept.proofs.large.write_large_components.Goals as goal

pub areas_of-requires : goal.areas_of-requires
areas_of-requires c =
    let e = neighbours_of c.args.neighbours in
    let p = c.args.set in
    let found = c.in_ok-found.found in
    let rows = c.as_slice-rows.result.now in
    let begins = c.as_slice-begins.result.now in
    let nums = c.as_slice-numbers.result.now in
    let are = spans_found e p p found.spans.items rows found.starts.items begins found.numbers.items nums found.count c.in_ok-found.ensures refl c.as_slice-rows.ensures.value c.as_slice-begins.ensures.value c.as_slice-numbers.ensures.value in
    counted_held e (set_of p) rows begins nums found.count c.height-height.result c.requires.few are c.height-height.ensures.value

pub tell_large-requires-clause-some : goal.tell_large-requires-clause-some
tell_large-requires-clause-some c =
    let e = neighbours_of c.args.neighbours in
    let p = c.args.set in
    let found = c.in_ok-found.found in
    numbers_some e (set_of p) found.spans.items found.starts.items found.numbers.items c.as_mut_slice.result.now found.count c.in_ok-found.ensures c.as_mut_slice.ensures.value

pub tell_large-requires-clause-most : goal.tell_large-requires-clause-most
tell_large-requires-clause-most c =
    let e = neighbours_of c.args.neighbours in
    let p = c.args.set in
    let found = c.in_ok-found.found in
    numbers_most e (set_of p) found.spans.items found.starts.items found.numbers.items c.as_mut_slice.result.now found.count (length c.as_slice.result.now) c.in_ok-found.ensures c.as_mut_slice.ensures.value (omega (arith, c.as_slice.ensures.len, c.in_ok-areas.ensures.size))

pub show_spans-requires-clause-held : goal.show_spans-requires-clause-held
show_spans-requires-clause-held c =
    let e = neighbours_of c.args.neighbours in
    let p = c.args.set in
    let found = c.in_ok-found.found in
    let nums = c.as_slice-numbers.result.now in
    let are = spans_found e p p found.spans.items c.as_slice-spans.result.now found.starts.items c.as_slice-starts.result.now found.numbers.items nums found.count c.in_ok-found.ensures refl c.as_slice-spans.ensures.value c.as_slice-starts.ensures.value c.as_slice-numbers.ensures.value in
    let told = c.as_slice-told.result.now in
    let new = c.tell_large.new.numbers in
    let whole : length new ≡ found.numbers.len = omega (arith, c.tell_large.ensures.size, c.as_mut_slice.ensures.len) in
    let told_is : told ≡ new = c.as_slice-told.ensures.value ∙ take_at new (drop (length new) found.numbers.items) found.numbers.len whole in
    let as_many : length told ≡ length nums = ap (λ (t : List ℕ). length t) told_is ∙ c.tell_large.ensures.size ∙ ap (λ (t : List ℕ). length t) (c.as_mut_slice.ensures.value ∙ sym c.as_slice-numbers.ensures.value) in
    told_held e (set_of p) c.as_slice-spans.result.now c.as_slice-starts.result.now nums told found.count c.width-width.result c.height-height.result (length c.args.out.now) are c.width-width.ensures.value c.height-height.ensures.value c.requires.room as_many

pub show_spans-requires-clause-low : goal.show_spans-requires-clause-low
show_spans-requires-clause-low c = λ k lt.
    let e = neighbours_of c.args.neighbours in
    let p = c.args.set in
    let found = c.in_ok-found.found in
    let nums = c.as_slice-numbers.result.now in
    let told = c.as_slice-told.result.now in
    let new = c.tell_large.new.numbers in
    let whole : length new ≡ found.numbers.len = omega (arith, c.tell_large.ensures.size, c.as_mut_slice.ensures.len) in
    let told_is : told ≡ new = c.as_slice-told.ensures.value ∙ take_at new (drop (length new) found.numbers.items) found.numbers.len whole in
    let as_many : length told ≡ length nums = ap (λ (t : List ℕ). length t) told_is ∙ c.tell_large.ensures.size ∙ ap (λ (t : List ℕ). length t) (c.as_mut_slice.ensures.value ∙ sym c.as_slice-numbers.ensures.value) in
    let areas = c.in_ok-areas.areas.items in
    let each = told_as c.args.least areas c.as_slice.result.now nums c.as_mut_slice.result.now told new c.as_slice.ensures.value (c.as_mut_slice.ensures.value ∙ sym c.as_slice-numbers.ensures.value) told_is c.tell_large.ensures.each in
    told_low c.args.least areas nums told k (omega arith) each

pub returns-clause-made : goal.returns-clause-made
returns-clause-made c =
    let e = neighbours_of c.args.neighbours in
    let p = c.args.set in
    let found = c.in_ok-found.found in
    let rows = c.as_slice-rows.result.now in
    let begins = c.as_slice-begins.result.now in
    let nums = c.as_slice-numbers.result.now in
    let are = spans_found e p p found.spans.items rows found.starts.items begins found.numbers.items nums found.count c.in_ok-found.ensures refl c.as_slice-rows.ensures.value c.as_slice-begins.ensures.value c.as_slice-numbers.ensures.value in
    let told = c.as_slice-told.result.now in
    let new = c.tell_large.new.numbers in
    let whole : length new ≡ found.numbers.len = omega (arith, c.tell_large.ensures.size, c.as_mut_slice.ensures.len) in
    let told_is : told ≡ new = c.as_slice-told.ensures.value ∙ take_at new (drop (length new) found.numbers.items) found.numbers.len whole in
    let as_many : length told ≡ length nums = ap (λ (t : List ℕ). length t) told_is ∙ c.tell_large.ensures.size ∙ ap (λ (t : List ℕ). length t) (c.as_mut_slice.ensures.value ∙ sym c.as_slice-numbers.ensures.value) in
    let areas = c.in_ok-areas.areas.items in
    let each = told_as c.args.least areas c.as_slice.result.now nums c.as_mut_slice.result.now told new c.as_slice.ensures.value (c.as_mut_slice.ensures.value ∙ sym c.as_slice-numbers.ensures.value) told_is c.tell_large.ensures.each in
    let spans = c.as_slice-spans.result.now in
    let starts = c.as_slice-starts.result.now in
    let w = c.width-width.result in
    let h = c.height-height.result in
    let size = length c.args.out.now in
    let out = c.show_spans.new.out in
    let made = of_held (RunsFit w size) (λ (t : List Run). out ≡ painted_runs w t told (length t) (replicate size 0)) h h rows spans begins starts told told refl (c.as_slice-spans.ensures.value ∙ sym c.as_slice-rows.ensures.value) (c.as_slice-starts.ensures.value ∙ sym c.as_slice-begins.ensures.value) refl c.show_spans.ensures in
    large_written e (set_of p) rows begins nums told areas out found.count c.args.least w h size are c.requires.few c.width-width.ensures.value c.height-height.ensures.value c.requires.room as_many each c.in_ok-areas.ensures.areas made
