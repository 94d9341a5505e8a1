use Rattle.std.proofs.Common.{◌≡◌, ℕ, List, pos, ◌+ℤ◌, ◌-ℤ◌, ◌+◌, ◌-◌, ◌<◌, ◌∙◌, refl, ap, arith, take, drop, length, subst, of_z, to_z, w16, w64}
use Rattle.std.proofs.lemmas.Int.{ints}
use Rattle.std.proofs.lemmas.List.{take_rest}
use Rattle.mw_model.specs.Windows.{seen_at}
use Rattle.mw_model.specs.PlanSteps.{ranked}
use Rattle.mw_model.specs.declared.offsets.Offset.{Offset}
use Rattle.mw_model.specs.declared.offsets.Rect.{Rect}
use Rattle.mw_rank_counts.specs.mw_rank.Ranks.{levels_under}
use Rattle.mw_rank_rows.specs.Rectangles.{offsets_of_rows}
use Rattle.mw_rank_rows.specs.Tables.{HasFound}
use Rattle.mw_rank_rows.proofs.Found.{found_ranked}
use Rattle.mw_rank_rows.proofs.Rectangular.{column_below, seen_below, slides}
use Rattle.mw_rank_rows.proofs.Views.{marks_small, group_shows, rows_fit, strip_shows}
use Rattle.mw_rank_rows.proofs.group.rank_together.Goals as goal

pub slice_bounds-sheet-end : goal.slice_bounds-sheet-end
slice_bounds-sheet-end g c =
    let w = c.args.window.now in
    let place = c.place-place in
    let s = c.shown_rows-shown.result in
    let height : place.result.height ≡ w.place.height = ap (λ (p : Rect). p.height) place.ensures.value in
    omega (arith, ap length c.samples.ensures.value, rows_fit s.first s.rows w.place.height place.result.width w.place.width (length w.cells) (omega (arith, height, c.shown_rows-shown.ensures.inside)) (ap (λ (p : Rect). p.width) place.ensures.value) c.samples.ensures.size)

pub sum_of_marks-all-requires-clause-ones : goal.sum_of_marks-all-requires-clause-ones
sum_of_marks-all-requires-clause-ones g c = marks_small c.args.group.rectangle.rows c.shown_rows-shown.result.skip c.args.group.marks.now _ c.requires.marks (take_rest c.args.group.marks.now c.shown_rows-shown.result.skip)

pub rank_rows-requires-clause-known : goal.rank_rows-requires-clause-known
rank_rows-requires-clause-known g c =
    let known = c.requires.known in
    let group = c.args.group in
    let t = group.rectangle in
    let w = c.args.window.now in
    let s = c.shown_rows-shown.result in
    let marks = c.args.group.marks.now in
    let place = c.place-place in
    let few : length (offsets_of_rows t t.rows) < 65536 = omega (arith, ap length c.requires.rectangle.is, c.requires.few) in
    let dx : to_z w16 (of_z w16 t.dx) ≡ t.dx = omega (arith, ints) in
    let top : to_z w64 (of_z w64 c.place_of-top.result) ≡ pos group.place.y +ℤ t.dy -ℤ pos w.place.y = omega (arith, ints, c.place_of-top.ensures.value, c.from-y.ensures, ap (λ (p : Rect). p.y) place.ensures.value) in
    let shows = group_shows g.P.Pixel.level g.P.Pixel.TOP w place.result t s (to_z w64 (of_z w64 c.place_of-top.result)) (to_z w16 (of_z w16 t.dx)) group.place.y (t.rows + 7) known.0 c.samples.result.now _ marks (take (length marks - s.skip) (drop s.skip marks)) c.sum_of_marks-all.result place.ensures.value
    c.samples.ensures.size c.samples.ensures.value top dx refl c.shown_rows-shown.ensures refl c.requires.marks (take_rest marks s.skip) c.sum_of_marks-all.ensures.size c.sum_of_marks-all.ensures.lanes known.1 in
    (known.0, column_below g.P.Pixel.level (seen_at w) t group.place.y, seen_below g.P.Pixel.level (seen_at w) t group.place.y, strip_shows g.P.Pixel.level g.P.Pixel.TOP known.0 (column_below g.P.Pixel.level (seen_at w) t group.place.y) _ c.sum_of_marks-all.result shows, slides g.P.Pixel.level (seen_at w) t group.place.y few, known.2, known.3)

pub returns-clause-empty : goal.returns-clause-empty
returns-clause-empty g c = λ levels under empty.
    let group = c.args.group in
    let t = group.rectangle in
    let w = c.args.window.now in
    let s = c.shown_rows-shown.result in
    let marks = c.args.group.marks.now in
    let place = c.place-place in
    let few : length (offsets_of_rows t t.rows) < 65536 = omega (arith, ap length c.requires.rectangle.is, c.requires.few) in
    let dx : to_z w16 (of_z w16 t.dx) ≡ t.dx = omega (arith, ints) in
    let top : to_z w64 (of_z w64 c.place_of-top.result) ≡ pos group.place.y +ℤ t.dy -ℤ pos w.place.y = omega (arith, ints, c.place_of-top.ensures.value, c.from-y.ensures, ap (λ (p : Rect). p.y) place.ensures.value) in
    let shows = group_shows g.P.Pixel.level g.P.Pixel.TOP w place.result t s (to_z w64 (of_z w64 c.place_of-top.result)) (to_z w16 (of_z w16 t.dx)) group.place.y (t.rows + 7) levels c.samples.result.now _ marks (take (length marks - s.skip) (drop s.skip marks)) c.sum_of_marks-all.result place.ensures.value
    c.samples.ensures.size c.samples.ensures.value top dx refl c.shown_rows-shown.ensures refl c.requires.marks (take_rest marks s.skip) c.sum_of_marks-all.ensures.size c.sum_of_marks-all.ensures.lanes under in
    c.rank_rows.ensures.empty levels (column_below g.P.Pixel.level (seen_at w) t group.place.y) (seen_below g.P.Pixel.level (seen_at w) t group.place.y)
    (strip_shows g.P.Pixel.level g.P.Pixel.TOP levels (column_below g.P.Pixel.level (seen_at w) t group.place.y) _ c.sum_of_marks-all.result shows) (slides g.P.Pixel.level (seen_at w) t group.place.y few) empty

pub returns-clause-found : goal.returns-clause-found
returns-clause-found g c = λ whole r q e down lt.
    let known = c.requires.known in
    let group = c.args.group in
    let t = group.rectangle in
    let w = c.args.window.now in
    let s = c.shown_rows-shown.result in
    let marks = c.args.group.marks.now in
    let place = c.place-place in
    let few : length (offsets_of_rows t t.rows) < 65536 = omega (arith, ap length c.requires.rectangle.is, c.requires.few) in
    let dx : to_z w16 (of_z w16 t.dx) ≡ t.dx = omega (arith, ints) in
    let top : to_z w64 (of_z w64 c.place_of-top.result) ≡ pos group.place.y +ℤ t.dy -ℤ pos w.place.y = omega (arith, ints, c.place_of-top.ensures.value, c.from-y.ensures, ap (λ (p : Rect). p.y) place.ensures.value) in
    let shows = group_shows g.P.Pixel.level g.P.Pixel.TOP w place.result t s (to_z w64 (of_z w64 c.place_of-top.result)) (to_z w16 (of_z w16 t.dx)) group.place.y (t.rows + 7) known.0 c.samples.result.now _ marks (take (length marks - s.skip) (drop s.skip marks)) c.sum_of_marks-all.result place.ensures.value
    c.samples.ensures.size c.samples.ensures.value top dx refl c.shown_rows-shown.ensures refl c.requires.marks (take_rest marks s.skip) c.sum_of_marks-all.ensures.size c.sum_of_marks-all.ensures.lanes known.1 in
    let seen = seen_below g.P.Pixel.level (seen_at w) t group.place.y in
    let found : HasFound g.P.Pixel.level known.0 seen t.columns c.clamp.result group.place.x group.place.width group.place.width c.rank_rows.new.made =
    subst (λ (x : ℕ). HasFound g.P.Pixel.level known.0 seen t.columns c.clamp.result x group.place.width group.place.width c.rank_rows.new.made) c.from-x.ensures
    (c.rank_rows.ensures.found whole known.0 (column_below g.P.Pixel.level (seen_at w) t group.place.y) seen
    (strip_shows g.P.Pixel.level g.P.Pixel.TOP known.0 (column_below g.P.Pixel.level (seen_at w) t group.place.y) _ c.sum_of_marks-all.result shows) (slides g.P.Pixel.level (seen_at w) t group.place.y few) known.2) in
    found_ranked g.P.Pixel.level g.P.Pixel.TOP w t known.0 group.k c.clamp.result group.place.x group.place.y group.place.width c.rank_rows.new.made known.1 few c.clamp.ensures found r q e down lt
    ∙ ap (λ (l : List Offset). ranked group.k (levels_under g.P.Pixel.level (seen_at w) l (group.place.x + q) (group.place.y + r))) c.requires.rectangle.is
