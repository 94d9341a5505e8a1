use Rattle.std.proofs.Common.{◌≡◌, ◌+◌, ◌-◌, ◌*◌, ◌≤◌, ◌∙◌, ℕ, [], ap, arith, fold, get_or, length, subst, sym}
use Rattle.std.specs.List.{AllByRecursion}
use Rattle.std.proofs.lemmas.List.{nil_from_length}
use Rattle.mw_line.proofs.Folds.{IsExtremum}
use Rattle.mw_offset.specs.MergedAt.{merge_from}
use Rattle.mw_offset.proofs.Parts.{all_places, places_are_parts}
use Rattle.mw_offset.proofs.by_runs.combine_sized.Goals as goal

pub places_of_sizes-requires : goal.places_of_sizes-requires
places_of_sizes-requires g c =
    record { room = ((c.args.laid.height - 1) * c.args.laid.wide + c.args.laid.width + 63, length c.args.cells.now, omega arith, omega arith, c.requires.room) }

pub combine_rows_at-requires-clause-room : goal.combine_rows_at-requires-clause-room
combine_rows_at-requires-clause-room g c =
    let laid = c.args.laid in
    let count = (laid.height - 1) * laid.wide + laid.width + 63 in
    subst (AllByRecursion (λ (p : ℕ). p + count ≤ length c.args.cells.now)) (sym (c.as_slice.ensures.value ∙ c.in_ok-places.ensures))
    (all_places laid.extent laid.wide c.args.sizes.least c.args.sizes.next count (length c.args.cells.now) c.args.runs.now c.requires.some c.requires.room)

pub returns : goal.returns
returns g c = λ x y d less row_less.
    let f = g.E.Extremum.merge in
    let laws : IsExtremum f = record { commutes = g.met.E.Extremum.commutes; associates = g.met.E.Extremum.associates; is_idempotent = g.met.E.Extremum.is_idempotent } in
    let laid = c.args.laid in
    let q = y * laid.wide + x in
    let best = get_or c.args.out.now (y * laid.width + x) d in
    c.combine_rows_at.ensures x y d less row_less
    ∙ ap (fold (merge_from f c.args.cells.now d q) best) (c.as_slice.ensures.value ∙ c.in_ok-places.ensures)
    ∙ places_are_parts f laws c.args.cells.now d laid.extent laid.wide c.args.sizes.least c.args.sizes.next q best c.args.runs.now

pub returns-then-len-eq0 : goal.returns-then-len-eq0
returns-then-len-eq0 g c = λ x y d less row_less.
    let f = g.E.Extremum.merge in
    let laws : IsExtremum f = record { commutes = g.met.E.Extremum.commutes; associates = g.met.E.Extremum.associates; is_idempotent = g.met.E.Extremum.is_idempotent } in
    let laid = c.args.laid in
    let q = y * laid.wide + x in
    let best = get_or c.args.out.now (y * laid.width + x) d in
    let none : c.in_ok-places.places.items ≡ [] = nil_from_length c.in_ok-places.places.items (omega arith) in
    ap (fold (merge_from f c.args.cells.now d q) best) (sym none ∙ c.in_ok-places.ensures)
    ∙ places_are_parts f laws c.args.cells.now d laid.extent laid.wide c.args.sizes.least c.args.sizes.next q best c.args.runs.now
