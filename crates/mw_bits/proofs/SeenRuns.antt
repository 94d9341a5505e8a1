-- Runs of which some offset keeps a tile in the window.
use Rattle.std.proofs.Common.{◌≡◌, ℕ, zero, suc, ◌+◌, ◌<◌, pos, ◌+ℤ◌, List, [], ◌∷◌, ◌++◌, length, get_or, flat_map, sym, subst, arith, zero-add, length-append}
use Rattle.std.proofs.lemmas.List.{get_or_append_left, get_or-append-add}
use Rattle.std.proofs.lemmas.List.FromFn.{get_or-map-range_with_len, length-map-range_with_len}
use Rattle.mw_model.specs.declared.offsets.Offset.{Offset}
use Rattle.mw_model.specs.declared.offsets.Rect.{Rect}
use Rattle.mw_offset.specs.mw_element_runs.declared.runs.Run.{Run}
use Rattle.mw_offset.specs.mw_element_runs.Runs.{offset_at, run_offsets}
use Rattle.mw_bits.specs.Uniform.{TileStays, SomeStays}

abbrev none : Offset
none = record { dx = pos 0; dy = pos 0 }

-- an offset of the run
pub run_stays : (tile : Rect) (r : Run) (place : Rect) (i : ℕ) → i < r.count → TileStays tile (r.dx +ℤ pos i) r.dy place → SomeStays tile (run_offsets r) place
run_stays tile r place i lt stays =
    let at = λ (k : ℕ). let b : Offset = record { dx = r.dx +ℤ pos k; dy = r.dy } in b in
    let here : offset_at (run_offsets r) i ≡ at i = get_or-map-range_with_len at 0 r.count i i none lt (zero-add i) in
    (i, omega (arith, length-map-range_with_len at 0 r.count), subst (λ (o : Offset). TileStays tile o.dx o.dy place) (sym here) stays)

stays_before : (tile : Rect) (xs ys : List Offset) (place : Rect) → SomeStays tile xs place → SomeStays tile (xs ++ ys) place
stays_before tile xs ys place some =
    let here = get_or_append_left xs ys none some.0 some.1 in
    (some.0, omega (arith, some.1, length-append xs ys), subst (λ (o : Offset). TileStays tile o.dx o.dy place) (sym here) some.2)

stays_behind : (tile : Rect) (xs ys : List Offset) (place : Rect) → SomeStays tile ys place → SomeStays tile (xs ++ ys) place
stays_behind tile xs ys place some =
    let here = get_or-append-add xs ys some.0 none in
    (length xs + some.0, omega (arith, some.1, length-append xs ys), subst (λ (o : Offset). TileStays tile o.dx o.dy place) (sym here) some.2)

-- an offset of one of the runs
pub some_stays : (tile : Rect) (runs : List Run) (place : Rect) (i : ℕ) (d : Run) → i < length runs → SomeStays tile (run_offsets (get_or runs i d)) place → SomeStays tile (flat_map run_offsets runs) place
some_stays tile [] place i d lt some = absurd (omega (arith, lt))
some_stays tile (r ∷ rs) place zero d lt some = stays_before tile (run_offsets r) (flat_map run_offsets rs) place some
some_stays tile (r ∷ rs) place (suc i) d lt some = stays_behind tile (run_offsets r) (flat_map run_offsets rs) place (some_stays tile rs place i d (omega (arith, lt)) some)
