-- The components that a marker meets are what is reconstructed.
use Rattle.std.proofs.Common.{◌≡◌, ℕ, ◌<◌, ◌≤◌, Bool, true, List, length, get_or, refl, ap, sym, arith, ◌∙◌, inl, inr}
use Rattle.std.proofs.lemmas.Bool.{cases_lt}
use Rattle.mw_model.specs.declared.offsets.Offset.{Offset}
use Rattle.mw_model.specs.Pictures.{Picture, sample, IsSet}
use Rattle.mw_model.specs.Laws.{SameShape}
use Rattle.mw_model.proofs.ImagePlaces.{shape_trans}
use Rattle.mw_geodesic.specs.Neighbours.{IsPlace}
use Rattle.mw_geodesic.specs.Geodesics.{reconstruction}
use Rattle.mw_geodesic.specs.Paths.{Joined, ends, goes, AreConnected}
use Rattle.mw_geodesic.proofs.Components.{by_paths, joined_place, joined_up, point_is}
use Rattle.mw_geodesic.proofs.Reconstructed.{rebuilt_shape, rebuilt_size, rebuilt_within}
use Rattle.mw_geodesic_runs.specs.declared.runs.Run.{Run}
use Rattle.mw_geodesic_runs.specs.Runs.{run_numbered, HasPlace}
use Rattle.mw_geodesic_runs.specs.Components.{AreComponents}
use Rattle.mw_geodesic_runs.proofs.Found.{held}
use Rattle.mw_geodesic_kept.specs.Keeping.{mark_of, HasPixelOf, AreMarked, IsKeptPart}
use Rattle.mw_geodesic_kept.proofs.Kept.{one_of, run_place, run_sample}

-- a path within the set to a pixel of the marker
joined_by : (e : List Offset) (f marker : Picture) (u v x y : ℕ) → SameShape marker f → 1 ≤ sample marker u v → AreConnected e f x y u v → Joined e f marker 1 x y
joined_by e f marker u v x y shape some (ends x' y' place high top) =
    let same = point_is f u v x' y' place.column place.row top in
    let here : 1 ≤ sample marker x' y' = rw (same.0, same.1) some in
    ends x' y' (record { column = omega (arith, place.column, shape.width); row = omega (arith, place.row, shape.height) }) high here
joined_by e f marker u v x y shape some (goes x' y' a b place high covers rest) =
    goes x' y' a b (record { column = omega (arith, place.column, shape.width); row = omega (arith, place.row, shape.height) }) high covers (joined_by e f marker u v a b shape some rest)

joined_high : (e : List Offset) (f marker : Picture) (x y : ℕ) → Joined e f marker 1 x y → 1 ≤ sample f x y
joined_high e f marker x y (ends x' y' place high top) = high
joined_high e f marker x y (goes x' y' u v place high covers rest) = high

-- where a path from a run leads to: a run with its number, with a pixel of the marker
record Reached (marker : Picture) (runs : List Run) (numbers : List ℕ) (i : ℕ) : Type 0 where
  at : ℕ
  within : at < length runs
  u : ℕ
  v : ℕ
  place : IsPlace marker u v
  holds : HasPlace (run_numbered runs at) u v
  met : 1 ≤ sample marker u v
  same : get_or numbers i 0 ≡ get_or numbers at 0

reached : (e : List Offset) (f marker : Picture) (runs : List Run) (numbers : List ℕ) (count i x y : ℕ) → AreComponents e f runs numbers count → SameShape marker f → i < length runs → HasPlace (run_numbered runs i) x y → Joined e f marker 1 x y
    → Reached marker runs numbers i
reached e f marker runs numbers count i x y are shape lt h (ends x' y' place high top) = record { at = i; within = lt; u = x'; v = y'; place = place; holds = h; met = top; same = refl }
reached e f marker runs numbers count i x y are shape lt h (goes x' y' u v place high covers rest) =
    let far = joined_place e f marker 1 u v rest in
    let there : IsPlace f u v = record { column = omega (arith, far.column, shape.width); row = omega (arith, far.row, shape.height) } in
    let some = joined_high e f marker u v rest in
    let run = held e f runs numbers count u v are there (one_of f u v are.set there (λ none. absurd (omega arith))) in
    let next = reached e f marker runs numbers count run.at u v are shape run.within run.holds rest in
    record {
      at = next.at;
      within = next.within;
      u = next.u;
      v = next.v;
      place = next.place;
      holds = next.holds;
      met = next.met;
      same = are.near i run.at x' y' u v lt run.within h run.holds covers ∙ next.same;
    }

-- a run whose number is marked is reconstructed
met_kept : (e : List Offset) (f marker : Picture) (runs : List Run) (numbers : List ℕ) (marks : List Bool) (count i x y : ℕ) → AreComponents e f runs numbers count → SameShape marker f → AreMarked (HasPixelOf marker) runs numbers (length runs) marks
    → i < length runs → mark_of marks (get_or numbers i 0) ≡ true → HasPlace (run_numbered runs i) x y → 1 ≤ sample (reconstruction e f marker) x y
met_kept e f marker runs numbers marks count i x y are shape marked lt mark h =
    let met = marked.back (get_or numbers i 0) mark in
    let pixel = met.asked in
    let row = (run_numbered runs met.at).row in
    let one = pixel.is in
    let way = are.joined i met.at x y pixel.at row lt met.before h (record { row = refl; from = pixel.from; to = pixel.to }) (sym met.number) in
    joined_up e f marker 1 x y (joined_by e f marker pixel.at row x y shape (omega arith) way)

-- a run whose number is not marked is not
unmet_dropped : (e : List Offset) (f marker : Picture) (runs : List Run) (numbers : List ℕ) (marks : List Bool) (count i x y : ℕ) → AreComponents e f runs numbers count → IsSet marker → SameShape marker f
    → AreMarked (HasPixelOf marker) runs numbers (length runs) marks → i < length runs → (mark_of marks (get_or numbers i 0) ≡ true → ⊥) → HasPlace (run_numbered runs i) x y → sample (reconstruction e f marker) x y ≡ 0
unmet_dropped e f marker runs numbers marks count i x y are is_set shape marked lt none h =
    let place = run_place f runs i x y are.cut lt h in
    let wide = shape.width in
    let tall = shape.height in
    elim (cases_lt (sample (reconstruction e f marker) x y) 1) [
      | inl low ↦ omega arith
      | inr some ↦
          let way = (by_paths e f marker 1 x y (omega (arith, place.column)) (omega (arith, place.row)) (omega arith)).0 some in
          let far = reached e f marker runs numbers count i x y are shape lt h way in
          let high = far.met in
          let one : sample marker far.u far.v ≡ 1 = one_of marker far.u far.v is_set far.place (λ zero_there. absurd (omega arith)) in
          let pixel : HasPixelOf marker (run_numbered runs far.at) = record { at = far.u; from = far.holds.from; to = far.holds.to; is = ap (λ (t : ℕ). sample marker far.u t) (sym far.holds.row) ∙ one } in
          absurd (none (ap (mark_of marks) far.same ∙ marked.on far.at far.within pixel))
    ]

pub met_part : (e : List Offset) (f marker : Picture) (runs : List Run) (numbers : List ℕ) (marks : List Bool) (count : ℕ) → AreComponents e f runs numbers count → IsSet marker → SameShape marker f → AreMarked (HasPixelOf marker) runs numbers (length runs) marks
    → IsKeptPart f runs numbers marks true (reconstruction e f marker)
met_part e f marker runs numbers marks count are is_set shape marked =
    let r_shape = rebuilt_shape e f marker in
    let low : (x y : ℕ) → IsPlace f x y → sample (reconstruction e f marker) x y ≤ sample f x y =
    λ x y place. rebuilt_within e f marker x y (omega (arith, r_shape.width, shape.width, place.column)) (omega (arith, r_shape.height, shape.height, place.row)) in
    record {
      shape = shape_trans r_shape shape;
      size = rebuilt_size e f marker;
      kept = λ i x y lt mark h.
          let high = met_kept e f marker runs numbers marks count i x y are shape marked lt mark h in
          let within = low x y (run_place f runs i x y are.cut lt h) in
          let one = run_sample f runs i x y are.cut lt h in
          omega arith;
      dropped = λ i x y lt none h. unmet_dropped e f marker runs numbers marks count i x y are is_set shape marked lt none h;
      unset = λ x y place none. let within = low x y place in omega arith;
    }
