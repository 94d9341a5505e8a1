-- Areas of components, run by run.
use Rattle.std.proofs.Common.{◌≡◌, ℕ, ◌+◌, ◌-◌, ◌*◌, ◌<◌, ◌≤◌, ◌^◌, List, length, get_or, set, replicate, refl, ap, sym, arith, ◌∙◌, inl, inr}
use Rattle.std.proofs.lemmas.Bool.{cases_eq}
use Rattle.std.proofs.lemmas.List.{get_or-set_same, get_or-set_other, get_or-replicate}
use Rattle.mw_model.specs.declared.offsets.Offset.{Offset}
use Rattle.mw_model.specs.Pictures.{Picture, sample}
use Rattle.mw_geodesic.specs.Neighbours.{IsPlace}
use Rattle.mw_geodesic.specs.Components.{component, area}
use Rattle.mw_geodesic_runs.specs.declared.runs.Run.{Run}
use Rattle.mw_geodesic_runs.specs.Runs.{run_numbered, HasPlace}
use Rattle.mw_geodesic_runs.specs.Components.{AreComponents}
use Rattle.mw_geodesic_runs.proofs.Joinings.{frame_run}
use Rattle.mw_geodesic_labels.specs.Painting.{painted_runs}
use Rattle.mw_geodesic_labels.specs.Regions.{HasLabel}
use Rattle.mw_geodesic_labels.specs.Gathering.{area_of, AreAreasOf, AreWide}
use Rattle.mw_geodesic_labels.proofs.FirstPlaces.{area_is}
use Rattle.mw_geodesic_labels.proofs.Gathered.{area_here, area_other}
use Rattle.mw_geodesic_labels.proofs.Labellings.{labelling}
use Rattle.mw_geodesic_labels.proofs.Paintings.{blank, blank_zero, length-blank, shows_numbers}
use Rattle.mw_geodesic_labels.proofs.Told.{counted_runs}

pub areas_none : (runs : List Run) (numbers areas : List ℕ) (count : ℕ) → areas ≡ replicate count 0 → AreAreasOf runs numbers 0 count areas
areas_none runs numbers areas count is k lt = ap (λ (t : List ℕ). get_or t k 0) is ∙ get_or-replicate count k 0 0 lt

-- there is room for the area with one run more
pub area_fits : (runs : List Run) (numbers areas : List ℕ) (count i n : ℕ) → i < length runs → 1 ≤ n → n ≤ count → AreWide runs numbers count → AreAreasOf runs numbers i count areas
    → get_or areas (n - 1) 0 + ((run_numbered runs i).end - (run_numbered runs i).first) < 2 ^ 32
area_fits runs numbers areas count i n lt some most wide was =
    let is = was (n - 1) (omega arith) in
    let back : n - 1 + 1 ≡ n = omega arith in
    let same = ap (λ (t : ℕ). area_of runs numbers t i) back in
    let fits = wide.fits n i lt in
    omega arith

pub areas_more : (runs : List Run) (numbers areas areas' : List ℕ) (count i m n : ℕ) → m ≡ i + 1 → n ≡ get_or numbers i 0 → 1 ≤ n → n ≤ count → count ≡ length areas
    → areas' ≡ set areas (n - 1) (get_or areas (n - 1) 0 + ((run_numbered runs i).end - (run_numbered runs i).first)) → AreAreasOf runs numbers i count areas → AreAreasOf runs numbers m count areas'
areas_more runs numbers areas areas' count i m n next number some most size is was k lt =
    let d = (run_numbered runs i).end - (run_numbered runs i).first in
    let v = get_or areas (n - 1) 0 + d in
    let all = ap (area_of runs numbers (k + 1)) next in
    let set_is = ap (λ (t : List ℕ). get_or t k 0) is in
    elim (cases_eq k (n - 1)) [
      | inl same ↦
          let own : get_or numbers i 0 ≡ k + 1 = sym number ∙ omega arith in
          let more = area_here runs numbers (k + 1) i own in
          let here : get_or (set areas (n - 1) v) k 0 ≡ v = ap (λ (t : ℕ). get_or (set areas (n - 1) v) t 0) same ∙ get_or-set_same areas (n - 1) v 0 (omega arith) in
          let old = ap (λ (t : ℕ). get_or areas t 0) same in
          let before = was k lt in
          omega arith
      | inr apart ↦
          let less = area_other runs numbers (k + 1) i (λ e. apart (omega arith)) in
          let there = get_or-set_other areas (n - 1) k v 0 apart in
          let before = was k lt in
          omega arith
    ]

-- the same by the run as it was read
pub area_on : (runs : List Run) (numbers areas areas' : List ℕ) (count i m n : ℕ) (r : Run) → run_numbered runs i ≡ r → m ≡ i + 1 → n ≡ get_or numbers i 0 → 1 ≤ n → n ≤ count → count ≡ length areas
    → areas' ≡ set areas (n - 1) (get_or areas (n - 1) 0 + (r.end - r.first)) → AreAreasOf runs numbers i count areas → AreAreasOf runs numbers m count areas'
area_on runs numbers areas areas' count i m n r read next number some most size is was =
    areas_more runs numbers areas areas' count i m n next number some most size (is ∙ ap (λ (t : Run). set areas (n - 1) (get_or areas (n - 1) 0 + (t.end - t.first))) (sym read)) was

-- the area of the component of a place is that of the number of its run
pub component_area : (e : List Offset) (f : Picture) (runs : List Run) (numbers : List ℕ) (count i x y : ℕ) → AreComponents e f runs numbers count → i < length runs → HasPlace (run_numbered runs i) x y
    → area (component e f x y) ≡ area_of runs numbers (get_or numbers i 0) (length runs)
component_area e f runs numbers count i x y are lt h =
    let n = get_or numbers i 0 in
    let xs = blank (f.height * f.width) in
    let none : (k : ℕ) → get_or xs k 0 ≡ 0 = blank_zero (f.height * f.width) in
    let size : length xs ≡ f.height * f.width = length-blank (f.height * f.width) in
    let labels = painted_runs f.width runs numbers (length runs) xs in
    let shows = shows_numbers f runs numbers xs labels are.cut size none refl in
    let frame = frame_run f runs i are.cut lt in
    let within = frame.run.within in
    let high = frame.row in
    let row = h.row in
    let to = h.to in
    let place : IsPlace f x y = record { column = omega arith; row = omega arith } in
    let one : sample f x y ≡ 1 = ap (λ (t : ℕ). sample f x t) h.row ∙ frame.run.inside x h.from h.to in
    let label : HasLabel f labels n x y = record { place = place; label = shows.shown i x y lt h } in
    area_is e f count labels n x y are.set (labelling e f runs numbers labels count are shows) label one (are.some i lt)
    ∙ counted_runs f runs numbers n (length runs) xs are.cut (omega arith) size none (are.some i lt)
