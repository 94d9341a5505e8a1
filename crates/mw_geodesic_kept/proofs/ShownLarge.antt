-- Large components that are written to an array.
use Rattle.std.proofs.Common.{◌≡◌, ℕ, ◌+◌, ◌-◌, ◌*◌, ◌^◌, ◌<◌, ◌≤◌, Bool, true, false, List, length, get_or, set, replicate, refl, ap, sym, arith, ◌∙◌, inl, inr}
use Rattle.std.specs.Prelude.{nat_le, if◌then◌else◌, ◌&&◌, ◌==◌}
use Rattle.std.proofs.lemmas.Bool.{cases_lt, cases_eq, le-leb, lt-leb}
use Rattle.std.proofs.lemmas.List.{get_or-set_same, get_or-set_other, length-set}
use Rattle.mw_model.specs.declared.offsets.Offset.{Offset}
use Rattle.mw_model.specs.Pictures.{Picture, picture, sample}
use Rattle.mw_model.proofs.ImagePlaces.{length-rows, same_picture}
use Rattle.mw_geodesic.specs.Neighbours.{IsPlace}
use Rattle.mw_geodesic.specs.Components.{component, area, large_components}
use Rattle.mw_geodesic.proofs.LargeComponents.{yes, no, sample-large}
use Rattle.mw_geodesic.proofs.LargeComponents as large
use Rattle.mw_geodesic_runs.specs.declared.runs.Run.{Run}
use Rattle.mw_geodesic_runs.specs.Runs.{run_numbered, HasPlace}
use Rattle.mw_geodesic_runs.specs.Components.{AreComponents, AreRunSpans}
use Rattle.mw_geodesic_runs.specs.declared.spans.Span.{Span}
use Rattle.mw_geodesic_labels.specs.Gathering.{area_of, AreAreasOf, AreCounted}
use Rattle.mw_geodesic_labels.specs.Painting.{painted_runs, RunsFit, HeldRuns}
use Rattle.mw_geodesic_labels.proofs.HeldSpans.{held_known, of_known, held_with, frame_fit}
use Rattle.mw_geodesic_labels.proofs.Labellings.{ShowsNumbers}
use Rattle.mw_geodesic_labels.proofs.Paintings.{blank, blank_zero, length-blank, shows_numbers}
use Rattle.mw_geodesic_labels.proofs.RunAreas.{component_area}
use Rattle.mw_geodesic_kept.proofs.Kept.{one_of}
use Rattle.mw_geodesic_kept.proofs.Results.{of_counted}

-- of each number whether its component is large
abbrev pub ToldLarge : ℕ → List ℕ → List ℕ → List ℕ → Type 0
ToldLarge least areas numbers told = (i : ℕ) → i < length numbers → get_or told i 0 ≡ (if nat_le least (get_or areas (get_or numbers i 0 - 1) 0) then 1 else 0)

-- the first i numbers are written over by what is told of them
pub record TellsUpTo (least : ℕ) (areas old : List ℕ) (i : ℕ) (now : List ℕ) : Type 0 where
  pub size : length now ≡ length old
  pub done : (k : ℕ) → k < i → get_or now k 0 ≡ (if nat_le least (get_or areas (get_or old k 0 - 1) 0) then 1 else 0)
  pub rest : (k : ℕ) → i ≤ k → get_or now k 0 ≡ get_or old k 0

pub tells_none : (least : ℕ) (areas old : List ℕ) → TellsUpTo least areas old 0 old
tells_none least areas old = record { size = refl; done = λ k lt. absurd (omega arith); rest = λ k from. refl }

pub tells_next : (least : ℕ) (areas old now : List ℕ) (i m n v : ℕ) → m ≡ i + 1 → i < length now → n ≡ get_or now i 0 - 1 → v ≡ (if nat_le least (get_or areas n 0) then 1 else 0) → TellsUpTo least areas old i now → TellsUpTo least areas old m (set now i v)
tells_next least areas old now i m n v next lt number is was = record {
  size = length-set now i v ∙ was.size;
  done = λ k less. elim (cases_eq k i) [
    | inl same ↦
        ap (λ (t : ℕ). get_or (set now i v) t 0) same
        ∙ get_or-set_same now i v 0 lt
        ∙ is
        ∙ ap (λ (t : ℕ). if nat_le least (get_or areas t 0) then 1 else 0) (number ∙ ap (λ (t : ℕ). t - 1) (was.rest i (omega arith)) ∙ ap (λ (t : ℕ). get_or old t 0 - 1) (sym same))
    | inr ne ↦ get_or-set_other now i k v 0 ne ∙ was.done k (omega arith)
  ];
  rest = λ k from. get_or-set_other now i k v 0 (λ e. absurd (omega arith)) ∙ was.rest k (omega arith);
}

pub told_low : (least : ℕ) (areas numbers told : List ℕ) (i : ℕ) → i < length numbers → ToldLarge least areas numbers told → get_or told i 0 ≤ 1
told_low least areas numbers told i lt each = omega (arith, each i lt, low (nat_le least (get_or areas (get_or numbers i 0 - 1) 0)))
  where
    low : (b : Bool) → (if b then 1 else 0) ≤ 1
    low true = omega arith
    low false = omega arith

-- what is told of the run of a place is what the large components have there
shown_at : (e : List Offset) (f : Picture) (runs : List Run) (numbers told areas : List ℕ) (count least i x y : ℕ) → AreComponents e f runs numbers count → AreAreasOf runs numbers (length runs) count areas → ToldLarge least areas numbers told → IsPlace f x y
    → i < length runs → HasPlace (run_numbered runs i) x y → sample f x y ≡ 1 → get_or told i 0 ≡ sample (large_components e least f) x y
shown_at e f runs numbers told areas count least i x y are counted each place lt holds one =
    let n = get_or numbers i 0 in
    let v = get_or areas (n - 1) 0 in
    let some = are.some i lt in
    let most = are.most i lt in
    let number : n ≡ n - 1 + 1 = omega arith in
    let size : area (component e f x y) ≡ v = component_area e f runs numbers count i x y are lt holds ∙ ap (λ (t : ℕ). area_of runs numbers t (length runs)) number ∙ sym (counted (n - 1) (omega arith)) in
    let is = each i (omega (arith, are.size)) in
    let at = sample-large e least f x y place.column place.row in
    elim (large.marks least (sample f x y) (area (component e f x y))) [
      | yes one' le mark ↦
          let le' : least ≤ v = omega arith in
          let large_here : (if nat_le least v then 1 else 0) ≡ 1 = rw (le-leb least v le') refl in
          is ∙ large_here ∙ sym (at ∙ mark)
      | no none mark ↦ elim (cases_lt v least) [
        | inl less ↦
            let small_here : (if nat_le least v then 1 else 0) ≡ 0 = rw (lt-leb least v less) refl in
            is ∙ small_here ∙ sym (at ∙ mark)
        | inr ge ↦ absurd (none one (omega arith))
      ]
    ]

pub large_shown : (e : List Offset) (f : Picture) (runs : List Run) (numbers told areas out : List ℕ) (count least : ℕ) → AreComponents e f runs numbers count → AreAreasOf runs numbers (length runs) count areas → ToldLarge least areas numbers told
    → ShowsNumbers f runs told out → out ≡ (large_components e least f).samples
large_shown e f runs numbers told areas out count least are counted each shows =
    let h = large_components e least f in
    ap (λ (t : Picture). t.samples)
    (same_picture (picture f.kind f.width f.height f.maxval out) h (record { kind = refl; width = refl; height = refl; maxval = refl }) shows.size
    (length-rows (λ x y. if sample f x y == 1 && nat_le least (area (component e f x y)) then 1 else 0) f.width 0 f.height)
    (λ x y p q.
    let place : IsPlace f x y = record { column = p; row = q } in
    elim (cases_eq (sample f x y) 0) [
      | inl none ↦ shows.unshown x y place none ∙ sym (sample-large e least f x y p q ∙ elim (large.marks least (sample f x y) (area (component e f x y))) [
        | yes one le is ↦ absurd (omega arith)
        | no not is ↦ is
      ])
      | inr ne ↦
          let one = one_of f x y are.set place ne in
          let run = are.cut.all x y p (inl q) one in
          shows.shown run.at x y run.within run.holds ∙ shown_at e f runs numbers told areas count least run.at x y are counted each place run.within run.holds one
    ]))

-- ---- as functions take them

pub numbers_some : (e : List Offset) (f : Picture) (spans : List Span) (starts numbers now : List ℕ) (count : ℕ) → AreRunSpans e f spans starts numbers count → now ≡ numbers → (i : ℕ) → i < length now → 1 ≤ get_or now i 0
numbers_some e f spans starts numbers now count are same i lt =
    let comps = are.each are.some.runs are.some.cut in
    let size = comps.size in
    let as_many = ap (λ (t : List ℕ). length t) same in
    let some = comps.some i (omega arith) in
    let number = ap (λ (t : List ℕ). get_or t i 0) same in
    omega arith

pub numbers_most : (e : List Offset) (f : Picture) (spans : List Span) (starts numbers now : List ℕ) (count n : ℕ) → AreRunSpans e f spans starts numbers count → now ≡ numbers → n ≡ count → (i : ℕ) → i < length now → get_or now i 0 ≤ n
numbers_most e f spans starts numbers now count n are same is i lt =
    let comps = are.each are.some.runs are.some.cut in
    let size = comps.size in
    let as_many = ap (λ (t : List ℕ). length t) same in
    let most = comps.most i (omega arith) in
    let number = ap (λ (t : List ℕ). get_or t i 0) same in
    omega arith

-- what is told, by the lists as they were read
pub told_as : (least : ℕ) (areas areas' numbers now told new : List ℕ) → areas' ≡ areas → now ≡ numbers → told ≡ new → ((i : ℕ) → i < length now → get_or new i 0 ≡ (if nat_le least (get_or areas' (get_or now i 0 - 1) 0) then 1 else 0)) → ToldLarge least areas numbers told
told_as least areas areas' numbers now told new same_areas same same_told each i lt =
    ap (λ (t : List ℕ). get_or t i 0) same_told
    ∙ each i (omega (arith, ap (λ (t : List ℕ). length t) same))
    ∙ ap (λ (t : List ℕ). if nat_le least (get_or t (get_or now i 0 - 1) 0) then 1 else 0) same_areas
    ∙ ap (λ (t : List ℕ). if nat_le least (get_or areas (get_or t i 0 - 1) 0) then 1 else 0) same

pub told_held : (e : List Offset) (f : Picture) (spans : List Span) (starts numbers told : List ℕ) (count w h size : ℕ) → AreRunSpans e f spans starts numbers count → w ≡ f.width → h ≡ f.height → size ≡ f.height * f.width → length told ≡ length numbers
    → HeldRuns (RunsFit w size) h spans starts told
told_held e f spans starts numbers told count w h size are wide high is as_many =
    held_with (RunsFit w size) h spans starts numbers told as_many (held_known (RunsFit w size) e f spans starts numbers count h are high (frame_fit f are.some.runs w size are.some.cut wide is))

pub large_written : (e : List Offset) (f : Picture) (spans : List Span) (starts numbers told areas out : List ℕ) (count least w h size : ℕ) → (are : AreRunSpans e f spans starts numbers count) → f.height * f.width < 2 ^ 32 → w ≡ f.width → h ≡ f.height → size ≡ f.height * f.width
    → length told ≡ length numbers → ToldLarge least areas numbers told → ((held : HeldRuns (λ runs. AreCounted runs numbers count) h spans starts numbers) → AreAreasOf held.runs numbers (length held.runs) count areas)
    → ((held : HeldRuns (RunsFit w size) h spans starts told) → out ≡ painted_runs w held.runs told (length held.runs) (replicate size 0)) → out ≡ (large_components e least f).samples
unfolding held_with
large_written e f spans starts numbers told areas out count least w h size are few wide high is as_many each counted made =
    let runs = are.some.runs in
    let n = f.height * f.width in
    let areas_are : AreAreasOf runs numbers (length runs) count areas = of_counted (λ (t : List Run). AreAreasOf t numbers (length t) count areas) e f spans starts numbers count h few are high counted in
    let painted : out ≡ painted_runs w runs told (length runs) (replicate size 0) =
    of_known (RunsFit w size) (λ (t : List Run). out ≡ painted_runs w t told (length t) (replicate size 0)) e f spans starts numbers count h are high (frame_fit f runs w size are.some.cut wide is)
    (λ held. made (held_with (RunsFit w size) h spans starts numbers told as_many held)) in
    let shown : out ≡ painted_runs f.width runs told (length runs) (blank n) =
    painted ∙ ap (λ (t : ℕ). painted_runs t runs told (length runs) (replicate size 0)) wide ∙ ap (λ (t : ℕ). painted_runs f.width runs told (length runs) (replicate t 0)) is in
    large_shown e f runs numbers told areas out count least (are.each runs are.some.cut) areas_are each (shows_numbers f runs told (blank n) out are.some.cut (length-blank n) (blank_zero n) shown)
