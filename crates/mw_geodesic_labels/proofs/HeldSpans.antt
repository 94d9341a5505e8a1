-- Runs that are held as spans, row by row.
use Rattle.std.proofs.Common.{◌≡◌, ℕ, ◌+◌, ◌*◌, ◌/◌, ◌^◌, ◌<◌, ◌≤◌, List, length, get_or, replicate, refl, ap, sym, subst, arith, ◌∙◌, inl, inr}
use Rattle.std.proofs.lemmas.Bool.{cases_lt}
use Rattle.mw_model.specs.Pictures.{Picture}
use Rattle.mw_model.specs.declared.offsets.Offset.{Offset}
use Rattle.mw_geodesic_runs.specs.declared.runs.Run.{Run}
use Rattle.mw_geodesic_runs.specs.declared.spans.Span.{Span}
use Rattle.mw_geodesic_runs.specs.Runs.{run_numbered, RunsBefore}
use Rattle.mw_geodesic_runs.specs.Rows.{span_numbered, AreCutAbove}
use Rattle.mw_geodesic_runs.specs.Components.{AreComponents, AreRunSpans}
use Rattle.mw_geodesic_runs.proofs.RowsOfAll.{same_fields, split, cut_all, cut_within, cut_first}
use Rattle.mw_geodesic.specs.Labels.{IsLabelling}
use Rattle.mw_geodesic_labels.specs.Regions.{HasComponents, AreRegionsTold}
use Rattle.mw_geodesic_labels.specs.Gathering.{AreCounted, AreRowsGathered}
use Rattle.mw_geodesic_labels.specs.Painting.{painted_runs, begin_of, stop_of, run_of, RunsFit, HeldRuns}
use Rattle.mw_geodesic_labels.proofs.Paintings.{blank, runs_fit}
use Rattle.mw_geodesic_labels.proofs.Gathered.{are_wide}
use Rattle.mw_geodesic_labels.proofs.Results.{labels_by, regions_by, many_by, told_written}

-- the rows of runs that are held
record IsRow (runs : List Run) (y n n' : ℕ) : Type 0 where
  rises : n ≤ n'
  row : (k : ℕ) → n ≤ k → k < n' → (run_numbered runs k).row ≡ y

is_row : (f : Picture) (y n n' : ℕ) (runs : List Run) → y < f.height → RunsBefore f 0 f.height runs → AreCutAbove f y n → AreCutAbove f (y + 1) n' → IsRow runs y n n'
is_row f y n n' runs high cut above below =
    let is = split f y n runs (omega arith) cut above in
    let is' = split f (y + 1) n' runs (omega arith) cut below in
    let within = cut_within f y n runs (omega arith) cut above in
    let within' = cut_within f (y + 1) n' runs (omega arith) cut below in
    record {
      rises = elim (cases_lt n' n) [
        | inr le ↦ le
        | inl less ↦
            let low = is.over n' less in
            let high = is'.under n' (omega arith) (omega arith) in
            absurd (omega arith)
      ];
      row = λ k from to.
          let top = is.under k from (omega arith) in
          let bottom = is'.over k to in
          omega arith;
    }

pub held_runs : (Known : List Run → Type 0) (e : List Offset) (f : Picture) (spans : List Span) (starts numbers : List ℕ) (count : ℕ) → (are : AreRunSpans e f spans starts numbers count) → Known are.some.runs → HeldRuns Known f.height spans starts numbers
held_runs Known e f spans starts numbers count are known =
    let runs = are.some.runs in
    let cut = are.some.cut in
    let held = are.held in
    let all : get_or starts f.height 0 ≡ length runs = cut_all f f.height (get_or starts f.height 0) runs refl cut (held.cut f.height (omega arith)) in
    let size = held.size in
    record {
      runs = runs;
      known = known;
      numbered = (are.each runs cut).size;
      spanned = sym size ∙ all;
      rows = held.rows;
      begins = cut_first f (get_or starts 0 0) (held.cut 0 (omega arith));
      ends = all;
      rises = λ y lt. (is_row f y (get_or starts y 0) (get_or starts (y + 1) 0) runs lt cut (held.cut y (omega arith)) (held.cut (y + 1) (omega arith))).rises;
      within = λ y le. cut_within f y (get_or starts y 0) runs le cut (held.cut y le);
      is = λ y k lt from to.
          let row = is_row f y (get_or starts y 0) (get_or starts (y + 1) 0) runs lt cut (held.cut y (omega arith)) (held.cut (y + 1) (omega arith)) in
          let within = cut_within f (y + 1) (get_or starts (y + 1) 0) runs (omega arith) cut (held.cut (y + 1) (omega arith)) in
          let span = held.are runs cut k (omega arith) in
          same_fields (run_numbered runs k) (run_of y (span_numbered spans k)) (row.row k from to) span.first span.end;
    }

-- where a run that is held begins and ends
pub record IsPlaced (w size : ℕ) (runs : List Run) (y k first end : ℕ) : Type 0 where
  pub within : k < length runs
  pub begins : y * w + first ≡ begin_of w (run_numbered runs k)
  pub ends : y * w + end ≡ stop_of w (run_numbered runs k)
  pub order : first ≤ end
  pub room : y * w + end ≤ size

pub placed : (w size height y k : ℕ) (spans : List Span) (starts numbers : List ℕ) → (held : HeldRuns (RunsFit w size) height spans starts numbers) → y < height → get_or starts y 0 ≤ k → k < get_or starts (y + 1) 0
    → IsPlaced w size held.runs y k (span_numbered spans k).first (span_numbered spans k).end
placed w size height y k spans starts numbers held high from to =
    let is = held.is y k high from to in
    let begins = ap (λ (t : Run). begin_of w t) is in
    let ends = ap (λ (t : Run). stop_of w t) is in
    let first = ap (λ (t : Run). t.first) is in
    let end = ap (λ (t : Run). t.end) is in
    let within = held.within (y + 1) (omega arith) in
    let order = held.known.order k (omega arith) in
    let room = held.known.room k (omega arith) in
    record {
      within = omega arith;
      begins = sym begins;
      ends = sym ends;
      order = omega arith;
      room = omega arith;
    }

-- ---- as functions take them

pub frame_fit : (f : Picture) (runs : List Run) (w size : ℕ) → RunsBefore f 0 f.height runs → w ≡ f.width → size ≡ f.height * f.width → RunsFit w size runs
frame_fit f runs w size cut wide is = subst (λ (t : ℕ). RunsFit t size runs) (sym wide) (subst (λ (t : ℕ). RunsFit f.width t runs) (sym is) (runs_fit f runs cut))

held_as : (Known : List Run → Type 0) (h h' : ℕ) (spans spans' : List Span) (starts starts' numbers numbers' : List ℕ) → h' ≡ h → spans' ≡ spans → starts' ≡ starts → numbers' ≡ numbers → HeldRuns Known h spans starts numbers → HeldRuns Known h' spans' starts' numbers'
held_as Known h h' spans spans' starts starts' numbers numbers' high same same_starts same_numbers held =
    subst (λ (t : ℕ). HeldRuns Known t spans' starts' numbers') (sym high)
    (subst (λ (t : List Span). HeldRuns Known h t starts' numbers') (sym same) (subst (λ (t : List ℕ). HeldRuns Known h spans t numbers') (sym same_starts) (subst (λ (t : List ℕ). HeldRuns Known h spans starts t) (sym same_numbers) held)))

-- what holds of each list of runs that is held
abbrev pub OfHeld : (List Run → Type 0) → (List Run → Type 0) → ℕ → List Span → List ℕ → List ℕ → Type 0
OfHeld Known Holds h spans starts numbers = (held : HeldRuns Known h spans starts numbers) → Holds held.runs

pub of_held : (Known Holds : List Run → Type 0) (h h' : ℕ) (spans spans' : List Span) (starts starts' numbers numbers' : List ℕ) → h' ≡ h → spans' ≡ spans → starts' ≡ starts → numbers' ≡ numbers → OfHeld Known Holds h' spans' starts' numbers'
    → OfHeld Known Holds h spans starts numbers
of_held Known Holds h h' spans spans' starts starts' numbers numbers' high same same_starts same_numbers of =
    subst (λ (t : List ℕ). OfHeld Known Holds h spans starts t) same_numbers
    (subst (λ (t : List ℕ). OfHeld Known Holds h spans t numbers') same_starts (subst (λ (t : List Span). OfHeld Known Holds h t starts' numbers') same (subst (λ (t : ℕ). OfHeld Known Holds t spans' starts' numbers') high of)))

-- the runs of a set, and what is said of them as they are held
pub held_known : (Known : List Run → Type 0) (e : List Offset) (f : Picture) (spans : List Span) (starts numbers : List ℕ) (count h : ℕ) → (are : AreRunSpans e f spans starts numbers count) → h ≡ f.height → Known are.some.runs → HeldRuns Known h spans starts numbers
held_known Known e f spans starts numbers count h are high known =
    held_as Known f.height h spans spans starts starts numbers numbers high refl refl refl (held_runs Known e f spans starts numbers count are known)

pub of_known : (Known Holds : List Run → Type 0) (e : List Offset) (f : Picture) (spans : List Span) (starts numbers : List ℕ) (count h : ℕ) → (are : AreRunSpans e f spans starts numbers count) → h ≡ f.height → Known are.some.runs
    → OfHeld Known Holds h spans starts numbers → Holds are.some.runs
unfolding held_runs
of_known Known Holds e f spans starts numbers count h are high known of =
    of_held Known Holds f.height h spans spans starts starts numbers numbers high refl refl refl of (held_runs Known e f spans starts numbers count are known)

-- the same runs, with as many other numbers
unfoldable pub held_with : (Known : List Run → Type 0) (height : ℕ) (spans : List Span) (starts numbers numbers' : List ℕ) → length numbers' ≡ length numbers → HeldRuns Known height spans starts numbers → HeldRuns Known height spans starts numbers'
held_with Known height spans starts numbers numbers' size held = record {
  runs = held.runs;
  known = held.known;
  numbered = size ∙ held.numbered;
  spanned = held.spanned;
  rows = held.rows;
  begins = held.begins;
  ends = held.ends;
  rises = held.rises;
  within = held.within;
  is = held.is;
}

pub held_fit : (e : List Offset) (f : Picture) (spans spans' : List Span) (starts starts' numbers numbers' : List ℕ) (count w h size : ℕ) → AreRunSpans e f spans starts numbers count → w ≡ f.width → h ≡ f.height → spans' ≡ spans → starts' ≡ starts
    → numbers' ≡ numbers → size ≡ f.height * f.width → HeldRuns (RunsFit w size) h spans' starts' numbers'
held_fit e f spans spans' starts starts' numbers numbers' count w h size are wide high same same_starts same_numbers is =
    held_as (RunsFit w size) f.height h spans spans' starts starts' numbers numbers' high same same_starts same_numbers
    (held_runs (RunsFit w size) e f spans starts numbers count are (frame_fit f are.some.runs w size are.some.cut wide is))

pub held_labels : (e : List Offset) (f : Picture) (spans spans' : List Span) (starts starts' numbers numbers' labels : List ℕ) (count w h size : ℕ) → AreRunSpans e f spans starts numbers count → w ≡ f.width → h ≡ f.height → spans' ≡ spans → starts' ≡ starts
    → numbers' ≡ numbers → size ≡ f.height * f.width → OfHeld (RunsFit w size) (λ runs. labels ≡ painted_runs w runs numbers' (length runs) (replicate size 0)) h spans' starts' numbers' → IsLabelling e f count labels
unfolding held_runs
held_labels e f spans spans' starts starts' numbers numbers' labels count w h size are wide high same same_starts same_numbers is made =
    let runs = are.some.runs in
    let held = held_runs (RunsFit w size) e f spans starts numbers count are (frame_fit f runs w size are.some.cut wide is) in
    let painted : labels ≡ painted_runs w runs numbers' (length runs) (replicate size 0) =
    of_held (RunsFit w size) (λ runs. labels ≡ painted_runs w runs numbers' (length runs) (replicate size 0)) f.height h spans spans' starts starts' numbers numbers' high same same_starts same_numbers made held in
    labels_by e f runs runs numbers numbers' count w (replicate size 0) labels labels (are.each runs are.some.cut) wide refl same_numbers (ap (λ (t : ℕ). replicate t 0) is) painted refl

-- the set has as many components as its runs
pub held_components : (e : List Offset) (f : Picture) (spans : List Span) (starts numbers : List ℕ) (count : ℕ) → AreRunSpans e f spans starts numbers count → HasComponents e f count
held_components e f spans starts numbers count are =
    let runs = are.some.runs in
    let none = blank (f.height * f.width) in
    let labels = painted_runs f.width runs numbers (length runs) none in
    record { labels = labels; labelling = labels_by e f runs runs numbers numbers count f.width none labels labels (are.each runs are.some.cut) refl refl refl refl refl refl }

-- runs as rows of so many places are made of them
are_counted : (e : List Offset) (f : Picture) (runs : List Run) (numbers : List ℕ) (count most : ℕ) → f.height * f.width < 2 ^ 32 → AreComponents e f runs numbers count → count ≤ most → AreCounted runs numbers most
are_counted e f runs numbers count most few comps le =
    let wide = are_wide e f runs numbers count few comps in
    record {
      wide = record { size = wide.size; run = wide.run; some = wide.some; steps = wide.steps; fits = wide.fits };
      most = λ i lt. let low = comps.most i lt in omega arith;
    }

pub held_counted : (e : List Offset) (f : Picture) (spans spans' : List Span) (starts starts' numbers numbers' : List ℕ) (count most h : ℕ) → f.height * f.width < 2 ^ 32 → AreRunSpans e f spans starts numbers count → count ≤ most → h ≡ f.height → spans' ≡ spans
    → starts' ≡ starts → numbers' ≡ numbers → HeldRuns (λ runs. AreCounted runs numbers' most) h spans' starts' numbers'
held_counted e f spans spans' starts starts' numbers numbers' count most h few are le high same same_starts same_numbers =
    let runs = are.some.runs in
    let counted : AreCounted runs numbers' most = subst (λ (t : List ℕ). AreCounted runs t most) (sym same_numbers) (are_counted e f runs numbers count most few (are.each runs are.some.cut) le) in
    held_as (λ runs. AreCounted runs numbers' most) f.height h spans spans' starts starts' numbers numbers' high same same_starts same_numbers
    (held_runs (λ runs. AreCounted runs numbers' most) e f spans starts numbers count are counted)

-- the rows that are gathered tell of the regions
pub held_rows : (e : List Offset) (f : Picture) (spans spans' : List Span) (starts starts' numbers numbers' : List ℕ) (count h : ℕ) (old new : List ℕ) (n : ℕ) → f.height * f.width < 2 ^ 32 → AreRunSpans e f spans starts numbers count → 7 * count ≤ length old → h ≡ f.height
    → spans' ≡ spans → starts' ≡ starts → numbers' ≡ numbers → OfHeld (λ runs. AreCounted runs numbers' (length old / 7)) (λ runs. AreRowsGathered runs numbers' (length runs) old n new) h spans' starts' numbers' → AreRegionsTold e f count old new
unfolding held_runs
held_rows e f spans spans' starts starts' numbers numbers' count h old new n few are room high same same_starts same_numbers made =
    let runs = are.some.runs in
    let comps = are.each runs are.some.cut in
    let counted : AreCounted runs numbers' (length old / 7) = subst (λ (t : List ℕ). AreCounted runs t (length old / 7)) (sym same_numbers) (are_counted e f runs numbers count (length old / 7) few comps (omega arith)) in
    let held = held_runs (λ runs. AreCounted runs numbers' (length old / 7)) e f spans starts numbers count are counted in
    let told : AreRowsGathered runs numbers' (length runs) old n new =
    of_held (λ runs. AreCounted runs numbers' (length old / 7)) (λ runs. AreRowsGathered runs numbers' (length runs) old n new) f.height h spans spans' starts starts' numbers numbers' high same same_starts same_numbers made held in
    told_written e f count old new told.regions (regions_by e f runs runs numbers numbers' count told.regions comps refl same_numbers told.are)
    (sym (many_by e f runs runs numbers numbers' count told.regions comps refl same_numbers told.are)) told.rows room
