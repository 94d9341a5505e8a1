-- What is made of the components that were found.
use Rattle.std.proofs.Common.{◌≡◌, ℕ, ◌*◌, ◌<◌, ◌≤◌, List, ◌++◌, length, drop, refl, sym, subst, ap, arith, ◌∙◌}
use Rattle.mw_model.specs.Pictures.{Picture}
use Rattle.mw_geodesic.specs.Labels.{IsLabelling}
use Rattle.mw_model.specs.declared.offsets.Offset.{Offset}
use Rattle.mw_geodesic_runs.specs.declared.runs.Run.{Run}
use Rattle.mw_geodesic_runs.specs.Components.{AreComponents}
use Rattle.mw_geodesic_labels.specs.Painting.{painted_runs}
use Rattle.mw_geodesic_labels.specs.declared.regions.Region.{Region}
use Rattle.mw_geodesic_labels.specs.Regions.{AreRegionsOf, region_rows, HasComponents, AreRegionsTold, AreRegionsWithLabels}
use Rattle.mw_geodesic_labels.specs.Gathering.{AreGathered}
use Rattle.mw_geodesic_labels.proofs.Labellings.{labelling}
use Rattle.mw_geodesic_labels.proofs.Paintings.{blank, length-blank, blank_zero, shows_numbers}
use Rattle.mw_geodesic_labels.proofs.Told.{are_regions, as_many}

pub labels_by : (e : List Offset) (f : Picture) (runs runs' : List Run) (numbers numbers' : List ℕ) (count w : ℕ) (xs new labels : List ℕ) → AreComponents e f runs numbers count → w ≡ f.width → runs' ≡ runs → numbers' ≡ numbers
    → xs ≡ blank (f.height * f.width) → new ≡ painted_runs w runs' numbers' (length runs') xs → labels ≡ new → IsLabelling e f count labels
labels_by e f runs runs' numbers numbers' count w xs new labels are wide same same_numbers none is same_labels =
    let n = f.height * f.width in
    let now : labels ≡ painted_runs f.width runs numbers (length runs) (blank n) =
    same_labels ∙ is
    ∙ ap (λ (t : ℕ). painted_runs t runs' numbers' (length runs') xs) wide
    ∙ ap (λ (t : List Run). painted_runs f.width t numbers' (length t) xs) same
    ∙ ap (λ (t : List ℕ). painted_runs f.width runs t (length runs) xs) same_numbers
    ∙ ap (λ (t : List ℕ). painted_runs f.width runs numbers (length runs) t) none in
    labelling e f runs numbers labels count are (shows_numbers f runs numbers (blank n) labels are.cut (length-blank n) (blank_zero n) now)

pub regions_by : (e : List Offset) (f : Picture) (runs runs' : List Run) (numbers numbers' : List ℕ) (count : ℕ) (regions : List Region) → AreComponents e f runs numbers count → runs' ≡ runs → numbers' ≡ numbers
    → AreGathered runs' numbers' (length runs') regions → AreRegionsOf e f regions
regions_by e f runs runs' numbers numbers' count regions are same same_numbers told =
    are_regions e f runs numbers count regions are
    (subst (λ (t : List ℕ). AreGathered runs t (length runs) regions) same_numbers (subst (λ (t : List Run). AreGathered t numbers' (length t) regions) same told))

pub many_by : (e : List Offset) (f : Picture) (runs runs' : List Run) (numbers numbers' : List ℕ) (count : ℕ) (regions : List Region) → AreComponents e f runs numbers count → runs' ≡ runs → numbers' ≡ numbers
    → AreGathered runs' numbers' (length runs') regions → length regions ≡ count
many_by e f runs runs' numbers numbers' count regions are same same_numbers told =
    as_many e f runs numbers count regions are
    (subst (λ (t : List ℕ). AreGathered runs t (length runs) regions) same_numbers (subst (λ (t : List Run). AreGathered t numbers' (length t) regions) same told))

-- ---- regions that are written

pub told_written : (e : List Offset) (f : Picture) (count : ℕ) (old new : List ℕ) (regions : List Region) → AreRegionsOf e f regions → count ≡ length regions → new ≡ region_rows regions ++ drop (7 * length regions) old → 7 * count ≤ length old
    → AreRegionsTold e f count old new
told_written e f count old new regions are many is room = record {
  components = record { labels = are.labels; labelling = subst (λ (n : ℕ). IsLabelling e f n are.labels) (sym many) are.labelling };
  written = λ le. record { regions = regions; are = are; counted = many; written = is ∙ ap (λ (n : ℕ). region_rows regions ++ drop (7 * n) old) (sym many) };
  unwritten = λ less. absurd (omega arith);
}

-- by what is written where there is room, and else
pub told_by : (e : List Offset) (f : Picture) (count : ℕ) (old new : List ℕ) (regions : List Region) → AreRegionsOf e f regions → length regions ≡ count → (7 * length regions ≤ length old → new ≡ region_rows regions ++ drop (7 * length regions) old)
    → (length old < 7 * length regions → new ≡ old) → AreRegionsTold e f count old new
told_by e f count old new regions are many written short = record {
  components = record { labels = are.labels; labelling = subst (λ (n : ℕ). IsLabelling e f n are.labels) many are.labelling };
  written = λ le. record { regions = regions; are = are; counted = sym many; written = written (omega arith) ∙ ap (λ (n : ℕ). region_rows regions ++ drop (7 * n) old) many };
  unwritten = λ less. short (omega arith);
}

pub told_unwritten : (e : List Offset) (f : Picture) (count : ℕ) (old : List ℕ) → HasComponents e f count → length old < 7 * count → AreRegionsTold e f count old old
told_unwritten e f count old has short = record {
  components = has;
  written = λ le. absurd (omega arith);
  unwritten = λ less. refl;
}

pub with_labels : (e : List Offset) (f : Picture) (count : ℕ) (old_rows rows old new : List ℕ) → AreRegionsTold e f count old_rows rows → IsLabelling e f count new → 7 * count ≤ length old_rows → AreRegionsWithLabels e f count old_rows rows old new
with_labels e f count old_rows rows old new told labelling room = record {
  told = told;
  labels = λ le. labelling;
  unlabelled = λ less. absurd (omega arith);
}

pub without_labels : (e : List Offset) (f : Picture) (count : ℕ) (old_rows old : List ℕ) → HasComponents e f count → length old_rows < 7 * count → AreRegionsWithLabels e f count old_rows old_rows old old
without_labels e f count old_rows old has short = record {
  told = told_unwritten e f count old_rows has short;
  labels = λ le. absurd (omega arith);
  unlabelled = λ less. refl;
}
