-- What is made of the set itself.
use Rattle.std.proofs.Common.{◌≡◌, ℕ, ◌+◌, ◌*◌, ◌^◌, ◌<◌, ◌≤◌, Bool, true, List, length, replicate, get_or, refl, ap, sym, subst, arith, ◌∙◌}
use Rattle.std.specs.Prelude.{All}
use Rattle.mw_model.specs.declared.offsets.Offset.{Offset}
use Rattle.mw_model.specs.Pictures.{Picture, IsSet}
use Rattle.mw_model.specs.Rasters.{Raster, raster}
use Rattle.mw_model.specs.Laws.{SameShape}
use Rattle.mw_model.proofs.mw_facts.Elements.{get_or-replicate_same}
use Rattle.mw_pixel.specs.Images.{set_of}
use Rattle.mw_geodesic.specs.Geodesics.{reconstruction}
use Rattle.mw_geodesic_runs.specs.declared.runs.Run.{Run}
use Rattle.mw_geodesic_runs.specs.Runs.{RunsBefore}
use Rattle.mw_geodesic_runs.specs.declared.spans.Span.{Span}
use Rattle.mw_geodesic_runs.specs.Components.{AreComponents, AreRunSpans}
use Rattle.mw_geodesic_labels.specs.Painting.{HeldRuns}
use Rattle.mw_geodesic_labels.specs.Gathering.{AreCounted}
use Rattle.mw_geodesic_labels.proofs.Gathered.{are_wide}
use Rattle.mw_geodesic_labels.proofs.HeldSpans.{held_known, of_known}
use Rattle.mw_geodesic_kept.specs.Keeping.{LieInFrame, LieHeld, HasPixelOf, IsAtEdge, AreMarked, RunsWritten, IsKeptPart, touching_or_not}
use Rattle.mw_geodesic_kept.proofs.Kept.{lie, written_kept, one_part}
use Rattle.mw_geodesic_kept.proofs.Rebuilt.{met_part}
use Rattle.mw_geodesic_kept.proofs.Edges.{border_part}

pub set_is : (p : Raster ℕ) → length p.cells ≡ p.height * p.width → All (λ s. s ≤ 1) p.cells → IsSet (set_of p)
set_is p size small = record { picture = record { size = size; bounded = small }; kind = refl; maxval = refl }

-- the spans that were found, as they are read
pub spans_found : (e : List Offset) (p q : Raster ℕ) (spans spans' : List Span) (starts starts' numbers numbers' : List ℕ) (count : ℕ) → AreRunSpans e (set_of q) spans starts numbers count → q ≡ p → spans' ≡ spans → starts' ≡ starts → numbers' ≡ numbers
    → AreRunSpans e (set_of p) spans' starts' numbers' count
spans_found e p q spans spans' starts starts' numbers numbers' count are read same same_starts same_numbers =
    let are' : AreRunSpans e (set_of p) spans starts numbers count = subst (λ (t : Raster ℕ). AreRunSpans e (set_of t) spans starts numbers count) read are in
    subst (λ (t : List Span). AreRunSpans e (set_of p) t starts' numbers' count) (sym same)
    (subst (λ (t : List ℕ). AreRunSpans e (set_of p) spans t numbers' count) (sym same_starts) (subst (λ (t : List ℕ). AreRunSpans e (set_of p) spans starts t count) (sym same_numbers) are'))

pub lie_by : (e : List Offset) (f : Picture) (runs : List Run) (numbers : List ℕ) (count w h bound : ℕ) → AreComponents e f runs numbers count → w ≡ f.width → h ≡ f.height → count < bound → LieInFrame w h bound runs numbers
lie_by e f runs numbers count w h bound are wide tall less =
    let l = lie e f runs numbers count bound are (λ i lt. let most = are.most i lt in omega arith) in
    record {
      size = l.size;
      some = l.some;
      across = λ i lt. let at = l.across i lt in omega arith;
      down = λ i lt. let at = l.down i lt in omega arith;
      bounded = l.bounded;
    }

-- the runs that were found lie in the frame
pub lie_held : (e : List Offset) (f : Picture) (spans : List Span) (starts numbers : List ℕ) (count w h bound : ℕ) → AreRunSpans e f spans starts numbers count → w ≡ f.width → h ≡ f.height → count < bound → LieHeld w h bound spans starts numbers
lie_held e f spans starts numbers count w h bound are wide tall less =
    held_known (λ runs. LieInFrame w h bound runs numbers) e f spans starts numbers count h are tall (lie_by e f are.some.runs numbers count w h bound (are.each are.some.runs are.some.cut) wide tall less)

-- what is said of runs that lie in the frame holds of those that were found
pub of_lie : (Holds : List Run → Type 0) (e : List Offset) (f : Picture) (spans : List Span) (starts numbers : List ℕ) (count w h bound : ℕ) → (are : AreRunSpans e f spans starts numbers count) → w ≡ f.width → h ≡ f.height → count < bound
    → ((held : LieHeld w h bound spans starts numbers) → Holds held.runs) → Holds are.some.runs
of_lie Holds e f spans starts numbers count w h bound are wide tall less of =
    of_known (λ runs. LieInFrame w h bound runs numbers) Holds e f spans starts numbers count h are tall (lie_by e f are.some.runs numbers count w h bound (are.each are.some.runs are.some.cut) wide tall less) of

-- what is written into an empty plane is kept
pub kept_by : (set blank new : Raster ℕ) (runs : List Run) (numbers : List ℕ) (marks : List Bool) (wanted : Bool) (w h n : ℕ) → blank ≡ raster w h (replicate n 0) → w ≡ set.width → h ≡ set.height → RunsBefore (set_of set) 0 set.height runs
    → RunsWritten (set_of set) runs numbers marks wanted (length runs) (set_of blank) (set_of new) → IsKeptPart (set_of set) runs numbers marks wanted (set_of new)
kept_by set blank new runs numbers marks wanted w h n is wide tall before written =
    let cells : blank.cells ≡ replicate n 0 = ap (λ (t : Raster ℕ). t.cells) is in
    let same_width : blank.width ≡ w = ap (λ (t : Raster ℕ). t.width) is in
    let same_height : blank.height ≡ h = ap (λ (t : Raster ℕ). t.height) is in
    written_kept (set_of set) (set_of blank) (set_of new) runs numbers marks wanted before (record { kind = refl; width = same_width ∙ wide; height = same_height ∙ tall; maxval = refl })
    (λ x y place. ap (λ (t : List ℕ). get_or t (y * blank.width + x) 0) cells ∙ get_or-replicate_same n (y * blank.width + x) 0) written

pub rebuilt_by : (e : List Offset) (f marker g : Picture) (runs : List Run) (numbers : List ℕ) (marks marks' : List Bool) (count : ℕ) → AreComponents e f runs numbers count → IsSet marker → SameShape marker f → marks' ≡ marks
    → AreMarked (HasPixelOf marker) runs numbers (length runs) marks → IsKeptPart f runs numbers marks' true g → g ≡ reconstruction e f marker
rebuilt_by e f marker g runs numbers marks marks' count are is_set shape same marked part =
    one_part f g (reconstruction e f marker) runs numbers marks' true are.set are.cut part
    (met_part e f marker runs numbers marks' count are is_set shape (subst (λ (t : List Bool). AreMarked (HasPixelOf marker) runs numbers (length runs) t) (sym same) marked))

pub border_by : (e : List Offset) (f g : Picture) (runs : List Run) (numbers : List ℕ) (marks marks' : List Bool) (wanted : Bool) (count w h : ℕ) → AreComponents e f runs numbers count → w ≡ f.width → h ≡ f.height → marks' ≡ marks
    → AreMarked (IsAtEdge w h) runs numbers (length runs) marks → IsKeptPart f runs numbers marks' wanted g → g ≡ touching_or_not e wanted f
border_by e f g runs numbers marks marks' wanted count w h are wide tall same marked part =
    let marked' : AreMarked (IsAtEdge f.width f.height) runs numbers (length runs) marks' =
    subst (λ (t : ℕ). AreMarked (IsAtEdge t f.height) runs numbers (length runs) marks') wide
    (subst (λ (t : ℕ). AreMarked (IsAtEdge w t) runs numbers (length runs) marks') tall (subst (λ (t : List Bool). AreMarked (IsAtEdge w h) runs numbers (length runs) t) (sym same) marked)) in
    one_part f g (touching_or_not e wanted f) runs numbers marks' wanted are.set are.cut part (border_part e f runs numbers marks' wanted count are marked')

-- the runs that were found are counted
counted_by : (e : List Offset) (f : Picture) (runs : List Run) (numbers : List ℕ) (count : ℕ) → f.height * f.width < 2 ^ 32 → AreComponents e f runs numbers count → AreCounted runs numbers count
counted_by e f runs numbers count few are = record { wide = are_wide e f runs numbers count few are; most = are.most }

pub counted_held : (e : List Offset) (f : Picture) (spans : List Span) (starts numbers : List ℕ) (count h : ℕ) → f.height * f.width < 2 ^ 32 → AreRunSpans e f spans starts numbers count → h ≡ f.height → HeldRuns (λ runs. AreCounted runs numbers count) h spans starts numbers
counted_held e f spans starts numbers count h few are tall =
    held_known (λ runs. AreCounted runs numbers count) e f spans starts numbers count h are tall (counted_by e f are.some.runs numbers count few (are.each are.some.runs are.some.cut))

pub of_counted : (Holds : List Run → Type 0) (e : List Offset) (f : Picture) (spans : List Span) (starts numbers : List ℕ) (count h : ℕ) → f.height * f.width < 2 ^ 32 → (are : AreRunSpans e f spans starts numbers count) → h ≡ f.height
    → ((held : HeldRuns (λ runs. AreCounted runs numbers count) h spans starts numbers) → Holds held.runs) → Holds are.some.runs
of_counted Holds e f spans starts numbers count h few are tall of =
    of_known (λ runs. AreCounted runs numbers count) Holds e f spans starts numbers count h are tall (counted_by e f are.some.runs numbers count few (are.each are.some.runs are.some.cut)) of
