-- When the last task of a curve is finished, the numbers that are kept are its values.
use Rattle.std.proofs.Common.{◌≡◌, ℕ, suc, ◌<◌, Bool, true, false, List, [], ◌∷◌, length, get_or, Some, refl, sym, ap, ◌∙◌, subst, arith}
use Rattle.std.specs.Prelude.{sum}
use Rattle.std.specs.List.{AllByRecursion}
use Rattle.mw_model.specs.declared.shapes.Shape.{Shape}
use Rattle.mw_model.specs.declared.shapes.Shape.TheVariants as shape
use Rattle.mw_model.specs.Pictures.{Picture, IsPicture}
use Rattle.mw_model.specs.PlanSteps.{PlanStep, Sum}
use Rattle.mw_model.specs.Plans.{Plan, is_sum, no_picture, numbers_from, plane_of, value_of_planes, with_number}
use Rattle.mw_model.specs.Refusals.{submission_at}
use Rattle.mw_model.specs.Tasks.{nothing_planned, remaining_tasks}
use Rattle.mw_model.specs.Values.{CurveValue, value_at}
use Rattle.mw_model.specs.Machine.{Machine, values}
use Rattle.mw_model.specs.Stands.{true_planes}
use Rattle.mw_model.proofs.ImagePlaces.{redrawn_itself}
use Rattle.mw_core_progress.specs.mw_step_task.Sources.{HasFrame}
use Rattle.mw_core_progress.specs.mw_step_task.WindowTasks.{source_count}
use Rattle.mw_core_progress.proofs.mw_step_task.Cut.{plane_of_one}
use Rattle.mw_core_progress.specs.mw_tile_planes.Tiles.{AreMade, Tiled}
use Rattle.mw_core_progress.specs.mw_tile_planes.Sums.{number_in}
use Rattle.mw_core_progress.proofs.mw_tile_planes.TileTotals.{tiles_add_up}
use Rattle.mw_core_progress.specs.ProgressView.{ProgressView, no_plane, numbers_of, plane_at}
use Rattle.mw_core_laws.specs.Works.{IsTrueWork, true_sources}
use Rattle.mw_core_laws.proofs.Fresh.{one-of-list}
use Rattle.mw_core_laws.proofs.Making.{sum-is}
use Rattle.mw_core_laws.proofs.Numbers.{has-tiles}
use Rattle.mw_core_laws.proofs.Pictured.{true_sources-pictures}
use Rattle.mw_core_laws.proofs.Settling.{sum-full}
use Rattle.mw_core_laws.proofs.Truth.{length-true_planes, tile-made, true_plane-is}
use Rattle.mw_core_laws.proofs.Windows.{frames-of, sources-at}

-- ---- the numbers of a plan, step by step

with_number-same : (b : Bool) (m n : ℕ) (ms ns : List ℕ) → (b ≡ true → m ≡ n) → ms ≡ ns → with_number b m ms ≡ with_number b n ns
with_number-same true m n ms ns same rest = ap (λ (k : ℕ). k ∷ ms) (same refl) ∙ ap (λ (ks : List ℕ). n ∷ ks) rest
with_number-same false m n ms ns same rest = rest

numbers-same : (plan : Plan) (planes : List Tiled) (made : List Picture) (d : Tiled) → length planes ≡ length plan → length made ≡ length plan
    → ((k : ℕ) → k < length plan → is_sum (get_or plan k nothing_planned).step ≡ true → number_in (get_or planes k d) ≡ sum (get_or made k no_picture).samples) → numbers_of plan planes ≡ numbers_from plan made
numbers-same [] planes made d kept whole each = refl
numbers-same (s ∷ ss) [] made d kept whole each = absurd (omega (arith, kept))
numbers-same (s ∷ ss) (p ∷ ps) [] d kept whole each = absurd (omega (arith, whole))
numbers-same (s ∷ ss) (p ∷ ps) (f ∷ fs) d kept whole each =
    with_number-same (is_sum s.step) (number_in p) (sum f.samples) (numbers_of ss ps) (numbers_from ss fs) (each 0 (omega arith))
    (numbers-same ss ps fs d (omega (arith, kept)) (omega (arith, whole)) (λ k lt. each (suc k) (omega (arith, lt))))

-- ---- the number of a Sum step

-- the plane of a Sum step is the image that it reads
sum-plane : (f : Picture) (width height : ℕ) → IsPicture f → HasFrame width height f → plane_of Sum (f ∷ []) width height ≡ f
sum-plane f width height picture frame =
    ap (λ (w : ℕ). plane_of Sum (f ∷ []) w height) (sym frame.width)
    ∙ ap (λ (h : ℕ). plane_of Sum (f ∷ []) f.width h) (sym frame.height)
    ∙ plane_of_one f.kind f.maxval (λ n. n) f
    ∙ redrawn_itself f picture.size

-- the numbers of its tiles add up to the sum of its true plane
sum-true : (m : Machine) (t : ℕ) (u : ProgressView) (k : ℕ) → IsTrueWork m t u → remaining_tasks u.progress ≡ 0 → k < length u.progress.plan → is_sum (get_or u.progress.plan k nothing_planned).step ≡ true
    → number_in (plane_at u k) ≡ sum (get_or (true_planes m t u.progress) k no_picture).samples
sum-true m t u k w none within sums =
    let p = u.progress in
    let g = u.tiling in
    let s = get_or p.plan k nothing_planned in
    let sources = true_sources m t p k in
    let is : s.step ≡ Sum = sum-is s.step sums in
    let one = one-of-list sources ((w.planned.made k within).count ∙ ap source_count is) in
    let f = one.0 in
    let picture : IsPicture f = (subst (λ (fs : List Picture). AllByRecursion IsPicture fs) one.1 (true_sources-pictures m t u k w within)).0 in
    let frame : HasFrame p.width p.height f
    = (subst (λ (fs : List Picture). AllByRecursion (HasFrame p.width p.height) fs) one.1 (frames-of m t u k s.sources w within (sources-at u k w.whole))).0 in
    let made : AreMade Sum (f ∷ []) (plane_at u k)
    = subst (λ (fs : List Picture). AreMade Sum fs (plane_at u k)) one.1 (subst (λ (x : PlanStep). AreMade x sources (plane_at u k)) is (tile-made m t u k w within)) in
    let plane : get_or (true_planes m t p) k no_picture ≡ f
    = true_plane-is m t p k w.keeps within
    ∙ ap (λ (x : PlanStep). plane_of x sources p.width p.height) is
    ∙ ap (λ (fs : List Picture). plane_of Sum fs p.width p.height) one.1
    ∙ sum-plane f p.width p.height picture frame in
    tiles_add_up g (plane_at u k) f (has-tiles g w.whole.tiling) (w.whole.tilings k) (sum-full u k w.whole none within sums) made picture (frame.width ∙ w.whole.width) (frame.height ∙ w.whole.height)
    ∙ ap (λ (x : Picture). sum x.samples) (sym plane)

-- ---- curves

-- the numbers that are kept are the curve that stands under the ticket
pub result-curve : (m : Machine) (t : ℕ) (u : ProgressView) (n : ℕ) → IsTrueWork m t u → remaining_tasks u.progress ≡ 0 → (submission_at m.table.submissions t).shape ≡ shape.Curve n
    → value_at (values m) t ≡ Some (CurveValue (numbers_of u.progress.plan u.planes))
result-curve m t u n w none shaped =
    let p = u.progress in
    let planes = true_planes m t p in
    sym w.keeps.means
    ∙ ap (λ (e : Shape). value_of_planes e p.plan planes) shaped
    ∙ ap (λ (ns : List ℕ). Some (CurveValue ns)) (sym (numbers-same p.plan u.planes planes (no_plane u.tiling) w.whole.planes (length-true_planes m t p) (λ k within sums. sum-true m t u k w none within sums)))
