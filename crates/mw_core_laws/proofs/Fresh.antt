-- The work of an accepted command: nothing of its plan was started.
use Rattle.std.proofs.Common.{◌≡◌, ℕ, ◌+◌, ◌-◌, ◌*◌, ◌/◌, ◌<◌, ◌≤◌, true, false, not, cond, List, [], ◌∷◌, length, get_or, replicate, Option, Some, None, refl, sym, ap, ◌∙◌, subst, arith}
use Rattle.std.specs.Prelude.{count_by}
use Rattle.std.specs.List.{AllByRecursion}
use Rattle.std.proofs.lemmas.Nat.{mul-le}
use Rattle.std.proofs.lemmas.List.{length-replicate}
use Rattle.std.proofs.lemmas.List.Sums.{sum_by-cons}
use Rattle.std.proofs.Math.Nat.{div-mul-le_self, mul-le-mul_left}
use Rattle.mw_model.proofs.mw_facts.Counts.{count_by-some}
use Rattle.mw_model.proofs.mw_facts.Elements.{get_or-replicate_same}
use Rattle.mw_model.specs.declared.shapes.Shape.{Shape}
use Rattle.mw_model.specs.declared.operations.Op.{Op}
use Rattle.mw_model.specs.Values.{Value}
use Rattle.mw_model.specs.Refusals.{is_image}
use Rattle.mw_model.specs.Pictures.{Picture, IsImage}
use Rattle.mw_model.specs.Machine.{Machine}
use Rattle.mw_model.specs.Plans.{Plan, IsSourceAt, images_of, planes, value_of_planes}
use Rattle.mw_model.specs.Tasks.{flag, task_count, nothing_planned}
use Rattle.mw_model.specs.Stands.{IsWork, input_values}
use Rattle.mw_grid.specs.Grids.{Tiling, columns_of, rows_of, tile_count}
use Rattle.mw_grid.proofs.Tiles.{cover_once, length-tiles_of}
use Rattle.mw_core_progress.specs.mw_plan.Asked.{is_image_input}
use Rattle.mw_core_progress.specs.mw_plan.PlansOf.{AreValuesOf, HaveFrame, inputs_taken}
use Rattle.mw_core_progress.specs.mw_plan.declared.inputs.Input.{Input}
use Rattle.mw_core_progress.specs.mw_plan.declared.inputs.Input.TheVariants as input
use Rattle.mw_core_progress.specs.mw_core_planes.Levels.{Level}
use Rattle.mw_core_progress.specs.ProgressView.{IsFramed, fresh}
use Rattle.mw_core_laws.specs.Works.{IsAccepted}
use Rattle.mw_core_laws.proofs.Numbers.{has-tiles, some-tiles}

-- ---- how many tasks there are

-- pieces of 64 places at least
pieces-most : (n side : ℕ) → 1 ≤ n → 64 ≤ side → 64 * ((n - 1) / side + 1) ≤ n + 63
pieces-most n side some least =
    let q = (n - 1) / side in
    let whole : q * side ≤ n - 1 = div-mul-le_self (n - 1) side in
    let less : q * 64 ≤ q * side = mul-le-mul_left q least in
    omega arith

tiles-most : (rows columns height width : ℕ) → 64 * rows ≤ height + 63 → 64 * columns ≤ width + 63 → height ≤ 8192 → width ≤ 8192 → height * width ≤ 16777216 → rows * columns ≤ 4348
tiles-most rows columns height width down across low narrow area =
    let both : 64 * rows * (64 * columns) ≤ (height + 63) * (width + 63) = mul-le (64 * rows) (64 * columns) (height + 63) (width + 63) down across in
    omega arith

-- the tiles of a frame of at most 2 to the 24 places are at most 4,348
pub tile_count-most : (g : Tiling) → IsFramed g → g.height * g.width ≤ 16777216 → tile_count g ≤ 4348
tile_count-most g is area =
    tiles-most (rows_of g) (columns_of g) g.height g.width (pieces-most g.height g.side is.high is.least) (pieces-most g.width g.side is.wide is.least) is.low is.narrow area

tasks-most : (steps tiles : ℕ) → steps ≤ 896 → tiles ≤ 4348 → steps * tiles ≤ 4194304
tasks-most steps tiles few most = omega (arith, mul-le steps tiles 896 4348 few most)

-- ---- nothing is started

none-flagged : (n k : ℕ) → flag (replicate n false) k ≡ true → ⊥
none-flagged n k h = let none : flag (replicate n false) k ≡ false = get_or-replicate_same n k false in cc

none-placed : (n k : ℕ) (cells : List ℕ) → get_or (replicate n None) k None ≡ Some cells → ⊥
none-placed n k cells h =
    let places : List (Option (List ℕ)) = replicate n None in
    let none : get_or places k None ≡ None = get_or-replicate_same n k None in
    cc

-- ---- the images among the inputs

pub length-images_of : (is : List Input) (vs : List (Option Value)) → AreValuesOf is vs → length (images_of vs) ≡ count_by is_image_input is
length-images_of [] [] all = refl
length-images_of [] (v ∷ vs) all = absurd all
length-images_of (i ∷ is) [] all = absurd all
length-images_of (input.Image s ∷ is) (v ∷ vs) all =
    let here : images_of (v ∷ vs) ≡ all.0.0 ∷ images_of vs = ap (λ (x : Option Value). images_of (x ∷ vs)) all.0.1 in
    let counted : ◌≡◌ {A = ℕ} (cond (is_image s) 1 0) 1 = ap (λ (e : Shape). cond (is_image e) 1 0) (sym all.0.3) in
    omega (arith, ap (λ (fs : List Picture). length fs) here, counted, length-images_of is vs all.1, sum_by-cons (λ (x : Input). cond (is_image_input x) 1 0) (input.Image s) is)
length-images_of (input.Element e ∷ is) (v ∷ vs) all =
    let here : images_of (v ∷ vs) ≡ images_of vs = ap (λ (x : Option Value). images_of (x ∷ vs)) all.0 in
    omega (arith, ap (λ (fs : List Picture). length fs) here, length-images_of is vs all.1, sum_by-cons (λ (x : Input). cond (is_image_input x) 1 0) (input.Element e) is)
length-images_of (input.Curve ∷ is) (v ∷ vs) all =
    let here : images_of (v ∷ vs) ≡ images_of vs = ap (λ (x : Option Value). images_of (x ∷ vs)) all.0.1 in
    omega (arith, ap (λ (fs : List Picture). length fs) here, length-images_of is vs all.1, sum_by-cons (λ (x : Input). cond (is_image_input x) 1 0) input.Curve is)
length-images_of (input.Absent ∷ is) (v ∷ vs) all =
    let here : images_of (v ∷ vs) ≡ images_of vs = ap (λ (x : Option Value). images_of (x ∷ vs)) all.0 in
    omega (arith, ap (λ (fs : List Picture). length fs) here, length-images_of is vs all.1, sum_by-cons (λ (x : Input). cond (is_image_input x) 1 0) input.Absent is)

images-within : (is : List Input) (vs : List (Option Value)) → AreValuesOf is vs → AllByRecursion IsImage (images_of vs)
images-within [] [] all = tt
images-within [] (v ∷ vs) all = absurd all
images-within (i ∷ is) [] all = absurd all
images-within (input.Image s ∷ is) (v ∷ vs) all =
    subst (λ (x : Option Value). AllByRecursion IsImage (images_of (x ∷ vs))) (sym all.0.1) (all.0.2, images-within is vs all.1)
images-within (input.Element e ∷ is) (v ∷ vs) all = subst (λ (x : Option Value). AllByRecursion IsImage (images_of (x ∷ vs))) (sym all.0) (images-within is vs all.1)
images-within (input.Curve ∷ is) (v ∷ vs) all = subst (λ (x : Option Value). AllByRecursion IsImage (images_of (x ∷ vs))) (sym all.0.1) (images-within is vs all.1)
images-within (input.Absent ∷ is) (v ∷ vs) all = subst (λ (x : Option Value). AllByRecursion IsImage (images_of (x ∷ vs))) (sym all.0) (images-within is vs all.1)

pub one-of-list : (fs : List Picture) → length fs ≡ 1 → (f : Picture) × (fs ≡ f ∷ [])
one-of-list [] h = absurd (omega (arith, h))
one-of-list (f ∷ []) h = (f, refl)
one-of-list (f ∷ g ∷ fs) h = absurd (omega (arith, h))

-- the only image of an operation that takes one
pub only-image : (is : List Input) (vs : List (Option Value)) → AreValuesOf is vs → count_by is_image_input is ≡ 1 → (f : Picture) × (images_of vs ≡ f ∷ []) × IsImage f
only-image is vs all one =
    let found = one-of-list (images_of vs) (length-images_of is vs all ∙ one) in
    (found.0, found.1, (subst (λ (fs : List Picture). AllByRecursion IsImage fs) found.1 (images-within is vs all)).0)

-- the image of an accepted command
pub image-accepted : (m : Machine) (t : ℕ) (o : Op) (a b c : Input) (plan : Plan) (g : Tiling) → IsAccepted m t o a b c plan g → (f : Picture) × (images_of (input_values m t) ≡ f ∷ []) × IsImage f
image-accepted m t o a b c plan g w = only-image (inputs_taken o a b c) (input_values m t) w.inputs w.planned.one

area-accepted : (m : Machine) (t : ℕ) (o : Op) (a b c : Input) (plan : Plan) (g : Tiling) → IsAccepted m t o a b c plan g → g.height * g.width ≤ 16777216
area-accepted m t o a b c plan g w =
    let only = image-accepted m t o a b c plan g w in
    let f = only.0 in
    let sides = (subst (λ (fs : List Picture). HaveFrame g.width g.height fs) only.1 w.frames).0 in
    subst (λ (h : ℕ). h * g.width ≤ 16777216) sides.1 (subst (λ (n : ℕ). f.height * n ≤ 16777216) sides.0 only.2.area)

-- ---- the work

task_count-fresh : (plan : Plan) (input : Level) (g : Tiling) → task_count (fresh plan input g) ≡ length plan * tile_count g
task_count-fresh plan input g = ap (λ (n : ℕ). length plan * n) (length-tiles_of g)

some-tasks : (plan : Plan) (g : Tiling) → 1 ≤ length plan → 0 < length plan * tile_count g
some-tasks plan g some = omega (arith, mul-le 1 1 (length plan) (tile_count g) some (some-tiles g))

pub work-fresh : (m : Machine) (t : ℕ) (o : Op) (a b c : Input) (plan : Plan) (input : Level) (g : Tiling) → IsAccepted m t o a b c plan g → IsWork m t (fresh plan input g)
work-fresh m t o a b c plan level g w =
    let N = length plan * tile_count g in
    let images = images_of (input_values m t) in
    let count = task_count-fresh plan level g in
    record {
      means = ap (λ (e : Shape). value_of_planes e plan (planes plan images g.width g.height)) w.shape ∙ w.planned.means (input_values m t) g.width g.height w.inputs w.frames ∙ sym w.value;
      frames = w.frames;
      sources = λ k. subst (λ (n : ℕ). AllByRecursion (IsSourceAt n k) (get_or plan k nothing_planned).sources) (sym (length-images_of (inputs_taken o a b c) (input_values m t) w.inputs)) (w.planned.sources k);
      covers = cover_once g (has-tiles g w.tiling);
      started = length-replicate N false ∙ sym count;
      finished = length-replicate N false ∙ sym count;
      places = length-replicate N None ∙ sym count;
      small = omega (arith, count, tasks-most (length plan) (tile_count g) w.planned.few (tile_count-most g w.tiling (area-accepted m t o a b c plan g w)));
      unfinished = count_by-some (λ n. not (flag (replicate N false) n)) (task_count (fresh plan level g)) 0 (omega (arith, count, some-tasks plan g w.planned.some)) (ap not (get_or-replicate_same N 0 false));
      begun = λ n h. absurd (none-flagged N n h);
      there = λ n h. absurd (none-flagged N n h);
      placed = λ n cells h. absurd (none-placed N n cells h);
      needed = λ n h needed. absurd (none-flagged N n h);
    }
