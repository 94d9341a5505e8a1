-- The plan of an accepted command can be worked off, and stands as planned.
use Rattle.std.proofs.Common.{◌≡◌, ℕ, zero, suc, ◌-◌, ◌<◌, true, false, List, [], ◌∷◌, length, map, get_or, refl, sym, ap, ◌∙◌, subst, arith}
use Rattle.std.specs.List.{AllByRecursion}
use Rattle.mw_model.proofs.mw_facts.Numbers.{strong_induction}
use Rattle.mw_model.specs.declared.operations.Op.{Op}
use Rattle.mw_model.specs.Pictures.{Picture, IsImage}
use Rattle.mw_model.specs.PlanSteps.{PlanStep, Erode, Dilate, ErodeBox, DilateBox, Rank, Minus, AtLeast, Invert, Meet, Join, Blank, Mark, MarkLast, Equal, Sum}
use Rattle.mw_model.specs.Plans.{Plan, Source, FromInput, FromStep, IsSourceAt, images_of, is_sum, no_picture, plane_of, plane_of_source, planes}
use Rattle.mw_model.specs.Refusals.{submission_at, is_image}
use Rattle.mw_model.specs.Tasks.{Progress, nothing_planned}
use Rattle.mw_model.specs.Machine.{Machine}
use Rattle.mw_model.specs.Stands.{IsWork, input_values}
use Rattle.mw_grid.specs.Grids.{Tiling}
use Rattle.mw_core_progress.specs.mw_plan.PlansOf.{CanBeMade, planes_read}
use Rattle.mw_core_progress.specs.mw_plan.declared.inputs.Input.{Input}
use Rattle.mw_core_progress.proofs.mw_plan.Planes.{length-planes, plane_is}
use Rattle.mw_core_progress.specs.mw_core_planes.Levels.{Level, IsLevel, level_of, levels}
use Rattle.mw_core_progress.specs.ProgressView.{ProgressView, IsWhole, IsWorkable, fresh}
use Rattle.mw_core_laws.specs.Works.{IsAccepted, IsPlanned, IsUnder}
use Rattle.mw_core_laws.proofs.Fresh.{image-accepted, work-fresh}
use Rattle.mw_core_laws.proofs.Leveled.{levels-planes}

-- ---- levels of planes

-- there are planes of the level of the image
abbrev HasLevel : Picture → Type 0
HasLevel f = IsLevel (level_of f)

first-level : (sources : List Picture) (n : ℕ) → length sources ≡ suc n → AllByRecursion HasLevel sources → HasLevel (get_or sources 0 no_picture)
first-level [] n count all = absurd (omega (arith, count))
first-level (f ∷ fs) n count all = all.0

plane-level : (s : PlanStep) (sources : List Picture) (width height : ℕ) → CanBeMade s sources → AllByRecursion HasLevel sources → HasLevel (plane_of s sources width height)
plane-level (Erode e) sources width height can all = first-level sources 0 can.count all
plane-level (Dilate e) sources width height can all = first-level sources 0 can.count all
plane-level (ErodeBox b) sources width height can all = first-level sources 0 can.count all
plane-level (DilateBox b) sources width height can all = first-level sources 0 can.count all
plane-level (Rank e k) sources width height can all = first-level sources 0 can.count all
plane-level Minus sources width height can all = first-level sources 1 can.count all
plane-level (AtLeast k) sources width height can all = refl
plane-level Invert sources width height can all = first-level sources 0 can.count all
plane-level Meet sources width height can all = first-level sources 1 can.count all
plane-level Join sources width height can all = first-level sources 1 can.count all
plane-level (Blank m) sources width height can all = can.kinds
plane-level (Mark v) sources width height can all = first-level sources 2 can.count all
plane-level (MarkLast v) sources width height can all = first-level sources 1 can.count all
plane-level (Equal v) sources width height can all = refl
plane-level Sum sources width height can all = first-level sources 0 can.count all

-- ---- the planes of a plan on one image

-- a plan on one image: its sources, and that its steps can be made
pub record IsOnImage (plan : Plan) (f : Picture) (width height : ℕ) : Type 0 where
  pub image : IsImage f
  pub sources : (k : ℕ) → AllByRecursion (IsSourceAt 1 k) (get_or plan k nothing_planned).sources
  pub made : (k : ℕ) → k < length plan → CanBeMade (get_or plan k nothing_planned).step (planes_read plan (f ∷ []) width height k)

source-levels : (f : Picture) (made : List Picture) (k : ℕ) (sources : List Source) → IsImage f → ((j : ℕ) → j < k → HasLevel (get_or made j no_picture)) → AllByRecursion (IsSourceAt 1 k) sources
    → AllByRecursion HasLevel (map (plane_of_source (f ∷ []) made) sources)
source-levels f made k [] image before all = tt
source-levels f made k (FromInput zero ∷ ss) image before all = (image.maxval, source-levels f made k ss image before all.1)
source-levels f made k (FromInput (suc i) ∷ ss) image before all = absurd (omega (arith, all.0))
source-levels f made k (FromStep j ∷ ss) image before all = (before j all.0, source-levels f made k ss image before all.1)

planes-level : (plan : Plan) (f : Picture) (width height k : ℕ) → IsOnImage plan f width height → k < length plan → HasLevel (get_or (planes plan (f ∷ []) width height) k no_picture)
planes-level plan f width height k on =
    let made = planes plan (f ∷ []) width height in
    strong_induction (λ (j : ℕ). j < length plan → HasLevel (get_or made j no_picture))
    (λ j before within.
    let s = get_or plan j nothing_planned in
    subst HasLevel (sym (plane_is plan (f ∷ []) width height j 1 within (on.sources j)))
    (plane-level s.step (planes_read plan (f ∷ []) width height j) width height (on.made j within)
    (source-levels f made j s.sources on.image (λ i lt. before i lt (omega (arith, lt, within))) (on.sources j)))) k

all-each : {A : Type 0} (P : A → Type 0) (xs : List A) (d : A) → ((k : ℕ) → k < length xs → P (get_or xs k d)) → AllByRecursion P xs
all-each P [] d each = tt
all-each P (x ∷ xs) d each = (each 0 (omega arith), all-each P xs d (λ k lt. each (suc k) (omega arith)))

all-map : (P : Level → Type 0) (fs : List Picture) → AllByRecursion (λ f. P (level_of f)) fs → AllByRecursion P (map level_of fs)
all-map P [] all = tt
all-map P (f ∷ fs) all = (all.0, all-map P fs all.1)

pub levels-fit : (plan : Plan) (f : Picture) (width height : ℕ) → IsOnImage plan f width height → AllByRecursion IsLevel (levels plan (level_of f))
levels-fit plan f width height on =
    let made = planes plan (f ∷ []) width height in
    subst (λ (ls : List Level). AllByRecursion IsLevel ls) (sym (levels-planes plan f width height on.sources))
    (all-map IsLevel made (all-each HasLevel made no_picture (λ k lt. planes-level plan f width height k on (subst (λ (n : ℕ). k < n) (length-planes plan (f ∷ []) width height) lt))))

-- ---- accepted commands

on-image : (m : Machine) (t : ℕ) (o : Op) (a b c : Input) (plan : Plan) (g : Tiling) (f : Picture) → IsAccepted m t o a b c plan g → images_of (input_values m t) ≡ f ∷ [] → IsImage f → IsOnImage plan f g.width g.height
on-image m t o a b c plan g f w images image =
    let TileResult : List Picture → Type 0 = λ fs. (k : ℕ) → k < length plan → CanBeMade (get_or plan k nothing_planned).step (planes_read plan fs g.width g.height k) in
    record {
      image = image;
      sources = λ k. subst (λ (n : ℕ). AllByRecursion (IsSourceAt n k) (get_or plan k nothing_planned).sources) w.planned.one (w.planned.sources k);
      made = subst TileResult images (λ k within. w.planned.made (input_values m t) g.width g.height k w.inputs w.frames within);
    }

-- the plan can be worked off
pub workable-accepted : (m : Machine) (t : ℕ) (o : Op) (a b c : Input) (plan : Plan) (g : Tiling) (f : Picture) → IsAccepted m t o a b c plan g → images_of (input_values m t) ≡ f ∷ [] → IsWorkable plan (level_of f)
workable-accepted m t o a b c plan g f w images =
    let only = image-accepted m t o a b c plan g w in
    let Image : List Picture → Type 0 = λ fs. IsImage (get_or fs 0 no_picture) in
    let image : IsImage f = subst Image (sym only.1 ∙ images) only.2 in
    let on = on-image m t o a b c plan g f w images image in
    record {
      some = w.planned.some;
      few = w.planned.few;
      sources = on.sources;
      planes = w.planned.planes;
      levels = levels-fit plan f g.width g.height on;
    }

-- and stands as planned, of the level of its image
pub planned-fresh : (m : Machine) (t : ℕ) (o : Op) (a b c : Input) (plan : Plan) (f : Picture) (u : ProgressView) → IsAccepted m t o a b c plan u.tiling → images_of (input_values m t) ≡ f ∷ [] → u.input ≡ level_of f
    → u.progress ≡ fresh plan u.input u.tiling → IsPlanned m t u
planned-fresh m t o a b c plan f u w images input is =
    let g = u.tiling in
    let only = image-accepted m t o a b c plan g w in
    let Image : List Picture → Type 0 = λ fs. IsImage (get_or fs 0 no_picture) in
    let TileResult : Progress → Type 0 = λ p. (k : ℕ) → k < length p.plan → CanBeMade (get_or p.plan k nothing_planned).step (planes_read p.plan (images_of (input_values m t)) p.width p.height k) in
    let Last : Progress → Type 0 = λ p. is_image (submission_at m.table.submissions t).shape ≡ true → is_sum (get_or p.plan (length p.plan - 1) nothing_planned).step ≡ false in
    record {
      image = f;
      images = images;
      limits = subst Image (sym only.1 ∙ images) only.2;
      input = input;
      made = subst TileResult (sym is) (λ k within. w.planned.made (input_values m t) g.width g.height k w.inputs w.frames within);
      last = subst Last (sym is) (λ image. w.planned.last (ap is_image (sym w.shape) ∙ image));
    }

-- so it stands under its ticket
pub under-fresh : (m : Machine) (t : ℕ) (o : Op) (a b c : Input) (plan : Plan) (f : Picture) (u : ProgressView) → IsAccepted m t o a b c plan u.tiling → images_of (input_values m t) ≡ f ∷ [] → u.input ≡ level_of f
    → u.progress ≡ fresh plan u.input u.tiling → IsWhole u → IsUnder m t u
under-fresh m t o a b c plan f u w images input is whole = record {
  whole = whole;
  planned = planned-fresh m t o a b c plan f u w images input is;
  work = subst (λ (p : Progress). IsWork m t p) (sym is) (work-fresh m t o a b c plan u.input u.tiling w);
}
