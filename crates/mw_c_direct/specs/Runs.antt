-- Plans that are run on an image, step by step (own).
use Rattle.std.specs.Prelude.{◌≡◌, ℕ, ◌<◌, ◌≤◌, false, Bool, List, [], ◌∷◌, length, Option, IfSome, slice_index_or}
use Rattle.std.specs.List.{AllByRecursion}
use Rattle.mw_model.specs.declared.limits.TheConstants.{SIDE_LIMIT}
use Rattle.mw_model.specs.Pictures.{Picture}
use Rattle.mw_model.specs.Plans.{Plan, IsSourceAt, no_picture, planes}
use Rattle.mw_model.specs.Tasks.{flag, nothing_planned}
use Rattle.mw_plan.specs.PlansOf.{CanBeMade, IsPlaneSource, planes_read}
use Rattle.mw_c_direct.specs.Kept.{IsThereIfMade, IsWanted, SourceIsMade, kept_at}

-- the planes of the plan on the image
abbrev pub planes_on : Plan → Picture → List Picture
planes_on plan image = planes plan (image ∷ []) image.width image.height

-- each source of a step is the image or an earlier step
abbrev pub HasSteps : Plan → Type 0
HasSteps plan = (k : ℕ) → AllByRecursion (IsSourceAt 1 k) (slice_index_or plan k nothing_planned).sources

-- The plan can be run on the image: each source is the image or an earlier step that makes a plane, and each step can be made of what it reads.
pub record IsRunnable (plan : Plan) (image : Picture) : Type 0 where
  pub some : 1 ≤ length plan
  pub sources : HasSteps plan
  pub planes : (k : ℕ) → AllByRecursion (IsPlaneSource plan) (slice_index_or plan k nothing_planned).sources
  pub made : (k : ℕ) → k < length plan → CanBeMade (slice_index_or plan k nothing_planned).step (planes_read plan (image ∷ []) image.width image.height k)
  pub wide : 1 ≤ image.width
  pub narrow : image.width ≤ SIDE_LIMIT
  pub high : 1 ≤ image.height
  pub low : image.height ≤ SIDE_LIMIT

-- Step j comes before step k, is not made yet, and can be made now.
pub record CanBeNext (plan : Plan) (made : List Bool) (k j : ℕ) : Type 0 where
  pub before : j < k
  pub unmade : flag made j ≡ false
  pub sources : AllByRecursion (SourceIsMade made) (slice_index_or plan j nothing_planned).sources

-- Some steps of the plan are made. What is kept is a step's plane, and it is kept exactly while a step that is not made yet reads it.
pub record HasRun (plan : Plan) (image : Picture) (made : List Bool) (kept : List (Option Picture)) : Type 0 where
  pub flags : length made ≡ length plan
  pub count : length kept ≡ length plan
  pub true_planes : (j : ℕ) → IfSome (kept_at kept j) (λ f. f ≡ slice_index_or (planes_on plan image) j no_picture)
  pub read : (i : ℕ) → i < length plan → flag made i ≡ false → AllByRecursion (IsThereIfMade made kept) (slice_index_or plan i nothing_planned).sources
  pub wanted : (j : ℕ) → IfSome (kept_at kept j) (λ f. IsWanted plan made j)
