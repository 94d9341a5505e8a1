-- One step more of a plan that is run on an image.
use Rattle.std.proofs.Common.{◌≡◌, ℕ, zero, suc, ◌+◌, ◌*◌, ◌-◌, ◌<◌, ◌≤◌, true, false, Bool, List, [], ◌∷◌, ◌++◌, length, map, take, sum, Option, Some, None, refl, ap, sym, subst, arith, ◌∙◌, inl, inr}
use Rattle.std.specs.Prelude.{replicate, slice_index_or, slice_set, unwrap_or, IsSome, IfSome, ◌||◌, nat_eq}
use Rattle.std.specs.List.{AllByRecursion, list_any}
use Rattle.std.proofs.lemmas.Bool.{cases_eq, cases_lt, ne_eqb, true_from_ne_false}
use Rattle.std.proofs.lemmas.List.{append-nil}
use Rattle.mw_model.specs.declared.limits.TheConstants.{PIXEL_LIMIT, SIDE_LIMIT}
use Rattle.mw_model.specs.Pictures.{Picture, FitsKind, IsImage, IsPicture}
use Rattle.mw_model.specs.Plans.{Plan, Planned, Source, FromInput, FromStep, IsSourceAt, is_sum, no_picture, numbers_from, plane_of, plane_of_source, with_number}
use Rattle.mw_model.specs.Tasks.{flag, is_step, nothing_planned}
use Rattle.mw_step_task.specs.Sources.{HasFrame}
use Rattle.mw_plan.specs.PlansOf.{CanBeMade, IsPlaneSource, planes_read}
use Rattle.mw_plan.proofs.Planes.{length-planes, plane_is}
use Rattle.mw_c_direct.specs.declared.making.Product.{Product}
use Rattle.mw_c_direct.specs.declared.making.Product.TheVariants as product
use Rattle.mw_c_direct.specs.Kept.{IsEmpty, IsKeptWanted, IsReady, IsThere, IsThereIfMade, IsWanted, KeepsRead, SourceIsMade, kept_at, plane_kept, sources_kept}
use Rattle.mw_c_direct.specs.Products.{IsNumberOf, IsProduct, number_made, put}
use Rattle.mw_c_direct.specs.Runs.{CanBeNext, HasRun, HasSteps, IsRunnable, planes_on}

-- the true plane of a step
abbrev plane_at : Plan → Picture → ℕ → Picture
plane_at plan image j = slice_index_or (planes_on plan image) j no_picture

-- a step with its sources
abbrev step_in : Plan → ℕ → Planned
step_in plan k = slice_index_or plan k nothing_planned

-- ---- what a step reads

some_is : (o : Option Picture) (g : Picture) → IsSome o → IfSome o (λ f. f ≡ g) → unwrap_or o no_picture ≡ g
some_is None g there is = absurd cc
some_is (Some f) g there is = is

made_there : (made : List Bool) (kept : List (Option Picture)) (ss : List Source) → AllByRecursion (SourceIsMade made) ss → AllByRecursion (IsThereIfMade made kept) ss → AllByRecursion (IsThere kept) ss
made_there made kept [] sources there = tt
made_there made kept (FromInput i ∷ ss) sources there = (tt, made_there made kept ss sources.1 there.1)
made_there made kept (FromStep i ∷ ss) sources there = (there.0 sources.0, made_there made kept ss sources.1 there.1)

first_image : (image : Picture) (i : ℕ) → i < 1 → image ≡ slice_index_or (image ∷ []) i no_picture
first_image image zero lt = refl
first_image image (suc i) lt = absurd (omega arith)

same_sources : (plan : Plan) (image : Picture) (k : ℕ) (kept : List (Option Picture)) (ss : List Source) → ((j : ℕ) → IfSome (kept_at kept j) (λ f. f ≡ plane_at plan image j)) → AllByRecursion (IsSourceAt 1 k) ss → AllByRecursion (IsThere kept) ss
    → map (plane_kept image kept) ss ≡ map (plane_of_source (image ∷ []) (planes_on plan image)) ss
same_sources plan image k kept [] is sources there = refl
same_sources plan image k kept (FromInput i ∷ ss) is sources there =
    ap (λ (f : Picture). f ∷ map (plane_kept image kept) ss) (first_image image i sources.0)
    ∙ ap (λ (fs : List Picture). slice_index_or (image ∷ []) i no_picture ∷ fs) (same_sources plan image k kept ss is sources.1 there.1)
same_sources plan image k kept (FromStep i ∷ ss) is sources there =
    ap (λ (f : Picture). f ∷ map (plane_kept image kept) ss) (some_is (kept_at kept i) (plane_at plan image i) there.0 (is i))
    ∙ ap (λ (fs : List Picture). plane_at plan image i ∷ fs) (same_sources plan image k kept ss is sources.1 there.1)

-- each plane of a plan has the frame
plane_frame : (plan : Plan) (image : Picture) (j : ℕ) → IsRunnable plan image → j < length plan → HasFrame image.width image.height (plane_at plan image j)
plane_frame plan image j runs lt =
    let is = plane_is plan (image ∷ []) image.width image.height j 1 lt (runs.sources j) in
    record { width = ap (λ (f : Picture). f.width) is; height = ap (λ (f : Picture). f.height) is }

all_framed : (plan : Plan) (image : Picture) (k : ℕ) (ss : List Source) → IsRunnable plan image → k < length plan → AllByRecursion (IsSourceAt 1 k) ss
    → AllByRecursion (HasFrame image.width image.height) (map (plane_of_source (image ∷ []) (planes_on plan image)) ss)
all_framed plan image k [] runs lt sources = tt
all_framed plan image k (FromInput i ∷ ss) runs lt sources =
    (subst (HasFrame image.width image.height) (first_image image i sources.0) (record { width = refl; height = refl }), all_framed plan image k ss runs lt sources.1)
all_framed plan image k (FromStep i ∷ ss) runs lt sources =
    let below : i < k = sources.0 in
    (plane_frame plan image i runs (omega arith), all_framed plan image k ss runs lt sources.1)

-- Some steps are made, and of these all that step k reads.
pub record CanRun (plan : Plan) (image : Picture) (made : List Bool) (kept : List (Option Picture)) (k : ℕ) : Type 0 where
  pub runs : IsRunnable plan image
  pub run : HasRun plan image made kept
  pub within : k < length plan
  pub unmade : flag made k ≡ false
  pub sources : AllByRecursion (SourceIsMade made) (step_in plan k).sources

all_there : (plan : Plan) (image : Picture) (made : List Bool) (kept : List (Option Picture)) (k : ℕ) → CanRun plan image made kept k → AllByRecursion (IsThere kept) (step_in plan k).sources
all_there plan image made kept k can = made_there made kept (step_in plan k).sources can.sources (can.run.read k can.within can.unmade)

sources_are : (plan : Plan) (image : Picture) (made : List Bool) (kept : List (Option Picture)) (k : ℕ) → CanRun plan image made kept k
    → sources_kept image kept (step_in plan k) ≡ planes_read plan (image ∷ []) image.width image.height k
sources_are plan image made kept k can = same_sources plan image k kept (step_in plan k).sources can.run.true_planes (can.runs.sources k) (all_there plan image made kept k can)

step_ready : (plan : Plan) (image : Picture) (made : List Bool) (kept : List (Option Picture)) (k : ℕ) → CanRun plan image made kept k → IsReady image kept (step_in plan k)
step_ready plan image made kept k can =
    let runs = can.runs in
    let same = sources_are plan image made kept k can in
    record {
      there = all_there plan image made kept k can;
      frames = subst (AllByRecursion (HasFrame image.width image.height)) (sym same) (all_framed plan image k (step_in plan k).sources runs can.within (runs.sources k));
      can = subst (CanBeMade (step_in plan k).step) (sym same) (runs.made k can.within);
      wide = runs.wide;
      narrow = runs.narrow;
      high = runs.high;
      low = runs.low;
    }

-- what the step makes of what is kept is its true plane
plane_true : (plan : Plan) (image : Picture) (made : List Bool) (kept : List (Option Picture)) (k : ℕ) → CanRun plan image made kept k
    → plane_of (step_in plan k).step (sources_kept image kept (step_in plan k)) image.width image.height ≡ plane_at plan image k
plane_true plan image made kept k can =
    ap (λ (fs : List Picture). plane_of (step_in plan k).step fs image.width image.height) (sources_are plan image made kept k can)
    ∙ sym (plane_is plan (image ∷ []) image.width image.height k 1 can.within (can.runs.sources k))

pub product_true : (plan : Plan) (image : Picture) (flags : List Bool) (kept held : List (Option Picture)) (k : ℕ) (s : Planned) (made : Product) → CanRun plan image flags kept k → s ≡ step_in plan k → held ≡ kept
    → IsProduct s.step (plane_of s.step (sources_kept image held s) image.width image.height) made → IsProduct (step_in plan k).step (plane_at plan image k) made
product_true plan image flags kept held k s made can step all is =
    let Of : Planned → List (Option Picture) → Type 0 = λ t fs. IsProduct t.step (plane_of t.step (sources_kept image fs t) image.width image.height) made in
    subst (λ (f : Picture). IsProduct (step_in plan k).step f made) (plane_true plan image flags kept k can)
    (subst (λ (fs : List (Option Picture)). Of (step_in plan k) fs) all (subst (λ (t : Planned). Of t held) step is))

-- a plane that was made is the true one
pub plane_told : (plan : Plan) (image : Picture) (k : ℕ) (made : Product) (f : Picture) → made ≡ product.Plane f → IsProduct (step_in plan k).step (plane_at plan image k) made → f ≡ plane_at plan image k
plane_told plan image k made f told is = (subst (λ (m : Product). IsProduct (step_in plan k).step (plane_at plan image k) m) told is).1

pub ready_held : (plan : Plan) (image : Picture) (made : List Bool) (kept held : List (Option Picture)) (k : ℕ) (s : Planned) → CanRun plan image made kept k → s ≡ step_in plan k → held ≡ kept → IsReady image held s
ready_held plan image made kept held k s can step all =
    subst (λ (t : Planned). IsReady image held t) (sym step) (subst (λ (fs : List (Option Picture)). IsReady image fs (step_in plan k)) (sym all) (step_ready plan image made kept k can))

-- ---- one more plane

set_here : (kept : List (Option Picture)) (k : ℕ) (x : Option Picture) → k < length kept → kept_at (slice_set kept k x) k ≡ x
set_here [] k x lt = absurd (omega arith)
set_here (y ∷ kept) zero x lt = refl
set_here (y ∷ kept) (suc k) x lt = set_here kept k x (omega arith)

set_there : (kept : List (Option Picture)) (k j : ℕ) (x : Option Picture) → (j ≡ k → ⊥) → kept_at (slice_set kept k x) j ≡ kept_at kept j
set_there [] k j x other = refl
set_there (y ∷ kept) zero zero x other = absurd (other refl)
set_there (y ∷ kept) zero (suc j) x other = refl
set_there (y ∷ kept) (suc k) zero x other = refl
set_there (y ∷ kept) (suc k) (suc j) x other = set_there kept k j x (λ e. other (omega arith))

set_size : (kept : List (Option Picture)) (k : ℕ) (x : Option Picture) → length (slice_set kept k x) ≡ length kept
set_size [] k x = refl
set_size (y ∷ kept) zero x = refl
set_size (y ∷ kept) (suc k) x = omega (arith, set_size kept k x)

put_there : (kept : List (Option Picture)) (k j : ℕ) (made : Product) → (j ≡ k → ⊥) → kept_at (put kept k made) j ≡ kept_at kept j
put_there kept k j (product.Plane f) other = set_there kept k j (Some f) other
put_there kept k j (product.Number n) other = refl

put_size : (kept : List (Option Picture)) (k : ℕ) (made : Product) → length (put kept k made) ≡ length kept
put_size kept k (product.Plane f) = set_size kept k (Some f)
put_size kept k (product.Number n) = refl

flag_here : (made : List Bool) (k : ℕ) → k < length made → flag (slice_set made k true) k ≡ true
flag_here [] k lt = absurd (omega arith)
flag_here (b ∷ made) zero lt = refl
flag_here (b ∷ made) (suc k) lt = flag_here made k (omega arith)

pub flag_there : (made : List Bool) (k j : ℕ) → (j ≡ k → ⊥) → flag (slice_set made k true) j ≡ flag made j
flag_there [] k j other = refl
flag_there (b ∷ made) zero zero other = absurd (other refl)
flag_there (b ∷ made) zero (suc j) other = refl
flag_there (b ∷ made) (suc k) zero other = refl
flag_there (b ∷ made) (suc k) (suc j) other = flag_there made k j (λ e. other (omega arith))

flag_size : (made : List Bool) (k : ℕ) → length (slice_set made k true) ≡ length made
flag_size [] k = refl
flag_size (b ∷ made) zero = refl
flag_size (b ∷ made) (suc k) = omega (arith, flag_size made k)

-- a step that is not made yet is another than the one that was
another : (made : List Bool) (k i : ℕ) → k < length made → flag (slice_set made k true) i ≡ false → i ≡ k → ⊥
another made k i lt unmade e =
    let here = flag_here made k lt in
    let same : flag (slice_set made k true) i ≡ flag (slice_set made k true) k = ap (λ (t : ℕ). flag (slice_set made k true) t) e in
    absurd cc

-- a step that makes no number makes a plane
plane_there : (s : Planned) (g : Picture) (kept : List (Option Picture)) (k : ℕ) (made : Product) → k < length kept → IsProduct s.step g made → is_sum s.step ≡ false → IsSome (kept_at (put kept k made) k)
plane_there s g kept k (product.Plane f) lt is unsummed = subst (λ (o : Option Picture). IsSome o) (sym (set_here kept k (Some f) lt)) refl
plane_there s g kept k (product.Number n) lt is unsummed = let sums = is.0 in absurd cc

-- Step k was made by a run, with this product.
pub record HasMade (plan : Plan) (image : Picture) (flags : List Bool) (kept : List (Option Picture)) (k : ℕ) (made : Product) : Type 0 where
  pub can : CanRun plan image flags kept k
  pub product : IsProduct (step_in plan k).step (plane_at plan image k) made

put_true : (plan : Plan) (image : Picture) (flags : List Bool) (kept : List (Option Picture)) (k : ℕ) (made : Product) → HasMade plan image flags kept k made
    → (j : ℕ) → IfSome (kept_at (put kept k made) j) (λ f. f ≡ plane_at plan image j)
put_true plan image flags kept k (product.Number n) has j = has.can.run.true_planes j
put_true plan image flags kept k (product.Plane f) has j =
    let run = has.can.run in
    let count = run.count in
    let within = has.can.within in
    elim (cases_eq j k) [
      | inl at ↦
          subst (λ (o : Option Picture). IfSome o (λ g. g ≡ plane_at plan image j)) (sym (ap (λ (t : ℕ). kept_at (slice_set kept k (Some f)) t) at ∙ set_here kept k (Some f) (omega arith)))
          (has.product.1 ∙ ap (plane_at plan image) (sym at))
      | inr other ↦ subst (λ (o : Option Picture). IfSome o (λ g. g ≡ plane_at plan image j)) (sym (set_there kept k j (Some f) other)) (run.true_planes j)
    ]

put_read : (plan : Plan) (image : Picture) (flags : List Bool) (kept : List (Option Picture)) (k : ℕ) (made : Product) (ss : List Source) → HasMade plan image flags kept k made
    → AllByRecursion (IsPlaneSource plan) ss → AllByRecursion (IsThereIfMade flags kept) ss → AllByRecursion (IsThereIfMade (slice_set flags k true) (put kept k made)) ss
put_read plan image flags kept k made [] has unsummed there = tt
put_read plan image flags kept k made (FromInput i ∷ ss) has unsummed there = (tt, put_read plan image flags kept k made ss has unsummed.1 there.1)
put_read plan image flags kept k made (FromStep i ∷ ss) has unsummed there = (
  λ is. elim (cases_eq i k) [
    | inl at ↦
        let count = has.can.run.count in
        let within = has.can.within in
        subst (λ (t : ℕ). IsSome (kept_at (put kept k made) t)) (sym at)
        (plane_there (step_in plan k) (plane_at plan image k) kept k made (omega arith) has.product (subst (λ (t : ℕ). is_sum (step_in plan t).step ≡ false) at unsummed.0))
    | inr other ↦ subst (λ (o : Option Picture). IsSome o) (sym (put_there kept k i made other)) (there.0 (sym (flag_there flags k i other) ∙ is))
  ],
  put_read plan image flags kept k made ss has unsummed.1 there.1,
)

second_true : (b t : Bool) → (b || t) ≡ true → b ≡ false → t ≡ true
second_true true t e false_too = absurd cc
second_true false t e _ = e

-- what is read by a step is among its sources
of_source : (P : Source → Type 0) (j : ℕ) (ss : List Source) → list_any (is_step j) ss ≡ true → AllByRecursion P ss → P (FromStep j)
of_source P j [] reads all = absurd cc
of_source P j (FromInput i ∷ ss) reads all = of_source P j ss reads all.1
of_source P j (FromStep i ∷ ss) reads all =
    elim (cases_eq i j) [
      | inl at ↦ subst (λ (t : ℕ). P (FromStep t)) at all.0
      | inr other ↦ of_source P j ss (second_true (nat_eq i j) (list_any (is_step j) ss) reads (ne_eqb i j other)) all.1
    ]

-- a plane that was wanted before is still wanted, or among those that the step read
wanted_on : (plan : Plan) (flags : List Bool) (k j : ℕ) (new : Option Picture) → IsWanted plan flags j → (list_any (is_step j) (step_in plan k).sources ≡ true → IfSome new (λ f. IsWanted plan (slice_set flags k true) j)) → IfSome new (λ f. IsWanted plan (slice_set flags k true) j)
wanted_on plan flags k j None wanted spent = tt
wanted_on plan flags k j (Some f) wanted spent =
    elim (cases_eq wanted.reader k) [
      | inl at ↦ spent (subst (λ (t : ℕ). list_any (is_step j) (step_in plan t).sources ≡ true) at wanted.reads)
      | inr other ↦ record { reader = wanted.reader; within = wanted.within; unmade = flag_there flags k wanted.reader other ∙ wanted.unmade; reads = wanted.reads }
    ]

-- what was kept before and is kept still
kept_before : (W V : Type 0) (new old : Option Picture) → IfSome new (λ f. old ≡ Some f) → IfSome old (λ f. W) → (W → IfSome new (λ f. V)) → IfSome new (λ f. V)
kept_before W V None old same is on = tt
kept_before W V (Some f) None same is on = absurd cc
kept_before W V (Some f) (Some g) same is on = on is

true_still : (g : Picture) (new old : Option Picture) → IfSome new (λ f. old ≡ Some f) → IfSome old (λ f. f ≡ g) → IfSome new (λ f. f ≡ g)
true_still g None old same is = tt
true_still g (Some f) None same is = absurd cc
true_still g (Some f) (Some h) same is = let e : h ≡ f = cc in sym e ∙ is

all_wanted : (plan : Plan) (image : Picture) (flags : List Bool) (kept new : List (Option Picture)) (k : ℕ) (made : Product) → HasMade plan image flags kept k made → KeepsRead plan (slice_set flags k true) (put kept k made) new
    → AllByRecursion (IsKeptWanted plan (slice_set flags k true) new) (step_in plan k).sources → IfSome (kept_at new k) (λ f. IsWanted plan (slice_set flags k true) k)
    → (j : ℕ) → IfSome (kept_at new j) (λ f. IsWanted plan (slice_set flags k true) j)
all_wanted plan image flags kept new k made has keeps sources own j =
    elim (cases_eq j k) [
      | inl at ↦ subst (λ (t : ℕ). IfSome (kept_at new t) (λ f. IsWanted plan (slice_set flags k true) t)) (sym at) own
      | inr other ↦
          kept_before (IsWanted plan flags j) (IsWanted plan (slice_set flags k true) j) (kept_at new j) (kept_at kept j)
          (subst (λ (o : Option Picture). IfSome (kept_at new j) (λ f. o ≡ Some f)) (put_there kept k j made other) (keeps.same j))
          (has.can.run.wanted j)
          (λ wanted. wanted_on plan flags k j (kept_at new j) wanted (λ reads. of_source (IsKeptWanted plan (slice_set flags k true) new) j (step_in plan k).sources reads sources))
    ]

pub advanced : (plan : Plan) (image : Picture) (flags told : List Bool) (kept held new : List (Option Picture)) (k : ℕ) (made : Product) → HasMade plan image flags kept k made
    → told ≡ slice_set flags k true → held ≡ put kept k made → KeepsRead plan told held new → AllByRecursion (IsKeptWanted plan told new) (step_in plan k).sources → IfSome (kept_at new k) (λ f. IsWanted plan told k)
    → HasRun plan image told new
advanced plan image flags told kept held new k made has is put_is keeps sources own =
    subst (λ (fs : List Bool). HasRun plan image fs new) (sym is)
    (go (subst (λ (fs : List Bool). KeepsRead plan fs (put kept k made) new) is (subst (λ (ps : List (Option Picture)). KeepsRead plan told ps new) put_is keeps))
    (subst (λ (fs : List Bool). AllByRecursion (IsKeptWanted plan fs new) (step_in plan k).sources) is sources)
    (subst (λ (fs : List Bool). IfSome (kept_at new k) (λ f. IsWanted plan fs k)) is own))
  where
    go : KeepsRead plan (slice_set flags k true) (put kept k made) new → AllByRecursion (IsKeptWanted plan (slice_set flags k true) new) (step_in plan k).sources → IfSome (kept_at new k) (λ f. IsWanted plan (slice_set flags k true) k)
        → HasRun plan image (slice_set flags k true) new
    go keeps sources own =
        let run = has.can.run in
        let wide : k < length flags = subst (λ (n : ℕ). k < n) (sym run.flags) has.can.within in
        record {
          flags = flag_size flags k ∙ run.flags;
          count = keeps.count ∙ put_size kept k made ∙ run.count;
          true_planes = λ j. true_still (plane_at plan image j) (kept_at new j) (kept_at (put kept k made) j) (keeps.same j) (put_true plan image flags kept k made has j);
          read = λ i lt unmade.
              keeps.read i lt unmade
              (put_read plan image flags kept k made (step_in plan i).sources has (has.can.runs.planes i) (run.read i lt (sym (flag_there flags k i (another flags k i wide unmade)) ∙ unmade)));
          wanted = all_wanted plan image flags kept new k made has keeps sources own;
        }

-- ---- one more number

numbers_more : (plan : Plan) (planes : List Picture) (k : ℕ) → k < length plan → length planes ≡ length plan
    → numbers_from (take (k + 1) plan) planes ≡ numbers_from (take k plan) planes ++ with_number (is_sum (step_in plan k).step) (sum (slice_index_or planes k no_picture).samples) []
numbers_more [] planes k lt size = absurd (omega arith)
numbers_more (s ∷ plan) [] k lt size = absurd (omega arith)
numbers_more (s ∷ plan) (f ∷ planes) zero lt size = refl
numbers_more (s ∷ plan) (f ∷ planes) (suc k) lt size =
    let next : suc k + 1 ≡ suc (k + 1) = omega arith in
    ap (λ (t : ℕ). numbers_from (take t (s ∷ plan)) (f ∷ planes)) next
    ∙ go (is_sum s.step) (numbers_from (take (k + 1) plan) planes) (numbers_from (take k plan) planes) (with_number (is_sum (step_in plan k).step) (sum (slice_index_or planes k no_picture).samples) []) (numbers_more plan planes k (omega arith) (omega arith))
  where
    go : (b : Bool) (ms ns os : List ℕ) → ms ≡ ns ++ os → with_number b (sum f.samples) ms ≡ with_number b (sum f.samples) ns ++ os
    go true ms ns os e = ap (λ (ts : List ℕ). sum f.samples ∷ ts) e
    go false ms ns os e = e

-- the number of a step, if it sums up
pub number_told : (s : Planned) (g : Picture) (made : Product) (n : Option ℕ) → n ≡ number_made made → IsProduct s.step g made → IsNumberOf s.step g n
number_told s g made n told is = subst (IsNumberOf s.step g) (sym told) (go made is)
  where
    go : (made : Product) → IsProduct s.step g made → IsNumberOf s.step g (number_made made)
    go (product.Plane f) is = is.0
    go (product.Number n) is = is

-- the numbers, once a step is made that makes none
pub numbers_on : (plan : Plan) (image : Picture) (k : ℕ) (numbers : List ℕ) → k < length plan → is_sum (step_in plan k).step ≡ false → numbers ≡ numbers_from (take k plan) (planes_on plan image)
    → numbers ≡ numbers_from (take (k + 1) plan) (planes_on plan image)
numbers_on plan image k numbers lt unsummed is =
    is ∙ sym (numbers_more plan (planes_on plan image) k lt (length-planes plan (image ∷ []) image.width image.height)
    ∙ ap (λ (b : Bool). numbers_from (take k plan) (planes_on plan image) ++ with_number b (sum (plane_at plan image k).samples) []) unsummed
    ∙ append-nil (numbers_from (take k plan) (planes_on plan image)))

pub one_number : (plan : Plan) (image : Picture) (k n : ℕ) (numbers : List ℕ) → k < length plan → IsNumberOf (step_in plan k).step (plane_at plan image k) (Some n) → numbers ≡ numbers_from (take k plan) (planes_on plan image)
    → numbers ++ n ∷ [] ≡ numbers_from (take (k + 1) plan) (planes_on plan image)
one_number plan image k n numbers lt one is =
    ap (λ (ns : List ℕ). ns ++ n ∷ []) is
    ∙ sym (numbers_more plan (planes_on plan image) k lt (length-planes plan (image ∷ []) image.width image.height)
    ∙ ap (λ (b : Bool). numbers_from (take k plan) (planes_on plan image) ++ with_number b (sum (plane_at plan image k).samples) []) one.0
    ∙ ap (λ (m : ℕ). numbers_from (take k plan) (planes_on plan image) ++ m ∷ []) (sym one.1))

-- ---- the last plane

pub last_sound : (plan : Plan) (image f : Picture) → IsRunnable plan image → IsImage image → f ≡ plane_at plan image (length plan - 1) → IsPicture f → FitsKind f.kind f.maxval → IsImage f
last_sound plan image f runs sound last picture maxval =
    let some = runs.some in
    let frame = plane_frame plan image (length plan - 1) runs (omega arith) in
    let wide : f.width ≡ image.width = ap (λ (g : Picture). g.width) last ∙ frame.width in
    let high : f.height ≡ image.height = ap (λ (g : Picture). g.height) last ∙ frame.height in
    record {
      picture = picture;
      maxval = maxval;
      width = subst (λ (n : ℕ). (1 ≤ n) × (n ≤ SIDE_LIMIT)) (sym wide) sound.width;
      height = subst (λ (n : ℕ). (1 ≤ n) × (n ≤ SIDE_LIMIT)) (sym high) sound.height;
      area = subst (λ (n : ℕ). n * f.width ≤ PIXEL_LIMIT) (sym high) (subst (λ (n : ℕ). image.height * n ≤ PIXEL_LIMIT) (sym wide) sound.area);
    }

-- ---- the first step, and how many are left

pub empty_more : (kept : List (Option Picture)) → IsEmpty kept → (j : ℕ) → kept_at (kept ++ None ∷ []) j ≡ None
empty_more [] empty zero = refl
empty_more [] empty (suc j) = refl
empty_more (x ∷ kept) empty zero = empty 0
empty_more (x ∷ kept) empty (suc j) = empty_more kept (λ i. empty (suc i)) j

pub none_made : (n j : ℕ) → flag (replicate n false) j ≡ false
none_made zero j = refl
none_made (suc n) zero = refl
none_made (suc n) (suc j) = none_made n j

pub none_count : (n : ℕ) → length (replicate n false) ≡ n
none_count zero = refl
none_count (suc n) = omega (arith, none_count n)

empty_some : (P : Picture → Type 0) (o : Option Picture) → o ≡ None → IfSome o P
empty_some P None is = tt
empty_some P (Some f) is = absurd cc

pub nothing_run : (plan : Plan) (image : Picture) (made : List Bool) (kept : List (Option Picture)) → length made ≡ length plan → length kept ≡ length plan → ((j : ℕ) → flag made j ≡ false) → IsEmpty kept → HasRun plan image made kept
nothing_run plan image made kept flags count unmade empty = record {
  flags = flags;
  count = count;
  true_planes = λ j. empty_some (λ f. f ≡ plane_at plan image j) (kept_at kept j) (empty j);
  read = λ i lt un. none (step_in plan i).sources;
  wanted = λ j. empty_some (λ f. IsWanted plan made j) (kept_at kept j) (empty j);
}
  where
    none : (ss : List Source) → AllByRecursion (IsThereIfMade made kept) ss
    none [] = tt
    none (FromInput i ∷ ss) = (tt, none ss)
    none (FromStep i ∷ ss) = (λ is. let no = unmade i in absurd cc, none ss)

-- step k is made, and before it none from k on was
pub none_later : (k : ℕ) (old provided new : List Bool) → ((i : ℕ) → k ≤ i → flag old i ≡ false) → ((i : ℕ) → k ≤ i → flag provided i ≡ flag old i) → new ≡ slice_set provided k true → (i : ℕ) → k + 1 ≤ i → flag new i ≡ false
none_later k old provided new unmade later is i le = ap (λ (flags : List Bool). flag flags i) is ∙ flag_there provided k i (λ e. omega (arith, e, le)) ∙ later i (omega (arith, le)) ∙ unmade i (omega (arith, le))

-- how many steps are not made
abbrev pub left : List Bool → ℕ
left [] = 0
left (true ∷ made) = left made
left (false ∷ made) = left made + 1

pub one_less : (made : List Bool) (k : ℕ) → k < length made → flag made k ≡ false → left (slice_set made k true) < left made
one_less [] k lt unmade = absurd (omega arith)
one_less (true ∷ made) zero lt unmade = absurd cc
one_less (false ∷ made) zero lt unmade = omega arith
one_less (true ∷ made) (suc k) lt unmade = one_less made k (omega arith) unmade
one_less (false ∷ made) (suc k) lt unmade = let less = one_less made k (omega arith) unmade in omega (arith, less)

-- ---- which step is next

below_made : (made : List Bool) (n : ℕ) (ss : List Source) → ((i : ℕ) → i < n → flag made i ≡ true) → AllByRecursion (IsSourceAt 1 n) ss → AllByRecursion (SourceIsMade made) ss
below_made made n [] all sources = tt
below_made made n (FromInput i ∷ ss) all sources = (tt, below_made made n ss all sources.1)
below_made made n (FromStep i ∷ ss) all sources = (all i sources.0, below_made made n ss all sources.1)

-- where no step can be made, all are
none_left : (plan : Plan) (made : List Bool) (k : ℕ) → HasSteps plan → ((i : ℕ) → CanBeNext plan made k i → ⊥) → (n i : ℕ) → n ≤ k → i < n → flag made i ≡ true
none_left plan made k steps none zero i le lt = absurd (omega arith)
none_left plan made k steps none (suc n) i le lt =
    let before : (j : ℕ) → j < n → flag made j ≡ true = λ j below. none_left plan made k steps none n j (omega arith) below in
    elim (cases_lt i n) [
      | inl below ↦ before i below
      | inr ge ↦
          let at : n ≡ i = omega arith in
          subst (λ (t : ℕ). flag made t ≡ true) at
          (true_from_ne_false (flag made n) (λ unmade. none n (record { before = omega arith; unmade = unmade; sources = below_made made n (step_in plan n).sources before (steps n) })))
    ]

pub sources_made : (plan : Plan) (made : List Bool) (k : ℕ) → HasSteps plan → ((i : ℕ) → CanBeNext plan made k i → ⊥) → AllByRecursion (SourceIsMade made) (step_in plan k).sources
sources_made plan made k steps none = below_made made k (step_in plan k).sources (λ i lt. none_left plan made k steps none k i (omega arith) lt) (steps k)
