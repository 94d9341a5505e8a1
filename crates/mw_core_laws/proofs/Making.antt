-- What a true task makes fits its step and its tile, and has the cells of the definitions.
use Rattle.std.proofs.Common.{◌≡◌, ℕ, ◌+◌, ◌*◌, ◌<◌, ◌≤◌, ◌^◌, Bool, true, false, List, [], ◌∷◌, length, get_or, refl, sym, ap, ◌∙◌, subst, arith}
use Rattle.std.specs.Prelude.{sum, All}
use Rattle.std.specs.List.{AllByRecursion}
use Rattle.std.proofs.lemmas.Nat.{mul-le}
use Rattle.std.proofs.lemmas.List.{length-map}
use Rattle.std.proofs.lemmas.List.Sums.{sum_by-le}
use Rattle.std.proofs.lemmas.Grind.{get_or_default_zero}
use Rattle.mw_model.proofs.mw_facts.Alls.{all-get_or}
use Rattle.mw_model.specs.declared.offsets.Rect.{Rect}
use Rattle.mw_model.specs.declared.shapes.Kind.{Kind}
use Rattle.mw_model.specs.declared.shapes.Kind.TheVariants as kind
use Rattle.mw_model.specs.Pictures.{Picture, FitsKind}
use Rattle.mw_model.specs.PlanSteps.{PlanStep, Erode, Dilate, ErodeBox, DilateBox, Rank, Minus, AtLeast, Invert, Meet, Join, Blank, Mark, MarkLast, Equal, Sum, here, kind_of_step, maxval_of_step}
use Rattle.mw_model.specs.Windows.{seen_at}
use Rattle.mw_model.specs.Plans.{images_of, is_sum, plane_of}
use Rattle.mw_model.specs.Tasks.{is_running, cells_in, nothing_planned, task_count, planned_of, place_of_task, sources_of, step_number, tile_number}
use Rattle.mw_model.specs.Machine.{Machine}
use Rattle.mw_model.specs.Stands.{input_values, true_planes, true_cells}
use Rattle.mw_grid.specs.Grids.{Tiling, tile_at, tile_count}
use Rattle.mw_core_progress.specs.mw_step_task.declared.tile_result.TileResult.{TileResult}
use Rattle.mw_core_progress.specs.mw_step_task.declared.tile_result.TileResult.TheVariants as made
use Rattle.mw_core_progress.specs.mw_step_task.Products.{HoldsImage, IsMade}
use Rattle.mw_core_progress.specs.mw_step_task.WindowTasks.{WindowTask, IsBounded, KindsFit, made_of_windows, tile_made, window_at}
use Rattle.mw_core_progress.proofs.mw_step_task.Bounded.{here_below, window_below, window_bounded, made_below}
use Rattle.mw_core_progress.proofs.mw_step_task.Cut.{made_of_cut}
use Rattle.mw_core_progress.proofs.mw_tile_pieces.TileCells.{cells_in_all, length-cells_in}
use Rattle.mw_core_progress.specs.mw_core_planes.Levels.{Level, IsLevel, level_of, levels, no_level, level_of_plane}
use Rattle.mw_core_progress.specs.mw_core_planes.MadeTiles.{IsSmallNumber, cells_of_made, image_of_made}
use Rattle.mw_core_progress.specs.ProgressView.{ProgressView, IsFinished, IsWhole, ResultFits, plane_at}
use Rattle.mw_core_laws.specs.Works.{Finishes, IsTrueWork, true_sources, true_task}
use Rattle.mw_core_laws.proofs.Numbers.{length-tiles, some-whole, step_number-within, tile_number-within, tile_of_task-whole}
use Rattle.mw_core_laws.proofs.Pictured.{true_task-bounded}
use Rattle.mw_core_laws.proofs.Truth.{plane_at-level, plane_at-true_level, true_plane-is}
use Rattle.mw_core_laws.proofs.Windows.{level-window, true_task-cut, true_task-fits}

-- ---- the cells

made-cells : (d : WindowTask) (x : TileResult) → IsMade d x → cells_of_made x ≡ made_of_windows d.step d.windows d.rect
made-cells d (made.Bits p) is = sym (ap (λ (f : Picture). f.samples) is.1)
made-cells d (made.Grey8 p maxval) is = sym (ap (λ (f : Picture). f.samples) is.1.0)
made-cells d (made.Grey16 p maxval) is = sym (ap (λ (f : Picture). f.samples) is.1.0)
made-cells d (made.Number n) is = sym is.1

-- what a true task makes are the cells of the definitions
pub made-true : (m : Machine) (t : ℕ) (u : ProgressView) (n : ℕ) (x : TileResult) → IsTrueWork m t u → n < task_count u.progress → IsMade (true_task m t u.progress n) x → cells_of_made x ≡ true_cells m t u.progress n
made-true m t u n x w within is =
    let p = u.progress in
    let d = true_task m t p n in
    made-cells d x is
    ∙ made_of_cut d.step (sources_of p (images_of (input_values m t)) (true_planes m t p) n) p.width p.height d.rect d.windows (true_task-cut m t u n w within)

-- ---- the image

image-made : (d : WindowTask) (x : TileResult) → is_sum d.step ≡ false → IsMade d x → (tile_made d ≡ image_of_made x) × HoldsImage (image_of_made x) x
image-made d (made.Bits p) plane is = (is.1, refl)
image-made d (made.Grey8 p maxval) plane is = (is.1.0, (refl, is.1.1))
image-made d (made.Grey16 p maxval) plane is = (is.1.0, (refl, is.1.1))
image-made d (made.Number n) plane is = let number = is.0 in absurd cc

-- the level of what a true task makes is that of its step's plane
level-made : (m : Machine) (t : ℕ) (u : ProgressView) (n : ℕ) → IsTrueWork m t u → n < task_count u.progress
    → level_of (tile_made (true_task m t u.progress n)) ≡ level_of_plane (plane_at u (step_number u.progress n))
level-made m t u n w within =
    let p = u.progress in
    let k = step_number p n in
    let s = (planned_of p n).step in
    let before = step_number-within p n (some-whole u w.whole) within in
    let first = level-window (place_of_task p n) (true_sources m t p k) 0 in
    let made : level_of (tile_made (true_task m t p n)) ≡ level_of (plane_of s (true_sources m t p k) p.width p.height)
    = λ i. record { kind = kind_of_step s (first i).kind; maxval = maxval_of_step s (first i).maxval } in
    made ∙ sym (ap level_of (true_plane-is m t p k w.keeps before)) ∙ sym (plane_at-true_level m t u k w before)

-- ---- the number

pub sum-is : (s : PlanStep) → is_sum s ≡ true → s ≡ Sum
sum-is (Erode e) h = absurd cc
sum-is (Dilate e) h = absurd cc
sum-is (ErodeBox b) h = absurd cc
sum-is (DilateBox b) h = absurd cc
sum-is (Rank e k) h = absurd cc
sum-is Minus h = absurd cc
sum-is (AtLeast k) h = absurd cc
sum-is Invert h = absurd cc
sum-is Meet h = absurd cc
sum-is Join h = absurd cc
sum-is (Blank m) h = absurd cc
sum-is (Mark v) h = absurd cc
sum-is (MarkLast v) h = absurd cc
sum-is (Equal v) h = absurd cc
sum-is Sum h = refl

-- a sum of samples that are not over the maxval
sum-below : (r : Rect) (top : ℕ) (value : ℕ → ℕ → ℕ) → ((i j : ℕ) → i < r.width → j < r.height → value (r.x + i) (r.y + j) ≤ top) → sum (cells_in r value) ≤ r.height * r.width * top
sum-below r top value each =
    let cells = cells_in r value in
    let P : ℕ → Type 0 = λ n. n ≤ top in
    let all : All (λ n. n ≤ top) cells
    = λ k d lt. subst P (sym (get_or_default_zero cells k d lt)) (cells_in_all P r value each k (omega (arith, length-cells_in r value))) in
    let long = length-cells_in r value in
    subst (λ (n : ℕ). sum cells ≤ n * top) long (sum_by-le (λ x. x) top cells all)

-- what a Sum step makes of bounded windows
number-below : (d : WindowTask) (n : ℕ) → is_sum d.step ≡ true → AllByRecursion IsBounded d.windows → made_of_windows d.step d.windows d.rect ≡ n ∷ [] → n ≤ d.rect.height * d.rect.width * (window_at d.windows 0).maxval
number-below d n sums bounded is =
    let w = window_at d.windows 0 in
    let value : ℕ → ℕ → ℕ = λ x y. here (seen_at w.view) x y in
    let same : sum (cells_in d.rect value) ∷ [] ≡ n ∷ []
    = sym (ap (λ (s : PlanStep). made_of_windows s d.windows d.rect) (sum-is d.step sums)) ∙ is in
    let total : sum (cells_in d.rect value) ≡ n = cc in
    subst (λ (x : ℕ). x ≤ d.rect.height * d.rect.width * w.maxval) total
    (sum-below d.rect w.maxval value (λ i j across down. here_below w.maxval (seen_at w.view) (d.rect.x + i) (d.rect.y + j) (window_below w (window_bounded d.windows 0 bounded))))

-- a plane has a level of two bytes
level-small : (l : Level) → IsLevel l → l.maxval ≤ 65535
level-small l is = go l.kind l.maxval is
  where
    go : (k : Kind) (m : ℕ) → FitsKind k m → m ≤ 65535
    go kind.Bit m h = omega arith
    go kind.Grey m h = h.1

level-at : (u : ProgressView) (k : ℕ) → IsWhole u → k < length u.progress.plan → IsLevel (level_of_plane (plane_at u k))
level-at u k whole within =
    let p = u.progress in
    let long : length u.planes ≡ length (levels p.plan u.input) = sym (length-map u.planes level_of_plane) ∙ ap (λ (ls : List Level). length ls) whole.levels in
    subst IsLevel (sym (plane_at-level u k whole within)) (all-get_or IsLevel (levels p.plan u.input) k no_level (omega (arith, long, whole.planes)) whole.workable.levels)

small : (h w m : ℕ) → h ≤ 1024 → w ≤ 1024 → m ≤ 65535 → h * w * m < 2 ^ 40
small h w m high wide top =
    let area : h * w ≤ 1024 * 1024 = mul-le h w 1024 1024 high wide in
    omega (arith, mul-le (h * w) m (1024 * 1024) 65535 area top)

-- The task is one of this step and tile of the work, on bounded windows of which the step makes what is of the level of its plane.
pub record IsTaskAt (u : ProgressView) (step tile : ℕ) (d : WindowTask) : Type 0 where
  pub within : step < length u.progress.plan
  pub inside : tile < tile_count u.tiling
  pub same : d.step ≡ (get_or u.progress.plan step nothing_planned).step
  pub rect : d.rect ≡ tile_at u.tiling tile
  pub level : level_of (tile_made d) ≡ level_of_plane (plane_at u step)
  pub kinds : KindsFit d.step d.windows
  pub bounded : AllByRecursion IsBounded d.windows

-- the number that such a task of a Sum step makes is small
number-made : (u : ProgressView) (step tile : ℕ) (d : WindowTask) (x : TileResult) → IsWhole u → IsTaskAt u step tile d → is_sum d.step ≡ true → IsMade d x → IsSmallNumber x
number-made u step tile d (made.Bits p) whole at sums is = let plane = is.0 in absurd cc
number-made u step tile d (made.Grey8 p maxval) whole at sums is = let plane = is.0 in absurd cc
number-made u step tile d (made.Grey16 p maxval) whole at sums is = let plane = is.0 in absurd cc
number-made u step tile d (made.Number found) whole at sums is =
    let g = u.tiling in
    let level : maxval_of_step d.step (window_at d.windows 0).maxval ≡ (plane_at u step).maxval = ap (λ (l : Level). l.maxval) at.level in
    let first : (window_at d.windows 0).maxval ≡ (plane_at u step).maxval = sym (ap (λ (s : PlanStep). maxval_of_step s (window_at d.windows 0).maxval) (sum-is d.step sums)) ∙ level in
    let top : (plane_at u step).maxval ≤ 65535 = level-small (level_of_plane (plane_at u step)) (level-at u step whole at.within) in
    let most = whole.tiling.most in
    let sides : ((tile_at g tile).height ≤ 1024) × ((tile_at g tile).width ≤ 1024) = (omega arith, omega arith) in
    let fits = subst (λ (r : Rect). (r.height ≤ 1024) × (r.width ≤ 1024)) (sym at.rect) sides in
    let high = number-below d found sums at.bounded is.1 in
    record { number = found; is = refl; small = omega (arith, high, small d.rect.height d.rect.width (window_at d.windows 0).maxval fits.0 fits.1 (omega arith)) }

-- ---- what was made fits

-- what a task of a step and tile makes fits them, whatever its windows show
pub fits-made : (u : ProgressView) (step tile : ℕ) (d : WindowTask) (x : TileResult) → IsWhole u → IsTaskAt u step tile d → IsMade d x → ResultFits u step tile x
fits-made u step tile d x whole at is =
    let Sums : PlanStep → Bool → Type 0 = λ s b. is_sum s ≡ b in
    record {
      within = at.within;
      inside = at.inside;
      number = λ sums. number-made u step tile d x whole at (subst (λ (s : PlanStep). Sums s true) (sym at.same) sums) is;
      image = λ plane.
          let no_sum = subst (λ (s : PlanStep). Sums s false) (sym at.same) plane in
          let image = image-made d x no_sum is in
          let place : d.rect ≡ tile_at (plane_at u step).tiling tile = at.rect ∙ ap (λ (g : Tiling). tile_at g tile) (sym (whole.tilings step)) in
          record {
            held = image.1;
            bounded = subst (λ (f : Picture). All (λ n. n ≤ f.maxval) f.samples) image.0 (made_below d at.kinds at.bounded no_sum);
            kind = sym (ap (λ (f : Picture). f.kind) image.0) ∙ ap (λ (l : Level). l.kind) at.level;
            maxval = sym (ap (λ (f : Picture). f.maxval) image.0) ∙ ap (λ (l : Level). l.maxval) at.level;
            width = sym (ap (λ (f : Picture). f.width) image.0) ∙ ap (λ (r : Rect). r.width) place;
            height = sym (ap (λ (f : Picture). f.height) image.0) ∙ ap (λ (r : Rect). r.height) place;
          };
    }

-- so does what a true task makes
pub made-fits : (m : Machine) (t : ℕ) (u : ProgressView) (n : ℕ) (x : TileResult) → IsTrueWork m t u → n < task_count u.progress → IsMade (true_task m t u.progress n) x
    → ResultFits u (step_number u.progress n) (tile_number u.progress n) x
made-fits m t u n x w within is =
    let p = u.progress in
    let d = true_task m t p n in
    let some = some-whole u w.whole in
    let at : IsTaskAt u (step_number p n) (tile_number p n) d = record {
      within = step_number-within p n some within;
      inside = omega (arith, tile_number-within p n some, length-tiles u w.whole);
      same = refl;
      rect = tile_of_task-whole u n w.whole;
      level = level-made m t u n w within;
      kinds = (true_task-fits m t u n w within).kinds;
      bounded = true_task-bounded m t u n w within;
    } in
    fits-made u (step_number p n) (tile_number p n) d x w.whole at is

-- ---- events

-- a running task that made what it makes by its windows is finished as the definitions have it
pub finishes-made : (m : Machine) (t : ℕ) (old new : ProgressView) (n : ℕ) (x : TileResult) → IsTrueWork m t old → n < task_count old.progress → is_running old.progress n ≡ true → IsMade (true_task m t old.progress n) x
    → IsFinished old new n (cells_of_made x) → IsWhole new → Finishes m t old new n
finishes-made m t old new n x w within running is finished whole =
    record { cells = cells_of_made x; is = made-true m t old n x w within is; finished = finished; within = within; running = running; whole = whole }
