-- What is kept of the steps is part of their true planes.
use Rattle.std.proofs.Common.{◌≡◌, ℕ, zero, suc, ◌<◌, false, List, [], ◌∷◌, length, map, get_or, refl, sym, ap, ◌∙◌, subst, arith}
use Rattle.mw_model.specs.Pictures.{Picture}
use Rattle.mw_model.specs.Plans.{Planned, images_of, is_sum, no_picture, plane_of, plane_of_source, planes}
use Rattle.mw_model.specs.Tasks.{Progress, nothing_planned, tile_of_task, made_of_planes}
use Rattle.mw_model.specs.Machine.{Machine}
use Rattle.mw_model.specs.Stands.{input_values, true_planes}
use Rattle.mw_grid.specs.Grids.{Tiling, tile_at, tile_count}
use Rattle.mw_core_progress.specs.mw_tile_planes.Tiles.{AreMade, IsPlaneOf, Tiled}
use Rattle.mw_core_progress.proofs.mw_tile_planes.Made.{plane_is_made}
use Rattle.mw_core_progress.proofs.mw_plan.Planes.{length-planes, plane_is}
use Rattle.mw_core_progress.specs.mw_core_planes.Levels.{Level, level_of, levels, no_level, level_of_plane}
use Rattle.mw_core_progress.specs.ProgressView.{ProgressView, IsWhole, number_of, plane_at, no_plane}
use Rattle.mw_core_laws.specs.Works.{KeepsTrue, IsTrueWork, true_sources}
use Rattle.mw_core_laws.proofs.Leveled.{get_or-map-level_of, levels-planes}
use Rattle.mw_core_laws.proofs.Numbers.{has-tiles, length-tiles, placed-number_of, planned_of-number_of, tile_of_task-number_of}

-- ---- the true planes of a plan

pub length-true_planes : (m : Machine) (t : ℕ) (p : Progress) → length (true_planes m t p) ≡ length p.plan
length-true_planes m t p = length-planes p.plan (images_of (input_values m t)) p.width p.height

-- the true plane of a step is what it makes of the true planes that it reads
pub true_plane-is : (m : Machine) (t : ℕ) (p : Progress) (k : ℕ) → KeepsTrue m t p → k < length p.plan
    → get_or (true_planes m t p) k no_picture ≡ plane_of (get_or p.plan k nothing_planned).step (true_sources m t p k) p.width p.height
true_plane-is m t p k keeps within = plane_is p.plan (images_of (input_values m t)) p.width p.height k (length (images_of (input_values m t))) within (keeps.sources k)

-- ---- the level of what is kept

get_or-levels : (planes : List Tiled) (d : Tiled) (l : Level) (k : ℕ) → k < length planes → level_of_plane (get_or planes k d) ≡ get_or (map level_of_plane planes) k l
get_or-levels [] d l k within = absurd (omega arith)
get_or-levels (p ∷ ps) d l zero within = refl
get_or-levels (p ∷ ps) d l (suc k) within = get_or-levels ps d l k (omega arith)

pub plane_at-level : (u : ProgressView) (k : ℕ) → IsWhole u → k < length u.progress.plan → level_of_plane (plane_at u k) ≡ get_or (levels u.progress.plan u.input) k no_level
plane_at-level u k whole within =
    get_or-levels u.planes (no_plane u.tiling) no_level k (omega (arith, within, whole.planes)) ∙ ap (λ (ls : List Level). get_or ls k no_level) whole.levels

-- it is the level of the true plane
pub plane_at-true_level : (m : Machine) (t : ℕ) (u : ProgressView) (k : ℕ) → IsTrueWork m t u → k < length u.progress.plan
    → level_of_plane (plane_at u k) ≡ level_of (get_or (true_planes m t u.progress) k no_picture)
plane_at-true_level m t u k w within =
    let p = u.progress in
    let whole = w.whole in
    let planned = w.planned in
    plane_at-level u k whole within
    ∙ ap (λ (l : Level). get_or (levels p.plan l) k no_level) planned.input
    ∙ ap (λ (ls : List Level). get_or ls k no_level) (levels-planes p.plan planned.image p.width p.height whole.workable.sources)
    ∙ get_or-map-level_of (planes p.plan (planned.image ∷ []) p.width p.height) k
    ∙ ap (λ (fs : List Picture). level_of (get_or (planes p.plan fs p.width p.height) k no_picture)) (sym planned.images)

-- ---- what is kept is true

-- a tile of a step that is kept is what the step makes there of the true planes
pub tile-made : (m : Machine) (t : ℕ) (u : ProgressView) (k : ℕ) → IsTrueWork m t u → k < length u.progress.plan
    → AreMade (get_or u.progress.plan k nothing_planned).step (true_sources m t u.progress k) (plane_at u k)
tile-made m t u k w within i cells below found =
    let p = u.progress in
    let whole = w.whole in
    let n = number_of p k i in
    let images = images_of (input_values m t) in
    let inside : i < tile_count u.tiling = subst (λ (g : Tiling). i < tile_count g) (whole.tilings k) below in
    let counted : i < length p.tiles = omega (arith, inside, length-tiles u whole) in
    w.keeps.placed n cells (placed-number_of u k i whole within inside ∙ found)
    ∙ ap (λ (s : Planned). made_of_planes s.step (map (plane_of_source images (true_planes m t p)) s.sources) (tile_of_task p n)) (planned_of-number_of p k i counted)
    ∙ ap (made_of_planes (get_or p.plan k nothing_planned).step (true_sources m t p k)) (tile_of_task-number_of u k i whole inside ∙ ap (λ (g : Tiling). tile_at g i) (sym (whole.tilings k)))

-- what is kept of a step that makes a plane is part of its true plane
pub plane-true : (m : Machine) (t : ℕ) (u : ProgressView) (k : ℕ) → IsTrueWork m t u → k < length u.progress.plan
    → is_sum (get_or u.progress.plan k nothing_planned).step ≡ false → IsPlaneOf (plane_at u k) (get_or (true_planes m t u.progress) k no_picture)
plane-true m t u k w within no_sum =
    let p = u.progress in
    let whole = w.whole in
    let g = u.tiling in
    let s = (get_or p.plan k nothing_planned).step in
    let sources = true_sources m t p k in
    let sides : plane_of s sources p.width p.height ≡ plane_of s sources g.width g.height
    = ap (λ (w : ℕ). plane_of s sources w p.height) whole.width ∙ ap (λ (h : ℕ). plane_of s sources g.width h) whole.height in
    let is : get_or (true_planes m t p) k no_picture ≡ plane_of s sources g.width g.height = true_plane-is m t p k w.keeps within ∙ sides in
    let level : level_of_plane (plane_at u k) ≡ level_of (plane_of s sources g.width g.height) = plane_at-true_level m t u k w within ∙ ap level_of is in
    subst (λ (f : Picture). IsPlaneOf (plane_at u k) f) (sym is)
    (plane_is_made g (plane_at u k) s sources (has-tiles g whole.tiling) (whole.tilings k) no_sum (ap (λ (l : Level). l.kind) (sym level)) (ap (λ (l : Level). l.maxval) (sym level)) (tile-made m t u k w within))
