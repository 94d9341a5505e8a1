-- Tasks by their numbers, and what is kept of them.
use Rattle.std.proofs.Common.{◌≡◌, ℕ, zero, suc, ◌+◌, ◌-◌, ◌*◌, ◌/◌, ◌<◌, ◌≤◌, List, [], ◌∷◌, ◌++◌, length, get_or, Option, None, sym, ap, ◌∙◌, subst, arith, length-append}
use Rattle.std.proofs.lemmas.List.{get_or_append_left, get_or-append_right}
use Rattle.std.proofs.lemmas.Nat.{div-mul-add, mod-mul-add, mul-add-lt, div-add-mod', div_below, mod_below}
use Rattle.mw_model.specs.declared.offsets.Rect.{Rect}
use Rattle.mw_model.specs.Rectangles.{tile_of, IsWithin}
use Rattle.mw_model.specs.Tasks.{Progress, task_count, step_number, tile_number, planned_of, tile_of_task, nothing_planned}
use Rattle.mw_grid.specs.Grids.{Tiling, tile_at, tile_count}
use Rattle.mw_grid.proofs.Tiles.{HasTiles, length-tiles_of, tile_of-tiles_of, tile_within}
use Rattle.mw_core_progress.specs.mw_tile_planes.Tiles.{Tiled, tile_cells}
use Rattle.mw_core_progress.specs.ProgressView.{IsFramed, ProgressView, IsWhole, cells_of_planes, no_plane, number_of, plane_at}

-- ---- what is kept of planes of one number of tiles

pub length-cells_of_planes : (planes : List Tiled) (d : Tiled) (n : ℕ) → ((k : ℕ) → length (get_or planes k d).tiles ≡ n) → length (cells_of_planes planes) ≡ length planes * n
length-cells_of_planes [] d n each = omega arith
length-cells_of_planes (p ∷ ps) d n each =
    let here : length p.tiles ≡ n = each 0 in
    let rest = length-cells_of_planes ps d n (λ k. each (suc k)) in
    omega (arith, length-append p.tiles (cells_of_planes ps), here, rest)

pub get_or-cells_of_planes : (planes : List Tiled) (d : Tiled) (n k i : ℕ) → ((j : ℕ) → length (get_or planes j d).tiles ≡ n) → k < length planes → i < n
    → get_or (cells_of_planes planes) (k * n + i) None ≡ get_or (get_or planes k d).tiles i None
get_or-cells_of_planes [] d n k i each lt inside = absurd (omega arith)
get_or-cells_of_planes (p ∷ ps) d n zero i each lt inside =
    let here : length p.tiles ≡ n = each 0 in
    ap (λ (j : ℕ). get_or (p.tiles ++ cells_of_planes ps) j None) (start n i) ∙ get_or_append_left p.tiles (cells_of_planes ps) None i (omega arith)
  where
    start : (n i : ℕ) → zero * n + i ≡ i
    start n i = omega arith
get_or-cells_of_planes (p ∷ ps) d n (suc k) i each lt inside =
    get_or-append_right p.tiles (cells_of_planes ps) n (suc k * n + i) None (each 0) (omega arith)
    ∙ ap (λ (j : ℕ). get_or (cells_of_planes ps) j None) (back n k i)
    ∙ get_or-cells_of_planes ps d n k i (λ j. each (suc j)) (omega arith) inside
  where
    back : (n k i : ℕ) → suc k * n + i - n ≡ k * n + i
    back n k i = omega arith

-- ---- numbers

pub has-tiles : (g : Tiling) → IsFramed g → HasTiles g
has-tiles g is = let wide = is.wide in let high = is.high in let least = is.least in record { wide = wide; high = high; some = omega arith }

pub length-tiles : (u : ProgressView) → IsWhole u → length u.progress.tiles ≡ tile_count u.tiling
length-tiles u whole = ap (λ (ts : List Rect). length ts) whole.tiles ∙ length-tiles_of u.tiling

pub task_count-whole : (u : ProgressView) → IsWhole u → task_count u.progress ≡ length u.progress.plan * tile_count u.tiling
task_count-whole u whole = ap (λ (n : ℕ). length u.progress.plan * n) (length-tiles u whole)

pub some-tiles : (g : Tiling) → 1 ≤ tile_count g
some-tiles g = more ((g.height - 1) / g.side) ((g.width - 1) / g.side)
  where
    more : (x y : ℕ) → 1 ≤ (x + 1) * (y + 1)
    more x y = grind arith

-- the step and the tile of a number
pub step_number-number_of : (p : Progress) (step tile : ℕ) → tile < length p.tiles → step_number p (number_of p step tile) ≡ step
step_number-number_of p step tile inside = div-mul-add step (length p.tiles) tile inside

pub tile_number-number_of : (p : Progress) (step tile : ℕ) → tile < length p.tiles → tile_number p (number_of p step tile) ≡ tile
tile_number-number_of p step tile inside = mod-mul-add step (length p.tiles) tile inside

pub number_of-within : (p : Progress) (step tile : ℕ) → step < length p.plan → tile < length p.tiles → number_of p step tile < task_count p
number_of-within p step tile within inside = omega (arith, mul-add-lt step (length p.tiles) tile (length p.plan) within inside)

pub number_of-numbers : (p : Progress) (n : ℕ) → number_of p (step_number p n) (tile_number p n) ≡ n
number_of-numbers p n = div-add-mod' n (length p.tiles)

pub step_number-within : (p : Progress) (n : ℕ) → 1 ≤ length p.tiles → n < task_count p → step_number p n < length p.plan
step_number-within p n some within = div_below n (length p.tiles) (length p.plan) some within

pub tile_number-within : (p : Progress) (n : ℕ) → 1 ≤ length p.tiles → tile_number p n < length p.tiles
tile_number-within p n some = mod_below n (length p.tiles) some

pub some-whole : (u : ProgressView) → IsWhole u → 1 ≤ length u.progress.tiles
some-whole u whole = omega (arith, length-tiles u whole, some-tiles u.tiling)

-- ---- the step and the tile of a task

pub planned_of-number_of : (p : Progress) (step tile : ℕ) → tile < length p.tiles → planned_of p (number_of p step tile) ≡ get_or p.plan step nothing_planned
planned_of-number_of p step tile inside = ap (λ (k : ℕ). get_or p.plan k nothing_planned) (step_number-number_of p step tile inside)

pub tile_of_task-whole : (u : ProgressView) (n : ℕ) → IsWhole u → tile_of_task u.progress n ≡ tile_at u.tiling (tile_number u.progress n)
tile_of_task-whole u n whole =
    let inside = tile_number-within u.progress n (some-whole u whole) in
    ap (λ (ts : List Rect). tile_of ts (tile_number u.progress n)) whole.tiles
    ∙ tile_of-tiles_of u.tiling (tile_number u.progress n) (omega (arith, inside, length-tiles u whole))

pub tile_of_task-number_of : (u : ProgressView) (step tile : ℕ) → IsWhole u → tile < tile_count u.tiling → tile_of_task u.progress (number_of u.progress step tile) ≡ tile_at u.tiling tile
tile_of_task-number_of u step tile whole inside =
    tile_of_task-whole u (number_of u.progress step tile) whole
    ∙ ap (tile_at u.tiling) (tile_number-number_of u.progress step tile (omega (arith, inside, length-tiles u whole)))

pub tile_of_task-within : (u : ProgressView) (n : ℕ) → IsWhole u → IsWithin (tile_of_task u.progress n) u.tiling.width u.tiling.height
tile_of_task-within u n whole =
    let inside = tile_number-within u.progress n (some-whole u whole) in
    subst (λ (r : Rect). IsWithin r u.tiling.width u.tiling.height) (sym (tile_of_task-whole u n whole))
    (tile_within u.tiling (tile_number u.progress n) (has-tiles u.tiling whole.tiling) (omega (arith, inside, length-tiles u whole)))

-- ---- what is kept of a task

pub length-placed : (u : ProgressView) → IsWhole u → length u.progress.placed ≡ task_count u.progress
length-placed u whole =
    ap (λ (cs : List (Option (List ℕ))). length cs) whole.placed
    ∙ length-cells_of_planes u.planes (no_plane u.tiling) (tile_count u.tiling) whole.counts
    ∙ ap (λ (n : ℕ). n * tile_count u.tiling) whole.planes
    ∙ sym (task_count-whole u whole)

-- it is the tile of its step's plane
pub placed-number_of : (u : ProgressView) (step tile : ℕ) → IsWhole u → step < length u.progress.plan → tile < tile_count u.tiling
    → get_or u.progress.placed (number_of u.progress step tile) None ≡ tile_cells (plane_at u step).tiles tile
placed-number_of u step tile whole within inside =
    ap (λ (cs : List (Option (List ℕ))). get_or cs (number_of u.progress step tile) None) whole.placed
    ∙ ap (λ (n : ℕ). get_or (cells_of_planes u.planes) (step * n + tile) None) (length-tiles u whole)
    ∙ get_or-cells_of_planes u.planes (no_plane u.tiling) (tile_count u.tiling) step tile whole.counts (omega (arith, within, whole.planes)) inside
