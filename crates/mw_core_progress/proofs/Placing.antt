-- What was made is placed in the place of its step.
use Rattle.std.proofs.Common.{◌≡◌, ℕ, ◌+◌, ◌*◌, ◌<◌, ◌≤◌, Bool, true, false, not, cond, List, length, get_or, Option, Some, None, refl, sym, ap, subst, ◌∙◌, arith}
use Rattle.std.specs.Prelude.{IsSome}
use Rattle.std.specs.List.{AllByRecursion}
use Rattle.std.proofs.lemmas.Bool.{and_parts, not-true, both_ways}
use Rattle.std.proofs.lemmas.List.{length-map}
use Rattle.mw_model.specs.Plans.{Plan, is_sum}
use Rattle.mw_model.specs.Tasks.{flag, is_running, nothing_planned}
use Rattle.mw_grid.specs.Grids.{Tiling, tile_count, tile_at, tiles_of}
use Rattle.mw_grid.proofs.Lines.{number_of as number_of_cell}
use Rattle.mw_grid.proofs.Tiles.{length-tiles_of}
use Rattle.mw_core_planes.specs.mw_ready.Boards.{Turns}
use Rattle.mw_core_planes.specs.mw_step_task.declared.tile_result.TileResult.{TileResult}
use Rattle.mw_core_planes.specs.mw_tile_planes.Tiles.{Tiled, tile_cells}
use Rattle.mw_core_planes.specs.Levels.{Level}
use Rattle.mw_core_planes.specs.MadeTiles.{IsTileFor, IsSmallNumber}
use Rattle.mw_core_planes.specs.StepPlanes.{shown, form, IsFormOf, Suits, place_at, planes_shown, Swept, SweptAll}
use Rattle.mw_core_planes.specs.declared.step_planes.StepPlane.{StepPlane}
use Rattle.mw_core_planes.specs.declared.step_planes.StepPlane.TheVariants.{Closed, Plane, Sums}
use Rattle.mw_core_progress.specs.ProgressView.{IsWhole, ResultFits, no_plane, number_of}
use Rattle.mw_core_progress.specs.Parts.{underway, underway_kept, IsPlaced}
use Rattle.mw_core_progress.proofs.Cells.{HasCount, all_counted, cells_at}
use Rattle.mw_core_progress.proofs.Opened.{shown_at}

none_of : (o : Option (List ℕ)) → (IsSome o → ⊥) → o ≡ None
none_of None h = refl
none_of (Some x) h = absurd (h refl)

-- nothing is kept of a task that is not finished
pub not_placed : (plan : Plan) (input : Level) (g : Tiling) (started finished : List Bool) (planes : List Tiled) (order : List ℕ) (step tile : ℕ) → IsWhole (underway plan input g started finished planes order)
    → step < length plan → tile < tile_count g → flag finished (step * tile_count g + tile) ≡ false → get_or (get_or planes step (no_plane g)).tiles tile None ≡ None
not_placed plan input g started finished planes order step tile whole within inside unfinished =
    let m = tile_count g in
    let n = step * m + tile in
    let all : AllByRecursion (HasCount m) planes = all_counted planes m (no_plane g) whole.counts in
    let lt : step < length planes = (let e = whole.planes in omega arith) in
    let n-lt : n < length plan * length (tiles_of g) = subst (λ (c : ℕ). n < length plan * c) (sym (length-tiles_of g)) (number_of_cell (length plan) m tile step inside within) in
    none_of (get_or (get_or planes step (no_plane g)).tiles tile None) (λ some.
    both_ways (flag finished n) unfinished ((whole.needed n n-lt).0 (subst (λ (o : Option (List ℕ)). IsSome o) (sym (cells_at planes m step tile (no_plane g) all lt inside)) some)).0)

-- a task that runs was started, and is not finished
pub runs_at : (plan : Plan) (input : Level) (g : Tiling) (started finished : List Bool) (planes : List Tiled) (order : List ℕ) (step tile : ℕ)
    → is_running (underway plan input g started finished planes order).progress (number_of (underway plan input g started finished planes order).progress step tile) ≡ true
    → (flag started (step * tile_count g + tile) ≡ true) × (flag finished (step * tile_count g + tile) ≡ false)
runs_at plan input g started finished planes order step tile running =
    let n = step * tile_count g + tile in
    let p = (underway plan input g started finished planes order).progress in
    let here : is_running p n ≡ true = ap (λ (m : ℕ). is_running p (step * m + tile)) (sym (length-tiles_of g)) ∙ running in
    let parts = and_parts (flag started n) (not (flag finished n)) here in
    (parts.0, not-true (flag finished n) parts.1)

pub form_most : (place : StepPlane) → form place ≤ 2
form_most (Closed l) = omega arith
form_most (Plane p) = omega arith
form_most (Sums p) = omega arith

pub is_plane : (n : ℕ) (b : Bool) → b ≡ false → IsFormOf b n → 1 ≤ n → n ≤ 2 → n ≡ 1
is_plane n true e suits one two = absurd (let f : true ≡ false = e in cc)
is_plane n false e suits one two = omega (arith, suits)

is_sums : (n : ℕ) (b : Bool) → b ≡ true → IsFormOf b n → 1 ≤ n → n ≤ 2 → n ≡ 2
is_sums n true e suits one two = omega (arith, suits)
is_sums n false e suits one two = absurd (let f : false ≡ true = e in cc)

suits_plane : (g : Tiling) (place : StepPlane) (old : Tiled) (tile : ℕ) (m : TileResult) (gone : ℕ → Bool) → form place ≡ 1 → Swept gone old (shown g place) → IsTileFor old tile m → Suits g place tile m
suits_plane g (Closed l) old tile m gone e s t = absurd (omega arith)
suits_plane g (Plane p) old tile m gone e s t = record {
  held = t.held;
  bounded = t.bounded;
  kind = t.kind ∙ sym s.kind;
  maxval = t.maxval ∙ sym s.maxval;
  width = t.width ∙ ap (λ (q : Tiling). (tile_at q tile).width) (sym s.tiling);
  height = t.height ∙ ap (λ (q : Tiling). (tile_at q tile).height) (sym s.tiling);
}
suits_plane g (Sums p) old tile m gone e s t = absurd (omega arith)

suits_sums : (g : Tiling) (place : StepPlane) (tile : ℕ) (m : TileResult) → form place ≡ 2 → IsSmallNumber m → Suits g place tile m
suits_sums g (Closed l) tile m e s = absurd (omega arith)
suits_sums g (Plane p) tile m e s = absurd (omega arith)
suits_sums g (Sums p) tile m e s = s

-- what is to be placed, once what nobody reads was dropped
pub record Putting (plan : Plan) (input : Level) (g : Tiling) (turns : Turns) (places swept : List StepPlane) (step tile : ℕ) (m : TileResult) : Type 0 where
  pub gone : ℕ → ℕ → Bool
  pub running : is_running (underway_kept plan input g turns places).progress (number_of (underway_kept plan input g turns places).progress step tile) ≡ true
  pub fits : ResultFits (underway_kept plan input g turns places) step tile m
  pub sweeps : SweptAll g gone places swept

cond_of : (b : Bool) (o : Option (List ℕ)) → o ≡ None → cond b None o ≡ None
cond_of true o e = refl
cond_of false o e = e

pub record Ready (g : Tiling) (place : StepPlane) (tile : ℕ) (m : TileResult) : Type 0 where
  pub tiling : (shown g place).tiling ≡ g
  pub free : tile_cells (shown g place).tiles tile ≡ None
  pub suits : Suits g place tile m

pub put_ready : (plan : Plan) (input : Level) (g : Tiling) (turns : Turns) (places swept : List StepPlane) (step tile : ℕ) (m : TileResult) → IsWhole (underway_kept plan input g turns places) → IsPlaced plan g turns.board.started places
    → Putting plan input g turns places swept step tile m → Ready g (place_at swept step) tile m
put_ready plan input g turns places swept step tile m whole placed p =
    let b = turns.board in
    let planes = planes_shown g places in
    let fits = p.fits in
    let runs = runs_at plan input g b.started b.finished planes turns.order step tile p.running in
    let lt : step < length places = (let e : length planes ≡ length plan = whole.planes in omega (arith, fits.within, length-map places (shown g))) in
    let s = p.sweeps.each step lt in
    let same : get_or planes step (no_plane g) ≡ shown g (place_at places step) = shown_at g places step in
    let old : tile_cells (shown g (place_at places step)).tiles tile ≡ None = ap (λ (q : Tiled). get_or q.tiles tile None) (sym same) ∙ not_placed plan input g b.started b.finished planes turns.order step tile whole fits.within fits.inside runs.1 in
    let size : length (shown g (place_at places step)).tiles ≡ tile_count g = ap (λ (q : Tiled). length q.tiles) (sym same) ∙ whole.counts step in
    let open_yet : 1 ≤ form (place_at swept step) = subst (λ (k : ℕ). 1 ≤ k) (sym (p.sweeps.forms step)) (placed.opened step tile fits.within fits.inside runs.0) in
    let suited : IsFormOf (is_sum (get_or plan step nothing_planned).step) (form (place_at swept step)) = subst (IsFormOf (is_sum (get_or plan step nothing_planned).step)) (sym (p.sweeps.forms step)) (placed.forms step fits.within) in
    record {
      tiling = s.tiling ∙ ap (λ (q : Tiled). q.tiling) (sym same) ∙ whole.tilings step;
      free = s.each tile (omega (arith, fits.inside)) ∙ cond_of (p.gone step tile) (tile_cells (shown g (place_at places step)).tiles tile) old;
      suits = by_kind (is_sum (get_or plan step nothing_planned).step) refl suited open_yet s (ap (λ (q : Tiled). q) same);
    }
  where
    by_kind : (b : Bool) → is_sum (get_or plan step nothing_planned).step ≡ b → IsFormOf (is_sum (get_or plan step nothing_planned).step) (form (place_at swept step)) → 1 ≤ form (place_at swept step)
        → Swept (p.gone step) (shown g (place_at places step)) (shown g (place_at swept step)) → get_or (planes_shown g places) step (no_plane g) ≡ shown g (place_at places step) → Suits g (place_at swept step) tile m
    by_kind true e suited open_yet s same =
        suits_sums g (place_at swept step) tile m (is_sums (form (place_at swept step)) (is_sum (get_or plan step nothing_planned).step) e suited open_yet (form_most (place_at swept step))) (p.fits.number e)
    by_kind false e suited open_yet s same =
        suits_plane g (place_at swept step) (shown g (place_at places step)) tile m (p.gone step)
        (is_plane (form (place_at swept step)) (is_sum (get_or plan step nothing_planned).step) e suited open_yet (form_most (place_at swept step))) s
        (subst (λ (q : Tiled). IsTileFor q tile m) same (p.fits.image e))
