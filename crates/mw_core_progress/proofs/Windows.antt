-- Windows of planes that are open.
use Rattle.std.proofs.Common.{◌≡◌, ◌≢◌, ℕ, ◌<◌, ◌≤◌, Bool, false, List, length, get_or, Option, None, refl, sym, ap, subst, ◌∙◌, arith}
use Rattle.std.proofs.lemmas.List.{length-map, get_or_read}
use Rattle.mw_model.proofs.mw_facts.Tests.{none-not_some}
use Rattle.mw_model.proofs.mw_facts.Elements.{get_or-replicate_same}
use Rattle.mw_model.specs.declared.offsets.Rect.{Rect}
use Rattle.mw_model.specs.Rectangles.{Holds, IsWithin}
use Rattle.mw_model.specs.Plans.{Plan, is_sum}
use Rattle.mw_model.specs.Tasks.{nothing_planned}
use Rattle.mw_grid.specs.Grids.{Tiling, tile_count, tile_at}
use Rattle.mw_grid.proofs.Tiles.{HasTiles, cover_once, length-tiles_of, tile_of-tiles_of}
use Rattle.mw_core_planes.specs.mw_ready.Boards.{Turns}
use Rattle.mw_core_planes.specs.mw_tile_planes.Tiles.{Tiled, HasAll, tile_cells}
use Rattle.mw_core_planes.specs.Levels.{Level, closed_plane}
use Rattle.mw_core_planes.specs.StepPlanes.{shown, form, IsFormOf, no_place, place_at, planes_shown}
use Rattle.mw_core_planes.specs.declared.step_planes.StepPlane.{StepPlane}
use Rattle.mw_core_planes.specs.declared.step_planes.StepPlane.TheVariants.{Closed, Plane, Sums}
use Rattle.mw_core_progress.specs.ProgressView.{ProgressView, IsFramed, IsWhole, plane_at}
use Rattle.mw_core_progress.specs.Parts.{underway_kept, IsPlaced}
use Rattle.mw_core_progress.proofs.Opened.{shown_at}

-- a rectangle of the plane of a step, all of which is placed
pub record Asked (u : ProgressView) (step : ℕ) (rect : Rect) : Type 0 where
  pub known : step < length u.progress.plan
  pub plane : is_sum (get_or u.progress.plan step nothing_planned).step ≡ false
  pub wide : 1 ≤ rect.width
  pub high : 1 ≤ rect.height
  pub within : IsWithin rect u.tiling.width u.tiling.height
  pub placed : HasAll u.tiling (plane_at u step).tiles rect

no_form : (place : StepPlane) → ((p : Tiled) → place ≡ Plane p → ⊥) → form place ≢ 2 → (l : Level) × (place ≡ Closed l)
no_form (Closed l) h two = (l, refl)
no_form (Plane p) h two = absurd (h p refl)
no_form (Sums p) h two = absurd (two refl)

-- a plane without tiles has no rectangle
no_rect : (g : Tiling) (l : Level) (r : Rect) → IsFramed g → 1 ≤ r.width → 1 ≤ r.height → IsWithin r g.width g.height → HasAll g (closed_plane g l).tiles r → ⊥
no_rect g l r framed wide high within all =
    let has : HasTiles g = record { wide = framed.wide; high = framed.high; some = (let e = framed.least in omega arith) } in
    let across : r.x < g.width = (let e = within.across in omega arith) in
    let down : r.y < g.height = (let e = within.down in omega arith) in
    let found = (cover_once g has).once r.x r.y across down in
    let n = found.tile in
    let lt : n < tile_count g = (let e = found.here in omega (arith, length-tiles_of g)) in
    let there : Holds (tile_at g n) r.x r.y = subst (λ (t : Rect). Holds t r.x r.y) (tile_of-tiles_of g n lt) found.holds in
    let some = all r.x r.y (record { left = omega arith; right = omega arith; top = omega arith; bottom = omega arith }) n lt there in
    none-not_some (tile_cells (closed_plane g l).tiles n) (get_or-replicate_same {A = Option (List ℕ)} (tile_count g) n None) some

pub place_of : (plan : Plan) (input : Level) (g : Tiling) (turns : Turns) (places : List StepPlane) (step : ℕ) (place : StepPlane) → IsWhole (underway_kept plan input g turns places) → step < length plan → place ≡ get_or places step place
    → plane_at (underway_kept plan input g turns places) step ≡ shown g place
place_of plan input g turns places step place whole lt was =
    let size : length (planes_shown g places) ≡ length plan = whole.planes in
    shown_at g places step ∙ ap (shown g) (sym (get_or_read places step place (omega (arith, size, length-map places (shown g))) was no_place))

-- the place of a step that makes a plane is one of a plane, if it was opened
pub no_sums : (plan : Plan) (input : Level) (g : Tiling) (turns : Turns) (places : List StepPlane) (step : ℕ) (place : StepPlane) → IsWhole (underway_kept plan input g turns places) → IsPlaced plan g turns.board.started places
    → step < length plan → is_sum (get_or plan step nothing_planned).step ≡ false → place ≡ get_or places step place → form place ≢ 2
no_sums plan input g turns places step place whole placed lt plane was =
    let size : length (planes_shown g places) ≡ length plan = whole.planes in
    let there : step < length places = omega (arith, lt, size, length-map places (shown g)) in
    subst (λ (p : StepPlane). form p ≢ 2) (sym (get_or_read places step place there was no_place)) (subst (λ (b : Bool). IsFormOf b (form (place_at places step))) plane (placed.forms step lt))

-- the place is that of a plane
pub is_open : (plan : Plan) (input : Level) (g : Tiling) (turns : Turns) (places : List StepPlane) (step : ℕ) (rect : Rect) (place : StepPlane) → IsWhole (underway_kept plan input g turns places) → IsPlaced plan g turns.board.started places
    → Asked (underway_kept plan input g turns places) step rect → place ≡ get_or places step place → ((p : Tiled) → place ≡ Plane p → ⊥) → ⊥
is_open plan input g turns places step rect place whole placed asked was h =
    let c = no_form place h (no_sums plan input g turns places step place whole placed asked.known asked.plane was) in
    no_rect g c.0 rect whole.tiling asked.wide asked.high asked.within
    (subst (λ (p : Tiled). HasAll g p.tiles rect) (place_of plan input g turns places step place whole asked.known was ∙ ap (shown g) c.1) asked.placed)

-- what is asked of it is there
pub asked_of : (plan : Plan) (input : Level) (g : Tiling) (turns : Turns) (places : List StepPlane) (step : ℕ) (rect : Rect) (place : StepPlane) (p : Tiled) → IsWhole (underway_kept plan input g turns places)
    → Asked (underway_kept plan input g turns places) step rect → place ≡ get_or places step place → place ≡ Plane p → IsWithin rect p.tiling.width p.tiling.height × HasAll p.tiling p.tiles rect × (plane_at (underway_kept plan input g turns places) step ≡ p)
asked_of plan input g turns places step rect place p whole asked was is =
    let same : plane_at (underway_kept plan input g turns places) step ≡ p = place_of plan input g turns places step place whole asked.known was ∙ ap (shown g) is in
    let tiling : g ≡ p.tiling = sym (whole.tilings step) ∙ ap (λ (q : Tiled). q.tiling) same in (
      subst (λ (t : Tiling). IsWithin rect t.width t.height) tiling asked.within,
      subst (λ (t : Tiling). HasAll t p.tiles rect) tiling (subst (λ (q : Tiled). HasAll g q.tiles rect) same asked.placed),
      same,
    )
