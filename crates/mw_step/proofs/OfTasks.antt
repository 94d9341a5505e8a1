-- What is made of the windows of a task is what its step makes.
use Rattle.std.proofs.Common.{◌≡◌, ℕ, ◌+◌, ◌-◌, ◌≤◌, min, List, [], ◌∷◌, false, refl, ap, sym, arith, ◌∙◌}
use Rattle.std.specs.Prelude.{sum}
use Rattle.std.proofs.Math.Nat.{sub-zero}
use Rattle.mw_model.specs.declared.offsets.Offset.{Offset}
use Rattle.mw_model.specs.declared.offsets.Rect.{Rect}
use Rattle.mw_model.specs.Rectangles.{rect, grown, IsWithin}
use Rattle.mw_model.specs.Elements.{reach_of}
use Rattle.mw_model.specs.Windows.{seen_at}
use Rattle.mw_model.specs.Plans.{is_sum}
use Rattle.mw_model.specs.PlanSteps.{PlanStep, Sum, origin, looks_at, here}
use Rattle.mw_model.specs.Tasks.{cells_in, place_read}
use Rattle.mw_step_task.specs.WindowTasks.{made_of_windows, WindowTask, window_at, IsRead}
use Rattle.mw_step_task.specs.mw_tile.Windows.{SourceWindow}
use Rattle.mw_step_task.specs.Products.{HoldsImage, IsMade}
use Rattle.mw_step_task.specs.declared.tile_result.TileResult.{TileResult}
use Rattle.mw_step_task.specs.declared.tile_result.TileResult.TheVariants.{Number}
use Rattle.mw_step.proofs.Images.{tile_by, tile_is, made_image}
use Rattle.mw_step.proofs.PlaceByPlace.{Fills, three_cells}

-- a step that looks at the place itself reads the tile
place_is_tile : (s : PlanStep) (m n : ℕ) (tile : Rect) → looks_at s ≡ origin → IsWithin tile m n → place_read s m n tile ≡ tile
place_is_tile s m n tile at within =
    ap (λ (e : List Offset). grown m n (reach_of e) tile) at
    ∙ ap (λ (t : ℕ). rect t (tile.y - 0) (min (tile.x + tile.width + 0) m - (tile.x - 0)) (min (tile.y + tile.height + 0) n - (tile.y - 0))) (sub-zero tile.x)
    ∙ ap (λ (t : ℕ). rect tile.x t (min (tile.x + tile.width + 0) m - (tile.x - 0)) (min (tile.y + tile.height + 0) n - (tile.y - 0))) (sub-zero tile.y)
    ∙ ap (λ (t : ℕ). rect tile.x tile.y t (min (tile.y + tile.height + 0) n - (tile.y - 0))) (part tile.x tile.width m within.across)
    ∙ ap (λ (t : ℕ). rect tile.x tile.y tile.width t) (part tile.y tile.height n within.down)
  where
    part : (x w m : ℕ) → x + w ≤ m → min (x + w + 0) m - (x - 0) ≡ w
    part x w m le = omega arith

pub window_place : (t : WindowTask) (s : PlanStep) (m n : ℕ) (u : SourceWindow) → looks_at s ≡ origin → t.step ≡ s → IsRead t.step t.rect m n u → u.view.place ≡ t.rect
window_place t s m n u at step read = read.place ∙ place_is_tile t.step m n t.rect (ap looks_at step ∙ at) read.within

-- of a task: its step looks at the place itself alone and makes an image, and these are its sources
pub record LooksHere (t : WindowTask) (s : PlanStep) (u v w : SourceWindow) : Type 0 where
  pub image : is_sum s ≡ false
  pub at : looks_at s ≡ origin
  pub step : t.step ≡ s
  pub first : u ≡ window_at t.windows 0
  pub second : v ≡ window_at t.windows 1
  pub third : w ≡ window_at t.windows 2
  pub read : (m : ℕ) × (n : ℕ) × IsRead t.step t.rect m n u

pub made_of_here : (t : WindowTask) (s : PlanStep) (u v w : SourceWindow) (made : TileResult) → LooksHere t s u v w → HoldsImage (tile_by s u v w u.view.place) made → IsMade t made
made_of_here t s u v w made h holds =
    made_image t (tile_by s u v w u.view.place) made (ap is_sum h.step ∙ h.image)
    (tile_is t s u v w h.step (sym h.first) (sym h.second) (sym h.third) ∙ ap (λ (r : Rect). tile_by s u v w r) (sym (window_place t s h.read.0 h.read.1 u h.at h.step h.read.2))) holds

pub sum_of_here : (t : WindowTask) (u : SourceWindow) (m n total : ℕ) → t.step ≡ Sum → u ≡ window_at t.windows 0 → IsRead t.step t.rect m n u → Fills u.view.place u.view → total ≡ sum u.view.cells → IsMade t (Number total)
sum_of_here t u m n total step first read fills total-is =
    let seen = seen_at u.view in
    let whole : cells_in u.view.place (here seen) ≡ u.view.cells = three_cells (λ k _ _. k) u.view u.view u.view u.view.cells refl refl fills fills fills fills (λ k lt. refl) in (
      ap is_sum step,
      ap (λ (s : PlanStep). made_of_windows s t.windows t.rect) step
          ∙ ap (λ (r : SourceWindow). sum (cells_in t.rect (here (seen_at r.view))) ∷ []) (sym first)
          ∙ ap (λ (r : Rect). sum (cells_in r (here seen)) ∷ []) (sym (window_place t Sum m n u refl step read))
          ∙ ap (λ (ns : List ℕ). sum ns ∷ []) whole
          ∙ ap (λ (k : ℕ). k ∷ []) (sym total-is),
    )
