-- Planes that hold the image of a tile.
use Rattle.std.proofs.Common.{◌≡◌, ℕ, ◌+◌, ◌*◌, ◌<◌, List, length, slice_get, Some, Result, Ok, Err, IfOk, false, refl, ap, sym, ◌∙◌}
use Rattle.mw_model.specs.declared.offsets.Rect.{Rect}
use Rattle.mw_model.specs.declared.shapes.Kind.{Kind}
use Rattle.mw_model.specs.Rasters.{Raster}
use Rattle.mw_model.specs.Windows.{View, seen_at}
use Rattle.mw_model.specs.Pictures.{Picture, picture}
use Rattle.mw_model.specs.Plans.{is_sum}
use Rattle.mw_model.specs.PlanSteps.{PlanStep, step_at, kind_of_step, maxval_of_step}
use Rattle.mw_model.specs.Tasks.{made_in}
use Rattle.mw_step_task.specs.mw_tile.Windows.{SourceWindow}
use Rattle.mw_step_task.specs.WindowTasks.{WindowTask, window_at, tile_made}
use Rattle.mw_step_task.specs.Products.{HoldsImage, IsMade, tile_drawn}
use Rattle.mw_step_task.specs.declared.tile_result.TileResult.{TileResult}
use Rattle.mw_step_task.specs.declared.tile_result.TileResult.TheVariants.{Bits, Grey8, Grey16, Number}
use Rattle.mw_step_task.proofs.mw_tile_pieces.TileCells.{cells_in_are}
use Rattle.mw_step_task.proofs.mw_tile_pieces.Windows.{source_window}

-- a plane with the values of a tile is the image of the tile
pub plane_is : (kind : Kind) (maxval : ℕ) (tile : Rect) (value : ℕ → ℕ → ℕ) (p : Raster ℕ) → p.width ≡ tile.width → p.height ≡ tile.height → length p.cells ≡ tile.height * tile.width
    → ((x y : ℕ) → x < tile.width → y < tile.height → slice_get p.cells (y * tile.width + x) ≡ Some (value (tile.x + x) (tile.y + y)))
    → tile_drawn kind maxval tile value ≡ picture kind p.width p.height maxval p.cells
plane_is kind maxval tile value p width height size each =
    ap (λ (t : List ℕ). picture kind tile.width tile.height maxval t) (cells_in_are tile value p.cells size each)
    ∙ ap (λ (t : ℕ). picture kind t tile.height maxval p.cells) (sym width)
    ∙ ap (λ (t : ℕ). picture kind p.width t maxval p.cells) (sym height)

-- the image of a tile, by its step and windows
abbrev pub tile_by : PlanStep → SourceWindow → SourceWindow → SourceWindow → Rect → Picture
tile_by s u v w tile =
    picture (kind_of_step s u.kind) tile.width tile.height (maxval_of_step s u.maxval) (made_in s tile (step_at s u.maxval (seen_at u.view) (seen_at v.view) (seen_at w.view)))

pub tile_is : (t : WindowTask) (s : PlanStep) (u v w : SourceWindow) → t.step ≡ s → window_at t.windows 0 ≡ u → window_at t.windows 1 ≡ v → window_at t.windows 2 ≡ w
    → tile_made t ≡ tile_by s u v w t.rect
tile_is t s u v w step first second third =
    ap (λ (r : PlanStep). tile_by r (window_at t.windows 0) (window_at t.windows 1) (window_at t.windows 2) t.rect) step
    ∙ ap (λ (r : SourceWindow). tile_by s r (window_at t.windows 1) (window_at t.windows 2) t.rect) first
    ∙ ap (λ (r : SourceWindow). tile_by s u r (window_at t.windows 2) t.rect) second
    ∙ ap (λ (r : SourceWindow). tile_by s u v r t.rect) third

pub made_image : (t : WindowTask) (f : Picture) (m : TileResult) → is_sum t.step ≡ false → tile_made t ≡ f → HoldsImage f m → IsMade t m
made_image t f (Bits p) not is holds = (not, is ∙ holds)
made_image t f (Grey8 p maxval) not is holds = (not, (is ∙ holds.0, holds.1))
made_image t f (Grey16 p maxval) not is holds = (not, (is ∙ holds.0, holds.1))
made_image t f (Number n) not is holds = absurd holds

-- what is made of a step of one source
pub made_of_one : (t : WindowTask) (s : PlanStep) (u : SourceWindow) (tile : Rect) (m : TileResult) → is_sum s ≡ false → t.step ≡ s → u ≡ window_at t.windows 0 → tile ≡ t.rect
    → HoldsImage (tile_by s u (window_at t.windows 1) (window_at t.windows 2) tile) m → IsMade t m
made_of_one t s u tile m not step first tile-is holds =
    made_image t (tile_by s u (window_at t.windows 1) (window_at t.windows 2) tile) m (ap is_sum step ∙ not)
    (tile_is t s u (window_at t.windows 1) (window_at t.windows 2) step (sym first) refl refl ∙ ap (λ (r : Rect). tile_by s u (window_at t.windows 1) (window_at t.windows 2) r) (sym tile-is)) holds

pub if_ok_too : {A E : Type 0} (r : Result A E) (P Q R : A → Type 0) → ((a : A) → P a → Q a → R a) → IfOk r P → IfOk r Q → IfOk r R
if_ok_too (Ok a) P Q R each p q = each a p q
if_ok_too (Err e) P Q R each p q = p

-- a plane of a value of what is seen of a window at each place of a tile
pub slid_plane : (u : SourceWindow) (kind : Kind) (maxval : ℕ) (w : View ℕ) (tile : Rect) (value : ℕ → View ℕ → ℕ → ℕ → ℕ) (p : Raster ℕ) → u ≡ source_window kind maxval w
    → p.width ≡ tile.width → p.height ≡ tile.height → length p.cells ≡ tile.height * tile.width
    → ((x y : ℕ) → x < tile.width → y < tile.height → slice_get p.cells (y * tile.width + x) ≡ Some (value maxval w (tile.x + x) (tile.y + y)))
    → tile_drawn u.kind u.maxval tile (value u.maxval u.view) ≡ picture kind p.width p.height maxval p.cells
slid_plane u kind maxval w tile value p is width height size each =
    ap (λ (s : SourceWindow). tile_drawn s.kind s.maxval tile (value s.maxval s.view)) is ∙ plane_is kind maxval tile (value maxval w) p width height size each
