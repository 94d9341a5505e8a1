-- Windows of planes.
use Rattle.std.proofs.Common.{◌≡◌, ◌↔◌, ℕ, List, Option, refl, sym, subst, arith}
use Rattle.mw_model.specs.declared.offsets.Rect.{Rect}
use Rattle.mw_model.specs.declared.shapes.Kind.{Kind}
use Rattle.mw_model.specs.Pictures.{Picture}
use Rattle.mw_model.specs.Rectangles.{IsWithin}
use Rattle.mw_model.specs.Rasters.{Raster}
use Rattle.mw_grid.specs.Grids.{Tiling}
use Rattle.mw_step_task.specs.mw_pixel.Images.{raster_of}
use Rattle.mw_step_task.specs.mw_tile.Windows.{SourceWindow, window_of}
use Rattle.mw_step_task.specs.mw_tile_pieces.Patches.{IsJoint, Joint, ShowsFrame}
use Rattle.mw_step_task.specs.mw_tile_pieces.Shared.{source_joint}
use Rattle.mw_step_task.proofs.mw_tile_pieces.Windows.{window_is, window_matches}
use Rattle.mw_tile_slots.specs.Tiles.{HasAll, ShowsTiles, cells_of}
use Rattle.mw_tile_planes.specs.Held.{tiled}
use Rattle.mw_tile_planes.specs.Tiles.{IsPlaneOf, Tiled}

within_image : (p : Tiled) (r : Rect) (f : Picture) → IsWithin r p.tiling.width p.tiling.height → IsPlaneOf p f → IsWithin r f.width f.height
within_image p r f within plane =
    let across = within.across in
    let down = within.down in
    let wide = plane.shows.width in
    let high = plane.shows.height in
    record { across = omega arith; down = omega arith }

pub shared_is : (k : Kind) (m : ℕ) (g : Tiling) (tiles : List (Option (Raster ℕ))) (p : Tiled) (j : Joint ℕ) (r : Rect) → tiled k m g tiles ≡ p → j.place ≡ r → IsWithin r p.tiling.width p.tiling.height → ((f : Raster ℕ) → ShowsTiles g (cells_of tiles) f → ShowsFrame f j)
    → (f : Picture) → IsPlaneOf p f → source_joint k m j ≡ window_of r f
shared_is k m g tiles p j r view place-is within shows f plane =
    let is : IsPlaneOf (tiled k m g tiles) f = subst (λ (q : Tiled). IsPlaneOf q f) (sym view) plane in
    window_is k m j r f is.kind is.maxval is.size (within_image p r f within plane) place-is (shows (raster_of f) is.shows)

pub shared_matches : (k : Kind) (m : ℕ) (g : Tiling) (tiles : List (Option (Raster ℕ))) (p : Tiled) (j : Joint ℕ) (r : Rect) (s : SourceWindow) (P : Type 0) → tiled k m g tiles ≡ p → IsWithin r p.tiling.width p.tiling.height → IsJoint j → s ≡ source_joint k m j → s.view.place ≡ r
    → ((f : Raster ℕ) → ShowsTiles g (cells_of tiles) f → P ↔ ShowsFrame f j) → (f : Picture) → IsPlaneOf p f → P ↔ (s ≡ window_of r f)
shared_matches k m g tiles p j r s P view within joint is place-is tells f plane =
    let of : IsPlaneOf (tiled k m g tiles) f = subst (λ (q : Tiled). IsPlaneOf q f) (sym view) plane in
    window_matches k m j r f f s P joint refl of.size (within_image p r f within plane) of.kind of.maxval is place-is (tells (raster_of f) of.shows)

pub all_placed : (k : Kind) (m : ℕ) (g : Tiling) (tiles : List (Option (Raster ℕ))) (p : Tiled) (r : Rect) → tiled k m g tiles ≡ p → HasAll p.tiling p.tiles r → HasAll g (cells_of tiles) r
all_placed k m g tiles p r view has = subst (λ (q : Tiled). HasAll q.tiling q.tiles r) (sym view) has

pub within_of : (k : Kind) (m : ℕ) (g : Tiling) (tiles : List (Option (Raster ℕ))) (p : Tiled) (r q : Rect) → tiled k m g tiles ≡ p → q ≡ r → IsWithin r p.tiling.width p.tiling.height → IsWithin q g.width g.height
within_of k m g tiles p r q view q-is within = subst (λ (t : Tiled). IsWithin q t.tiling.width t.tiling.height) (sym view) (subst (λ (s : Rect). IsWithin s p.tiling.width p.tiling.height) (sym q-is) within)

pub placed_of : (k : Kind) (m : ℕ) (g : Tiling) (tiles : List (Option (Raster ℕ))) (p : Tiled) (r q : Rect) → tiled k m g tiles ≡ p → q ≡ r → HasAll p.tiling p.tiles r → HasAll g (cells_of tiles) q
placed_of k m g tiles p r q view q-is placed = subst (λ (t : Tiled). HasAll t.tiling t.tiles q) (sym view) (subst (λ (s : Rect). HasAll p.tiling p.tiles s) (sym q-is) placed)
