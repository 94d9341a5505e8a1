-- Windows in pieces as windows of sources.
use Rattle.std.proofs.Common.{◌≡◌, ◌↔◌, ℕ, ◌+◌, ◌-◌, ◌*◌, ◌<◌, List, length, get_or, slice_get, Option, Some, unwrap_or, sym, ap, subst, arith, ◌∙◌}
use Rattle.mw_model.specs.declared.offsets.Rect.{Rect}
use Rattle.mw_model.specs.declared.shapes.Kind.{Kind}
use Rattle.mw_model.specs.Rectangles.{Holds, IsWithin}
use Rattle.mw_model.specs.Pictures.{Picture, sample}
use Rattle.mw_model.specs.Tasks.{cells_in}
use Rattle.mw_model.specs.Windows.{View}
use Rattle.mw_tile.specs.mw_pixel.Images.{raster_of}
use Rattle.mw_tile.proofs.mw_pixel.Cells.{slice_get-samples}
use Rattle.mw_tile.specs.Windows.{SourceWindow, window_of}
use Rattle.mw_tile.specs.Cuts.{view_of}
use Rattle.mw_tile_pieces.specs.Patches.{Joint, IsJoint, IsJoined, ShowsFrame, value_in}
use Rattle.mw_tile_pieces.specs.Shared.{level_in, source_joint}
use Rattle.mw_tile_pieces.proofs.Patches.{value_some}
use Rattle.mw_tile_pieces.proofs.TileCells.{cells_in_are, cells_in_at, cells_in_same}

abbrev pub source_window : Kind → ℕ → View ℕ → SourceWindow
source_window k m w = record { kind = k; maxval = m; view = w }

some-unwrap_or : (o : Option ℕ) (v : ℕ) → o ≡ Some v → o ≡ Some (unwrap_or o 0)
some-unwrap_or o v e = e ∙ ap (λ (t : Option ℕ). Some (unwrap_or t 0)) (sym e)

some_same : (v w : ℕ) → v ≡ w → Some v ≡ Some w
some_same v w e = ap Some e

-- a place of a rectangle
Holds-at : (r : Rect) (i j : ℕ) → i < r.width → j < r.height → Holds r (r.x + i) (r.y + j)
Holds-at r i j across down = record { left = omega arith; right = omega arith; top = omega arith; bottom = omega arith }

-- pieces that show what an image has are its window
pub window_is : (k : Kind) (m : ℕ) (j : Joint ℕ) (r : Rect) (f : Picture) → f.kind ≡ k → f.maxval ≡ m → length f.samples ≡ f.height * f.width → IsWithin r f.width f.height → j.place ≡ r → ShowsFrame (raster_of f) j → source_joint k m j ≡ window_of r f
window_is k m j r f kind-is maxval-is size within place-is shows =
    ap (λ (t : Kind). source_joint t m j) (sym kind-is)
    ∙ ap (λ (t : ℕ). source_joint f.kind t j) (sym maxval-is)
    ∙ ap (λ (t : ℕ). source_window f.kind f.maxval (view_of t j.frame_height j.place (cells_in j.place (level_in j)))) shows.width
    ∙ ap (λ (t : ℕ). source_window f.kind f.maxval (view_of f.width t j.place (cells_in j.place (level_in j)))) shows.height
    ∙ ap (λ (t : Rect). source_window f.kind f.maxval (view_of f.width f.height t (cells_in t (level_in j)))) place-is
    ∙ ap (λ (t : List ℕ). source_window f.kind f.maxval (view_of f.width f.height r t)) (cells_in_same r (level_in j) (sample f) each)
  where
    each : (i q : ℕ) → i < r.width → q < r.height → level_in j (r.x + i) (r.y + q) ≡ sample f (r.x + i) (r.y + q)
    each i q across down =
        let wide = within.across in
        let high = within.down in
        ap (λ (o : Option ℕ). unwrap_or o 0)
        (shows.same (r.x + i) (r.y + q) (subst (λ (s : Rect). Holds s (r.x + i) (r.y + q)) (sym place-is) (Holds-at r i q across down)) ∙ slice_get-samples f size (r.x + i) (r.y + q) (omega arith) (omega arith))

-- the level at a place, off the window's cells
level_at : (j : Joint ℕ) (f : Picture) (x y : ℕ) → cells_in j.place (level_in j) ≡ cells_in j.place (sample f) → Holds j.place x y → level_in j x y ≡ sample f x y
level_at j f x y cells holds =
    let r = j.place in
    let left = holds.left in
    let right = holds.right in
    let top = holds.top in
    let bottom = holds.bottom in
    let i = x - r.x in
    let q = y - r.y in
    let across : i < r.width = omega arith in
    let down : q < r.height = omega arith in
    let same : level_in j (r.x + i) (r.y + q) ≡ sample f (r.x + i) (r.y + q) =
    sym (cells_in_at r (level_in j) i q across down) ∙ ap (λ (t : List ℕ). get_or t (q * r.width + i) 0) cells ∙ cells_in_at r (sample f) i q across down in
    let x-is : r.x + i ≡ x = omega arith in
    let y-is : r.y + q ≡ y = omega arith in
    subst (λ (t : ℕ). level_in j x t ≡ sample f x t) y-is (subst (λ (t : ℕ). level_in j t (r.y + q) ≡ sample f t (r.y + q)) x-is same)

-- and pieces that are its window show what it has
pub window_shows : (k : Kind) (m : ℕ) (j : Joint ℕ) (r : Rect) (f : Picture) → IsJoint j → length f.samples ≡ f.height * f.width → source_joint k m j ≡ window_of r f → ShowsFrame (raster_of f) j
window_shows k m j r f joint size e =
    let width : j.frame_width ≡ f.width = ap (λ (s : SourceWindow). s.view.frame_width) e in
    let height : j.frame_height ≡ f.height = ap (λ (s : SourceWindow). s.view.frame_height) e in
    let place : j.place ≡ r = ap (λ (s : SourceWindow). s.view.place) e in
    let cells : cells_in j.place (level_in j) ≡ cells_in j.place (sample f) = ap (λ (s : SourceWindow). s.view.cells) e ∙ ap (λ (t : Rect). cells_in t (sample f)) (sym place) in
    record {
      width = width;
      height = height;
      same = λ x y holds.
          let found = value_some j.frame_width j.frame_height j.pieces x y joint.patches (joint.covers x y holds) in
          let wide = joint.within.across in
          let high = joint.within.down in
          let right = holds.right in
          let bottom = holds.bottom in
          some-unwrap_or (value_in j.pieces x y) found.0 found.1 ∙ some_same (level_in j x y) (sample f x y) (level_at j f x y cells holds) ∙ sym (slice_get-samples f size x y (omega arith) (omega arith));
    }

-- a window that was put together is that of the pieces
pub joined_is : (k : Kind) (m : ℕ) (j : Joint ℕ) (w : View ℕ) → IsJoint j → IsJoined j w → source_window k m w ≡ source_joint k m j
joined_is k m j w joint joined =
    ap (λ (t : ℕ). source_window k m (view_of t w.frame_height w.place w.cells)) joined.frame_width
    ∙ ap (λ (t : ℕ). source_window k m (view_of j.frame_width t w.place w.cells)) joined.frame_height
    ∙ ap (λ (t : Rect). source_window k m (view_of j.frame_width j.frame_height t w.cells)) joined.place
    ∙ ap (λ (t : List ℕ). source_window k m (view_of j.frame_width j.frame_height j.place t)) (sym (cells_in_are j.place (level_in j) w.cells joined.values.size each))
  where
    each : (i q : ℕ) → i < j.place.width → q < j.place.height → slice_get w.cells (q * j.place.width + i) ≡ Some (level_in j (j.place.x + i) (j.place.y + q))
    each i q across down =
        let found = value_some j.frame_width j.frame_height j.pieces (j.place.x + i) (j.place.y + q) joint.patches (joint.covers (j.place.x + i) (j.place.y + q) (Holds-at j.place i q across down)) in
        joined.values.same i q across down ∙ some-unwrap_or (value_in j.pieces (j.place.x + i) (j.place.y + q)) found.0 found.1

-- pieces that stand in the rectangle are the window of an image exactly where they show what it has
pub window_matches : (k : Kind) (m : ℕ) (j : Joint ℕ) (r : Rect) (f g : Picture) (s : SourceWindow) (P : Type 0) → IsJoint j → f ≡ g → length f.samples ≡ f.height * f.width → IsWithin r f.width f.height → g.kind ≡ k → g.maxval ≡ m → s ≡ source_joint k m j → s.view.place ≡ r
    → P ↔ ShowsFrame (raster_of g) j → P ↔ (s ≡ window_of r f)
window_matches k m j r f g s P joint same size within kind-is maxval-is is place-is tells = (
  λ p.
      let shows : ShowsFrame (raster_of f) j = subst (λ (h : Picture). ShowsFrame (raster_of h) j) (sym same) (tells.0 p) in
      is ∙ window_is k m j r f (ap (λ (h : Picture). h.kind) same ∙ kind-is) (ap (λ (h : Picture). h.maxval) same ∙ maxval-is) size within (ap (λ (t : SourceWindow). t.view.place) (sym is) ∙ place-is) shows,
  λ e. tells.1 (subst (λ (h : Picture). ShowsFrame (raster_of h) j) same (window_shows k m j r f joint size (sym is ∙ e))),
)
