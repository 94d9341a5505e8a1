-- A window shows what the frame has.
use Rattle.std.proofs.Common.{◌≡◌, ℕ, ◌+◌, ◌-◌, ◌*◌, ◌<◌, ◌≤◌, ℤ, pos, negsuc, ◌+ℤ◌, ◌-ℤ◌, List, [], ◌∷◌, Option, None, slice_get, length, refl, ap, sym, arith, ◌∙◌, inl, inr}
use Rattle.std.specs.List.{AllByRecursion, cons_option}
use Rattle.std.proofs.lemmas.Bool.{cases_lt}
use Rattle.std.proofs.lemmas.Int.{ints}
use Rattle.mw_model.specs.declared.offsets.Offset.{Offset}
use Rattle.mw_model.specs.declared.offsets.Rect.{Rect}
use Rattle.mw_model.specs.declared.offsets.Reach.{Reach}
use Rattle.mw_model.specs.Rectangles.{grown, Holds, WithinReach}
use Rattle.mw_tile.specs.Windows.{IsCut, IsWindow}
use Rattle.mw_grid.specs.Rectangles.{Reaches}
use Rattle.mw_grid.specs.Grids.{Tiling, tile_at}
use Rattle.mw_model.specs.Pictures.{Picture}
use Rattle.mw_model.specs.Flat.{under}
use Rattle.mw_pixel.specs.Images.{raster_of}
use Rattle.mw_grid.proofs.Reaching.{reaches_all}
use Rattle.mw_model.specs.Rasters.{Raster, raster, cell_at, seen_under}
use Rattle.mw_model.specs.Windows.{View, seen_at}
use Rattle.mw_pixel.proofs.Cells.{cell_at-inside, cell_at-right, cell_at-below, cell_at-above, seen_under-raster_of}

-- the samples of a view as a frame of their own
abbrev own : {A : Type 0} → View A → Raster A
own w = raster w.place.width w.place.height w.cells

column-ahead : (x a : ℕ) → a ≤ x → pos x -ℤ pos a ≡ pos (x - a)
column-ahead x a le = omega (arith, ints)

negsuc-further : (n a : ℕ) → negsuc n -ℤ pos a ≡ negsuc (n + a)
negsuc-further n a = omega (arith, ints)

-- a place that the view has
pub seen_in : {A : Type 0} (w : View A) (x y : ℕ) → Holds w.place x y → seen_at w (pos x) (pos y) ≡ slice_get w.cells ((y - w.place.y) * w.place.width + (x - w.place.x))
seen_in w x y holds =
    ap (λ (t : ℤ). cell_at (own w) t (pos y -ℤ pos w.place.y)) (column-ahead x w.place.x holds.left)
    ∙ ap (λ (t : ℤ). cell_at (own w) (pos (x - w.place.x)) t) (column-ahead y w.place.y holds.top)
    ∙ cell_at-inside (own w) (x - w.place.x) (y - w.place.y) (let a = holds.left in let b = holds.right in omega arith) (let a = holds.top in let b = holds.bottom in omega arith)

seen_right : {A : Type 0} (w : View A) (x y : ℕ) → w.place.x + w.place.width ≤ x → seen_at w (pos x) (pos y) ≡ None
seen_right w x y le =
    ap (λ (t : ℤ). cell_at (own w) t (pos y -ℤ pos w.place.y)) (column-ahead x w.place.x (omega arith)) ∙ go (pos y -ℤ pos w.place.y)
  where
    go : (z : ℤ) → cell_at (own w) (pos (x - w.place.x)) z ≡ None
    go (pos j) = cell_at-right (own w) (x - w.place.x) j (omega arith)
    go (negsuc j) = refl

seen_beneath : {A : Type 0} (w : View A) (x y : ℕ) → w.place.y + w.place.height ≤ y → seen_at w (pos x) (pos y) ≡ None
seen_beneath w x y le = ap (λ (t : ℤ). cell_at (own w) (pos x -ℤ pos w.place.x) t) (column-ahead y w.place.y (omega arith)) ∙ go (pos x -ℤ pos w.place.x)
  where
    go : (z : ℤ) → cell_at (own w) z (pos (y - w.place.y)) ≡ None
    go (negsuc i) = refl
    go (pos i) = elim (cases_lt i w.place.width) [
      | inl lt ↦ cell_at-below (own w) i (y - w.place.y) lt (omega arith)
      | inr past ↦ cell_at-right (own w) i (y - w.place.y) past
    ]

seen_none_left : {A : Type 0} (w : View A) (n : ℕ) (z : ℤ) → seen_at w (negsuc n) z ≡ None
seen_none_left w n z = ap (λ (t : ℤ). cell_at (own w) t (z -ℤ pos w.place.y)) (negsuc-further n w.place.x)

seen_none_above : {A : Type 0} (w : View A) (z : ℤ) (n : ℕ) → seen_at w z (negsuc n) ≡ None
seen_none_above w z n = ap (λ (t : ℤ). cell_at (own w) (z -ℤ pos w.place.x) t) (negsuc-further n w.place.y) ∙ cell_at-above (own w) (z -ℤ pos w.place.x) (n + w.place.y)

seen_at-in_both : {A : Type 0} (w : View A) (f : Raster A) (x y : ℕ) → IsCut w f → x < f.width → y < f.height → Holds w.place x y → seen_at w (pos x) (pos y) ≡ cell_at f (pos x) (pos y)
seen_at-in_both w f x y cut p q holds =
    let left = holds.left in
    let right = holds.right in
    let top = holds.top in
    let bottom = holds.bottom in
    seen_in w x y holds
    ∙ cut.same (x - w.place.x) (y - w.place.y) (omega arith) (omega arith)
    ∙ ap (λ (t : ℕ). slice_get f.cells (t * f.width + (w.place.x + (x - w.place.x)))) (back y w.place.y top)
    ∙ ap (λ (t : ℕ). slice_get f.cells (y * f.width + t)) (back x w.place.x left)
    ∙ sym (cell_at-inside f x y p q)
  where
    back : (x a : ℕ) → a ≤ x → a + (x - a) ≡ x
    back x a le = omega arith

-- where a view of a frame has each place that the frame has there, it shows what the frame shows
pub seen_at-agrees : {A : Type 0} (w : View A) (f : Raster A) → IsCut w f → (column row : ℤ) → Reaches w.place f.width f.height column row → seen_at w column row ≡ cell_at f column row
seen_at-agrees w f cut (negsuc n) row reaches = seen_none_left w n row
seen_at-agrees w f cut (pos x) (negsuc n) reaches = seen_none_above w (pos x) n
seen_at-agrees w f cut (pos x) (pos y) reaches =
    elim (cases_lt x f.width) [
      | inr past ↦ seen_right w x y (let a = cut.within.across in omega arith) ∙ sym (cell_at-right f x y past)
      | inl p ↦ elim (cases_lt y f.height) [
        | inr past ↦ seen_beneath w x y (let a = cut.within.down in omega arith) ∙ sym (cell_at-below f x y p past)
        | inl q ↦ seen_at-in_both w f x y cut p q (reaches x y refl refl p q)
      ]
    ]

pub seen_under-agrees : {A : Type 0} (w : View A) (f : Raster A) → IsCut w f → (column row : ℕ) (element : List Offset)
    → AllByRecursion (λ (b : Offset). Reaches w.place f.width f.height (pos column +ℤ b.dx) (pos row +ℤ b.dy)) element → seen_under (seen_at w) element column row ≡ seen_under (cell_at f) element column row
seen_under-agrees w f cut column row [] reaches = refl
seen_under-agrees w f cut column row (b ∷ bs) reaches =
    ap (λ (t : Option _). cons_option t (seen_under (seen_at w) bs column row)) (seen_at-agrees w f cut (pos column +ℤ b.dx) (pos row +ℤ b.dy) reaches.0)
    ∙ ap (cons_option (cell_at f (pos column +ℤ b.dx) (pos row +ℤ b.dy))) (seen_under-agrees w f cut column row bs reaches.1)

-- at each place of the tile the window shows under the element what the frame has there
pub seen_under-window : {A : Type 0} (w : View A) (f : Raster A) (element : List Offset) (tile : Rect) → IsWindow w f element tile → (x y : ℕ) → x < tile.width → y < tile.height
    → seen_under (seen_at w) element (tile.x + x) (tile.y + y) ≡ seen_under (cell_at f) element (tile.x + x) (tile.y + y)
seen_under-window w f element tile window x y across down = seen_under-agrees w f window.cut (tile.x + x) (tile.y + y) element (window.reaches x y across down)

-- and what stands there in the picture that the frame is of
pub seen_under-picture : (w : View ℕ) (f : Picture) (element : List Offset) (tile : Rect) → length f.samples ≡ f.height * f.width → IsWindow w (raster_of f) element tile → (x y : ℕ) → x < tile.width → y < tile.height
    → seen_under (seen_at w) element (tile.x + x) (tile.y + y) ≡ under f element (tile.x + x) (tile.y + y)
seen_under-picture w f element tile size window x y across down =
    seen_under-window w (raster_of f) element tile window x y across down ∙ seen_under-raster_of f size element (tile.x + x) (tile.y + y)

-- a cut of the frame at a tile that is grown by the reach is a window for the tile
pub window_of_cut : {A : Type 0} (w : View A) (f : Raster A) (g : Tiling) (i : ℕ) (reach : Reach) (element : List Offset) → f.width ≡ g.width → f.height ≡ g.height → w.place ≡ grown g.width g.height reach (tile_at g i)
    → IsCut w f → WithinReach reach element → IsWindow w f element (tile_at g i)
window_of_cut w f g i reach element width height place cut within = record {
  cut = cut;
  reaches = rw (width, height, place) (reaches_all g.width g.height reach (tile_at g i) element within);
}
