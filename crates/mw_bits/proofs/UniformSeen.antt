-- What is seen of a window of one pixel throughout.
use Rattle.std.proofs.Common.{◌≡◌, ◌⊎◌, ℕ, zero, suc, ◌+◌, ◌*◌, ◌/◌, ◌%◌, ◌<◌, ◌≤◌, ℤ, pos, negsuc, ◌+ℤ◌, ◌-ℤ◌, ◌≤ℤ◌, map, flat_map, subst, List, [], ◌∷◌, length, replicate, get_or, fold, Bool, true, false, cond, Option, None, Some, refl, ap, sym, arith, ◌∙◌, inl, inr}
use lib.IntN.{nat_abs}
use Rattle.std.specs.List.{filter_map, cons_option, range_with_len}
use Rattle.std.proofs.lemmas.Bool.{cases_lt, lt-ltb, le-ltb}
use Rattle.std.proofs.lemmas.Int.{ints}
use Rattle.std.proofs.lemmas.List.{length-replicate}
use Rattle.std.proofs.lemmas.Simd.{get_or-replicate}
use Rattle.std.proofs.lemmas.Nat.{mul-add-lt, div_below, div-add-mod', mod_below}
use Rattle.std.proofs.lemmas.Option.{slice_get-get_or}
use Rattle.mw_model.proofs.mw_facts.Numbers.{factor-positive}
use Rattle.mw_model.specs.declared.offsets.Offset.{Offset}
use Rattle.mw_model.specs.declared.offsets.OffsetBox.{OffsetBox}
use Rattle.mw_model.specs.declared.offsets.Rect.{Rect}
use Rattle.mw_model.specs.Rectangles.{span, box_offsets}
use Rattle.mw_model.proofs.Nonnegative.{nonnegative_is}
use Rattle.mw_model.specs.Rasters.{Raster, raster, cell_at, Sight, seen_under}
use Rattle.mw_model.specs.Windows.{View, seen_at}
use Rattle.mw_offset.specs.mw_line.Extrema.{IsSlidingExtremum}
use Rattle.mw_offset.proofs.mw_line.Tiles.{tile_made}
use Rattle.mw_offset.specs.mw_element_runs.Runs.{offset_at}
use Rattle.mw_offset.specs.mw_pixel_words.Packed.{bit_of, stride_of, samples_of}
use Rattle.mw_offset.proofs.mw_pixel_words.Bits.{sample_is_bit, length-samples_of}
use Rattle.mw_bits.specs.Uniform.{HasOnly, TileStays}

-- samples that are one, place by place
pub only_by_rows : (v w h : ℕ) (cells : List ℕ) → length cells ≡ h * w → ((x y : ℕ) → x < w → y < h → get_or cells (y * w + x) 0 ≡ v) → HasOnly v cells
only_by_rows v w h cells size same k lt =
    let inside : k < h * w = omega arith in
    let some = factor-positive k h w inside in
    let split : k ≡ k / w * w + k % w = sym (div-add-mod' k w) in
    ap (λ (t : ℕ). get_or cells t 0) split ∙ same (k % w) (k / w) (mod_below k w some) (div_below k w h some inside)

pub only_of_bits : (v w h : ℕ) (words cells : List ℕ) → cells ≡ samples_of w h words → ((x y : ℕ) → x < w → y < h → bit_of words (y * (64 * stride_of w) + x) ≡ v) → HasOnly v cells
only_of_bits v w h words cells cells-is same =
    only_by_rows v w h cells (ap length cells-is ∙ length-samples_of w h words)
    (λ x y less row_less. ap (λ (t : List ℕ). get_or t (y * w + x) 0) cells-is ∙ sample_is_bit w h words x y less row_less ∙ same x y less row_less)

-- a place that the raster has
cell_inside : (v w h : ℕ) (cells : List ℕ) → HasOnly v cells → length cells ≡ h * w → (x y : ℕ) → x < w → y < h → cell_at (raster w h cells) (pos x) (pos y) ≡ Some v
cell_inside v w h cells only size x y less row_less =
    let inside : y * w + x < length cells = omega (arith, mul-add-lt y w x h row_less less) in
    rw (lt-ltb x w less, lt-ltb y h row_less) (slice_get-get_or cells (y * w + x) 0 inside ∙ ap Some (only (y * w + x) inside))

cell_or_none : (v w h : ℕ) (cells : List ℕ) → HasOnly v cells → length cells ≡ h * w → (z u : ℤ) → (cell_at (raster w h cells) z u ≡ None) ⊎ (cell_at (raster w h cells) z u ≡ Some v)
cell_or_none v w h cells only size (negsuc x) u = inl refl
cell_or_none v w h cells only size (pos x) (negsuc y) = inl refl
cell_or_none v w h cells only size (pos x) (pos y) =
    elim (cases_lt x w) [
      | inr past ↦ inl (rw (le-ltb x w past) refl)
      | inl less ↦ elim (cases_lt y h) [
        | inr below ↦ inl (rw (lt-ltb x w less, le-ltb y h below) refl)
        | inl row_less ↦ inr (cell_inside v w h cells only size x y less row_less)
      ]
    ]

-- one step of a fold over what is seen
fold_none : {B : Type 0} (f : ℕ → ℕ → ℕ) (n : ℕ) (look : B → Option ℕ) (b : B) (bs : List B) → look b ≡ None → fold f n (filter_map look (b ∷ bs)) ≡ fold f n (filter_map look bs)
fold_none f n look b bs none = ap (λ (t : Option ℕ). fold f n (cons_option t (filter_map look bs))) none

fold_some : {B : Type 0} (f : ℕ → ℕ → ℕ) (n v : ℕ) (look : B → Option ℕ) (b : B) (bs : List B) → look b ≡ Some v → fold f n (filter_map look (b ∷ bs)) ≡ fold f (f n v) (filter_map look bs)
fold_some f n v look b bs some = ap (λ (t : Option ℕ). fold f n (cons_option t (filter_map look bs))) some

-- one value merged with itself
fold_only : {B : Type 0} (f : ℕ → ℕ → ℕ) (v : ℕ) (look : B → Option ℕ) → f v v ≡ v → ((b : B) → (look b ≡ None) ⊎ (look b ≡ Some v)) → (bs : List B) → fold f v (filter_map look bs) ≡ v
fold_only f v look again only [] = refl
fold_only f v look again only (b ∷ bs) =
    elim (only b) [
      | inl none ↦ fold_none f v look b bs none ∙ fold_only f v look again only bs
      | inr some ↦ fold_some f v v look b bs some ∙ ap (λ (t : ℕ). fold f t (filter_map look bs)) again ∙ fold_only f v look again only bs
    ]

-- one value, seen at some place
fold_seen : {B : Type 0} (f : ℕ → ℕ → ℕ) (n v : ℕ) (look : B → Option ℕ) → f n v ≡ v → f v v ≡ v → ((b : B) → (look b ≡ None) ⊎ (look b ≡ Some v)) → (bs : List B) (k : ℕ) (d : B) → k < length bs → look (get_or bs k d) ≡ Some v
    → fold f n (filter_map look bs) ≡ v
fold_seen f n v look first again only [] k d lt here = absurd (omega arith)
fold_seen f n v look first again only (b ∷ bs) zero d lt here = fold_some f n v look b bs here ∙ ap (λ (t : ℕ). fold f t (filter_map look bs)) first ∙ fold_only f v look again only bs
fold_seen f n v look first again only (b ∷ bs) (suc k) d lt here =
    elim (only b) [
      | inl none ↦ fold_none f n look b bs none ∙ fold_seen f n v look first again only bs k d (omega arith) here
      | inr some ↦ fold_some f n v look b bs some ∙ ap (λ (t : ℕ). fold f t (filter_map look bs)) first ∙ fold_only f v look again only bs
    ]

-- the pixel is the neutral one
pub uniform_neutral : (f : ℕ → ℕ → ℕ) (n v : ℕ) (w : View ℕ) (element : List Offset) (x y : ℕ) → f v v ≡ v → n ≡ v → HasOnly v w.cells → length w.cells ≡ w.place.height * w.place.width → fold f n (seen_under (seen_at w) element x y) ≡ v
uniform_neutral f n v w element x y again same only size =
    ap (λ (t : ℕ). fold f t (seen_under (seen_at w) element x y)) same
    ∙ fold_only f v (λ (b : Offset). seen_at w (pos x +ℤ b.dx) (pos y +ℤ b.dy)) again
    (λ b. cell_or_none v w.place.width w.place.height w.cells only size (pos x +ℤ b.dx -ℤ pos w.place.x) (pos y +ℤ b.dy -ℤ pos w.place.y)) element

-- some offset keeps the tile in the window
pub uniform_seen : (f : ℕ → ℕ → ℕ) (n v : ℕ) (w : View ℕ) (element : List Offset) (tile place : Rect) (k x y : ℕ) → f n v ≡ v → f v v ≡ v → HasOnly v w.cells → length w.cells ≡ w.place.height * w.place.width → place ≡ w.place
    → k < length element → TileStays tile (offset_at element k).dx (offset_at element k).dy place → x < tile.width → y < tile.height → fold f n (seen_under (seen_at w) element (tile.x + x) (tile.y + y)) ≡ v
uniform_seen f n v w element tile place k x y first again only size place-is lt stays less row_less =
    let none : Offset = record { dx = pos 0; dy = pos 0 } in
    let b = offset_at element k in
    let at_x = ap (λ (t : Rect). t.x) place-is in
    let at_y = ap (λ (t : Rect). t.y) place-is in
    let wide = ap (λ (t : Rect). t.width) place-is in
    let high = ap (λ (t : Rect). t.height) place-is in
    let column = pos (tile.x + x) +ℤ b.dx -ℤ pos w.place.x in
    let row = pos (tile.y + y) +ℤ b.dy -ℤ pos w.place.y in
    let column-is : column ≡ pos (nat_abs column) = omega (arith, ints, stays.across.from, at_x) in
    let row-is : row ≡ pos (nat_abs row) = omega (arith, ints, stays.down.from, at_y) in
    let inside : nat_abs column < w.place.width = omega (arith, ints, column-is, stays.across.to, at_x, wide) in
    let above : nat_abs row < w.place.height = omega (arith, ints, row-is, stays.down.to, at_y, high) in
    fold_seen f n v (λ (o : Offset). seen_at w (pos (tile.x + x) +ℤ o.dx) (pos (tile.y + y) +ℤ o.dy)) first again
    (λ o. cell_or_none v w.place.width w.place.height w.cells only size (pos (tile.x + x) +ℤ o.dx -ℤ pos w.place.x) (pos (tile.y + y) +ℤ o.dy -ℤ pos w.place.y))
    element k none lt
    (ap (λ (t : ℤ). cell_at (raster w.place.width w.place.height w.cells) t row) column-is
    ∙ ap (cell_at (raster w.place.width w.place.height w.cells) (pos (nat_abs column))) row-is
    ∙ cell_inside v w.place.width w.place.height w.cells only size (nat_abs column) (nat_abs row) inside above)

pub pixel_small : (b : Bool) → cond b 1 0 ≤ 1
pixel_small b = elim b as (λ t. cond t 1 0 ≤ 1) [ true ↦ omega arith | false ↦ omega arith ]

-- a tile of one pixel throughout
pub uniform_made : (f : ℕ → ℕ → ℕ) (n v : ℕ) (sight : Sight ℕ) (element : List Offset) (tile : Rect) (r : Raster ℕ) → r ≡ raster tile.width tile.height (replicate (tile.height * tile.width) v)
    → ((x y : ℕ) → x < tile.width → y < tile.height → fold f n (seen_under sight element (tile.x + x) (tile.y + y)) ≡ v) → IsSlidingExtremum f n sight element tile r
uniform_made f n v sight element tile r r-is same =
    let count = tile.height * tile.width in
    tile_made f n 0 sight element tile (replicate count v) r r-is (length-replicate count v)
    (λ x y less row_less. get_or-replicate count (y * tile.width + x) v 0 (omega (arith, mul-add-lt y tile.width x tile.height row_less less)) ∙ sym (same x y less row_less))

-- the first offset of a list
pub record HasFirst (x0 y0 : ℤ) (offsets : List Offset) : Type 0 where
  pub some : 0 < length offsets
  pub dx : (offset_at offsets 0).dx ≡ x0
  pub dy : (offset_at offsets 0).dy ≡ y0

abbrev boxed : ℤ → ℤ → ℕ → ℕ → List Offset
boxed x0 y0 columns rows = flat_map (λ j. map (λ i. record { dx = x0 +ℤ pos i; dy = y0 +ℤ pos j }) (range_with_len 0 columns)) (range_with_len 0 rows)

first_boxed : (x0 y0 : ℤ) (columns rows : ℕ) → 0 < columns → 0 < rows → HasFirst x0 y0 (boxed x0 y0 columns rows)
first_boxed x0 y0 zero rows across down = absurd (omega arith)
first_boxed x0 y0 (suc columns) zero across down = absurd (omega arith)
first_boxed x0 y0 (suc columns) (suc rows) across down = record { some = omega arith; dx = omega (arith, ints); dy = omega (arith, ints) }

box_first : (box : OffsetBox) → box.x0 ≤ℤ box.x1 → box.y0 ≤ℤ box.y1 → HasFirst box.x0 box.y0 (box_offsets box)
box_first box across down =
    first_boxed box.x0 box.y0 (span box.x0 box.x1) (span box.y0 box.y1) (omega (arith, ints, nonnegative_is (box.x1 -ℤ box.x0 +ℤ pos 1))) (omega (arith, ints, nonnegative_is (box.y1 -ℤ box.y0 +ℤ pos 1)))

-- a box whose first offset keeps the tile in the window
pub uniform_boxed : (f : ℕ → ℕ → ℕ) (n v : ℕ) (w : View ℕ) (box : OffsetBox) (tile place : Rect) (dx dy : ℤ) (x y : ℕ) → f n v ≡ v → f v v ≡ v → HasOnly v w.cells → length w.cells ≡ w.place.height * w.place.width → place ≡ w.place
    → dx ≡ box.x0 → dy ≡ box.y0 → box.x0 ≤ℤ box.x1 → box.y0 ≤ℤ box.y1 → TileStays tile dx dy place → x < tile.width → y < tile.height
    → fold f n (seen_under (seen_at w) (box_offsets box) (tile.x + x) (tile.y + y)) ≡ v
uniform_boxed f n v w box tile place dx dy x y first again only size place-is dx-is dy-is across down stays less row_less =
    let here = box_first box across down in
    uniform_seen f n v w (box_offsets box) tile place 0 x y first again only size place-is here.some
    (subst (λ (t : ℤ). TileStays tile t (offset_at (box_offsets box) 0).dy place) (dx-is ∙ sym here.dx) (subst (λ (t : ℤ). TileStays tile dx t place) (dy-is ∙ sym here.dy) stays)) less row_less
