-- A tile of extrema over a box of what a window shows.
use Rattle.std.proofs.Common.{◌≡◌, ◌⊎◌, ℕ, zero, suc, ◌+◌, ◌-◌, ◌*◌, ◌<◌, ◌≤◌, ℤ, pos, ◌+ℤ◌, ◌-ℤ◌, List, [], Some, None, slice_get, get_or, length, replicate, fold, refl, ap, sym, arith, ◌∙◌, inl, inr}
use Rattle.std.proofs.lemmas.Bool.{cases_lt}
use Rattle.std.proofs.lemmas.Int.{ints}
use Rattle.std.proofs.lemmas.List.{length-replicate}
use Rattle.std.proofs.lemmas.Option.{slice_get-get_or}
use Rattle.mw_model.specs.declared.offsets.Offset.{Offset}
use Rattle.mw_model.specs.declared.offsets.OffsetBox.{OffsetBox}
use Rattle.mw_model.specs.declared.offsets.Rect.{Rect}
use Rattle.mw_model.specs.Rectangles.{span, box_offsets}
use Rattle.mw_model.specs.Rasters.{Raster, raster, cell_at, Sight, seen_under}
use Rattle.mw_model.specs.Windows.{View, seen_at}
use Rattle.mw_tile.specs.Windows.{IsWindow}
use Rattle.mw_tile.proofs.Shown.{seen_under-window}
use Rattle.mw_lane.specs.Shifted.{merge_at}
use Rattle.mw_line.specs.Extrema.{over, IsSlidingExtremum}
use Rattle.mw_line.specs.Sides.{IsSeenSide}
use Rattle.mw_line.proofs.Folds.{IsExtremum}
use Rattle.mw_line.proofs.Over.{over_same}
use Rattle.mw_line.proofs.Seen.{no_row_seen, no_column_seen}
use Rattle.mw_line.proofs.Spans.{seen_part, nothing_across, nothing_down, Outside}
use Rattle.mw_line.proofs.Rows.{rows_fit}

-- the rectangle of the window as the code reads it, and the box's sides
pub record IsLooked {A : Type 0} (w : View A) (box : OffsetBox) (tile place : Rect) (x0 x1 y0 y1 : ℤ) (a k c l : ℕ) : Type 0 where
  pub place_x : place.x ≡ w.place.x
  pub place_y : place.y ≡ w.place.y
  pub place_width : place.width ≡ w.place.width
  pub place_height : place.height ≡ w.place.height
  pub x0_is : x0 ≡ box.x0
  pub x1_is : x1 ≡ box.x1
  pub y0_is : y0 ≡ box.y0
  pub y1_is : y1 ≡ box.y1
  pub across : IsSeenSide tile.x tile.width place.x place.width x0 x1 a k
  pub down : IsSeenSide tile.y tile.height place.y place.height y0 y1 c l

span_across : {A : Type 0} (w : View A) (box : OffsetBox) (tile place : Rect) (x0 x1 y0 y1 : ℤ) (a k c l : ℕ) → IsLooked w box tile place x0 x1 y0 y1 a k c l → span x0 x1 ≡ span box.x0 box.x1
span_across w box tile place x0 x1 y0 y1 a k c l b = ap (λ (t : ℤ). span t x1) b.x0_is ∙ ap (λ (t : ℤ). span box.x0 t) b.x1_is

span_down : {A : Type 0} (w : View A) (box : OffsetBox) (tile place : Rect) (x0 x1 y0 y1 : ℤ) (a k c l : ℕ) → IsLooked w box tile place x0 x1 y0 y1 a k c l → span y0 y1 ≡ span box.y0 box.y1
span_down w box tile place x0 x1 y0 y1 a k c l b = ap (λ (t : ℤ). span t y1) b.y0_is ∙ ap (λ (t : ℤ). span box.y0 t) b.y1_is

outside_column : {A : Type 0} (w : View A) (box : OffsetBox) (tile place : Rect) (x0 x1 y0 y1 : ℤ) (a k c l : ℕ) → IsLooked w box tile place x0 x1 y0 y1 a k c l
    → (x : ℕ) → x < tile.width → (i : ℕ) (row : ℤ) → Outside a k (span box.x0 box.x1) i → seen_at w (pos (tile.x + x) +ℤ (box.x0 +ℤ pos i)) row ≡ None
outside_column w box tile place x0 x1 y0 y1 a k c l b x less i row (out, lt) =
    elim out [
      | inl before ↦
          let far = b.across.before x i less before in
          no_column_seen w.place.width w.place.height w.cells (pos (tile.x + x) +ℤ (box.x0 +ℤ pos i) -ℤ pos w.place.x) (row -ℤ pos w.place.y) (inl (omega (arith, ints, far, b.x0_is, b.place_x)))
      | inr behind ↦
          let width = span_across w box tile place x0 x1 y0 y1 a k c l b in
          let far = b.across.behind x i less behind (omega (arith, width)) in
          no_column_seen w.place.width w.place.height w.cells (pos (tile.x + x) +ℤ (box.x0 +ℤ pos i) -ℤ pos w.place.x) (row -ℤ pos w.place.y) (inr (omega (arith, ints, far, b.x0_is, b.place_x, b.place_width)))
    ]

outside_row : {A : Type 0} (w : View A) (box : OffsetBox) (tile place : Rect) (x0 x1 y0 y1 : ℤ) (a k c l : ℕ) → IsLooked w box tile place x0 x1 y0 y1 a k c l
    → (y : ℕ) → y < tile.height → (j : ℕ) (column : ℤ) → Outside c l (span box.y0 box.y1) j → seen_at w column (pos (tile.y + y) +ℤ (box.y0 +ℤ pos j)) ≡ None
outside_row w box tile place x0 x1 y0 y1 a k c l b y less j column (out, lt) =
    elim out [
      | inl before ↦
          let far = b.down.before y j less before in
          no_row_seen w.place.width w.place.height w.cells (column -ℤ pos w.place.x) (pos (tile.y + y) +ℤ (box.y0 +ℤ pos j) -ℤ pos w.place.y) (inl (omega (arith, ints, far, b.y0_is, b.place_y)))
      | inr behind ↦
          let height = span_down w box tile place x0 x1 y0 y1 a k c l b in
          let far = b.down.behind y j less behind (omega (arith, height)) in
          no_row_seen w.place.width w.place.height w.cells (column -ℤ pos w.place.x) (pos (tile.y + y) +ℤ (box.y0 +ℤ pos j) -ℤ pos w.place.y) (inr (omega (arith, ints, far, b.y0_is, b.place_y, b.place_height)))
    ]

-- a place of the tile, from what the buffers gave
pub tile_cell : {A : Type 0} (f : A → A → A) → IsExtremum f → (n : A) (w : View A) (box : OffsetBox) (tile place : Rect) (x0 x1 y0 y1 : ℤ) (a k c l : ℕ) → IsLooked w box tile place x0 x1 y0 y1 a k c l
    → 0 < k → 0 < l → (column row : ℤ) → column ≡ pos tile.x +ℤ (x0 +ℤ pos a) -ℤ pos place.x → row ≡ pos tile.y +ℤ (y0 +ℤ pos c) -ℤ pos place.y
    → (x y : ℕ) → x < tile.width → y < tile.height
    → over f (λ j. over f (λ i. merge_at f n (cell_at (raster w.place.width w.place.height w.cells) (column +ℤ pos (x + i)) (row +ℤ pos (y + j)))) 0 (k - 1)) 0 (l - 1) ≡ fold f n (seen_under (seen_at w) (box_offsets box) (tile.x + x) (tile.y + y))
tile_cell f laws n w box tile place x0 x1 y0 y1 a k c l b some_k some_l column row column-is row-is x y less row_less =
    let width = span_across w box tile place x0 x1 y0 y1 a k c l b in
    let height = span_down w box tile place x0 x1 y0 y1 a k c l b in
    let at = λ (q p : ℤ). merge_at f n (cell_at (raster w.place.width w.place.height w.cells) p q) in
    over_same f (λ j. over f (λ i. at (row +ℤ pos (y + j)) (column +ℤ pos (x + i))) 0 (k - 1))
    (λ j. over f (λ i. at (pos (tile.y + y) +ℤ (box.y0 +ℤ pos (c + j)) -ℤ pos w.place.y) (pos (tile.x + x) +ℤ (box.x0 +ℤ pos (a + i)) -ℤ pos w.place.x)) 0 (k - 1)) 0 (l - 1)
    (λ j from to. over_same f (λ i. at (row +ℤ pos (y + j)) (column +ℤ pos (x + i)))
    (λ i. at (pos (tile.y + y) +ℤ (box.y0 +ℤ pos (c + j)) -ℤ pos w.place.y) (pos (tile.x + x) +ℤ (box.x0 +ℤ pos (a + i)) -ℤ pos w.place.x)) 0 (k - 1)
    (λ i after before.
    let same_row : row +ℤ pos (y + j) ≡ pos (tile.y + y) +ℤ (box.y0 +ℤ pos (c + j)) -ℤ pos w.place.y = omega (arith, ints, row-is, b.y0_is, b.place_y) in
    let same_column : column +ℤ pos (x + i) ≡ pos (tile.x + x) +ℤ (box.x0 +ℤ pos (a + i)) -ℤ pos w.place.x = omega (arith, ints, column-is, b.x0_is, b.place_x) in
    ap (λ (t : ℤ). at t (column +ℤ pos (x + i))) same_row ∙ ap (at (pos (tile.y + y) +ℤ (box.y0 +ℤ pos (c + j)) -ℤ pos w.place.y)) same_column))
    ∙ sym (seen_part f laws n (seen_at w) box (tile.x + x) (tile.y + y) a k c l some_k some_l (omega (arith, b.across.within some_k, width)) (omega (arith, b.down.within some_l, height))
    (outside_column w box tile place x0 x1 y0 y1 a k c l b x less) (outside_row w box tile place x0 x1 y0 y1 a k c l b y row_less))

all_out : (i a k : ℕ) → k ≡ 0 → (i < a) ⊎ (a + k ≤ i)
all_out i a k none = elim (cases_lt i a) [ inl before ↦ inl before | inr behind ↦ inr (omega arith) ]

-- a tile that sees nothing
pub tile_sees_nothing : {A : Type 0} (w : View A) (box : OffsetBox) (tile place : Rect) (x0 x1 y0 y1 : ℤ) (a k c l : ℕ) → IsLooked w box tile place x0 x1 y0 y1 a k c l
    → (k ≡ 0) ⊎ (l ≡ 0) → (x y : ℕ) → x < tile.width → y < tile.height → seen_under (seen_at w) (box_offsets box) (tile.x + x) (tile.y + y) ≡ []
tile_sees_nothing w box tile place x0 x1 y0 y1 a k c l b (inl none) x y less row_less =
    nothing_across (seen_at w) box (tile.x + x) (tile.y + y) (λ i row lt. outside_column w box tile place x0 x1 y0 y1 a k c l b x less i row (all_out i a k none, lt))
tile_sees_nothing w box tile place x0 x1 y0 y1 a k c l b (inr none) x y less row_less =
    nothing_down (seen_at w) box (tile.x + x) (tile.y + y) (λ j column lt. outside_row w box tile place x0 x1 y0 y1 a k c l b y row_less j column (all_out j c l none, lt))

get-replicate : {A : Type 0} (m i : ℕ) (n : A) → i < m → slice_get (replicate m n) i ≡ Some n
get-replicate zero i n lt = absurd (omega arith)
get-replicate (suc m) zero n lt = refl
get-replicate (suc m) (suc i) n lt = get-replicate m i n (omega arith)

-- a tile of neutral samples, where nothing is seen
pub neutral_tile : {A : Type 0} (f : A → A → A) (n : A) (sight : Sight A) (box : OffsetBox) (tile : Rect) (r : Raster A) → r ≡ raster tile.width tile.height (replicate (tile.height * tile.width) n)
    → ((x y : ℕ) → x < tile.width → y < tile.height → seen_under sight (box_offsets box) (tile.x + x) (tile.y + y) ≡ []) → IsSlidingExtremum f n sight (box_offsets box) tile r
neutral_tile f n sight box tile r r-is nothing = record {
  width = ap (λ (t : Raster _). t.width) r-is;
  height = ap (λ (t : Raster _). t.height) r-is;
  size = ap (λ (t : Raster _). length t.cells) r-is ∙ length-replicate (tile.height * tile.width) n;
  cells = λ x y less row_less.
      ap (λ (t : Raster _). slice_get t.cells (y * tile.width + x)) r-is
      ∙ get-replicate (tile.height * tile.width) (y * tile.width + x) n (omega (arith, rows_fit y tile.height tile.width row_less))
      ∙ ap (λ (t : List _). Some (fold f n t)) (sym (nothing x y less row_less));
}

-- a tile, place by place
pub tile_made : {A : Type 0} (f : A → A → A) (n d : A) (sight : Sight A) (element : List Offset) (tile : Rect) (items : List A) (r : Raster A) → r ≡ raster tile.width tile.height items → length items ≡ tile.height * tile.width
    → ((x y : ℕ) → x < tile.width → y < tile.height → get_or items (y * tile.width + x) d ≡ fold f n (seen_under sight element (tile.x + x) (tile.y + y))) → IsSlidingExtremum f n sight element tile r
tile_made f n d sight element tile items r r-is size cells = record {
  width = ap (λ (t : Raster _). t.width) r-is;
  height = ap (λ (t : Raster _). t.height) r-is;
  size = ap (λ (t : Raster _). length t.cells) r-is ∙ size;
  cells = λ x y less row_less.
      ap (λ (t : Raster _). slice_get t.cells (y * tile.width + x)) r-is
      ∙ slice_get-get_or items (y * tile.width + x) d (omega (arith, size, rows_fit y tile.height tile.width row_less))
      ∙ ap Some (cells x y less row_less);
}

-- where the window has all that the frame has under the element, the extremum is that of the frame
pub on_frame : {A : Type 0} (f : A → A → A) (n : A) (w : View A) (frame : Raster A) (element : List Offset) (tile : Rect) (r : Raster A) → IsSlidingExtremum f n (seen_at w) element tile r
    → IsWindow w frame element tile → IsSlidingExtremum f n (cell_at frame) element tile r
on_frame f n w frame element tile r made window = record {
  width = made.width;
  height = made.height;
  size = made.size;
  cells = λ x y less row_less. made.cells x y less row_less ∙ ap (λ (t : List _). Some (fold f n t)) (seen_under-window w frame element tile window x y less row_less);
}

pub IsLooked-sides : {A : Type 0} (w : View A) (box : OffsetBox) (tile place : Rect) (x0 x1 y0 y1 : ℤ) (a k c l : ℕ) → place ≡ w.place → x0 ≡ box.x0 → x1 ≡ box.x1 → y0 ≡ box.y0 → y1 ≡ box.y1
    → IsSeenSide tile.x tile.width place.x place.width x0 x1 a k → IsSeenSide tile.y tile.height place.y place.height y0 y1 c l → IsLooked w box tile place x0 x1 y0 y1 a k c l
IsLooked-sides w box tile place x0 x1 y0 y1 a k c l place-is x0-is x1-is y0-is y1-is across down = record {
  place_x = ap (λ (t : Rect). t.x) place-is;
  place_y = ap (λ (t : Rect). t.y) place-is;
  place_width = ap (λ (t : Rect). t.width) place-is;
  place_height = ap (λ (t : Rect). t.height) place-is;
  x0_is = x0-is;
  x1_is = x1-is;
  y0_is = y0-is;
  y1_is = y1-is;
  across = across;
  down = down;
}

-- a tile for which the code looks nowhere
pub blank_tile : {A : Type 0} (f : A → A → A) (n : A) (w : View A) (box : OffsetBox) (tile place : Rect) (x0 x1 y0 y1 : ℤ) (a k c l : ℕ) (r : Raster A) → IsLooked w box tile place x0 x1 y0 y1 a k c l
    → (k ≡ 0) ⊎ ((l ≡ 0) ⊎ ((tile.width ≡ 0) ⊎ (tile.height ≡ 0))) → r ≡ raster tile.width tile.height (replicate (tile.height * tile.width) n) → IsSlidingExtremum f n (seen_at w) (box_offsets box) tile r
blank_tile f n w box tile place x0 x1 y0 y1 a k c l r b (inl none) r-is =
    neutral_tile f n (seen_at w) box tile r r-is (tile_sees_nothing w box tile place x0 x1 y0 y1 a k c l b (inl none))
blank_tile f n w box tile place x0 x1 y0 y1 a k c l r b (inr (inl none)) r-is =
    neutral_tile f n (seen_at w) box tile r r-is (tile_sees_nothing w box tile place x0 x1 y0 y1 a k c l b (inr none))
blank_tile f n w box tile place x0 x1 y0 y1 a k c l r b (inr (inr (inl none))) r-is = neutral_tile f n (seen_at w) box tile r r-is (λ x y less row_less. absurd (omega arith))
blank_tile f n w box tile place x0 x1 y0 y1 a k c l r b (inr (inr (inr none))) r-is = neutral_tile f n (seen_at w) box tile r r-is (λ x y less row_less. absurd (omega arith))

-- which of four numbers is 0
pub one_is_none : (a b c d : ℕ) → (a ≡ 0) ⊎ (((a ≡ 0 → ⊥) × (b ≡ 0)) ⊎ (((a ≡ 0 → ⊥) × (b ≡ 0 → ⊥) × (c ≡ 0)) ⊎ ((a ≡ 0 → ⊥) × (b ≡ 0 → ⊥) × (c ≡ 0 → ⊥) × (d ≡ 0))))
    → (a ≡ 0) ⊎ ((b ≡ 0) ⊎ ((c ≡ 0) ⊎ (d ≡ 0)))
one_is_none a b c d (inl none) = inl none
one_is_none a b c d (inr (inl (p, none))) = inr (inl none)
one_is_none a b c d (inr (inr (inl (p, q, none)))) = inr (inr (inl none))
one_is_none a b c d (inr (inr (inr (p, q, r, none)))) = inr (inr (inr none))
