-- One extremum less another, and of tiles of such differences.
use Rattle.std.proofs.Common.{◌≡◌, ℕ, ◌+◌, ◌-◌, ◌*◌, ◌<◌, List, length, fold, get_or, refl, ap, sym, subst, arith, ◌∙◌}
use Rattle.std.proofs.lemmas.List.{get_or_default}
use Rattle.mw_model.specs.declared.offsets.OffsetBox.{OffsetBox}
use Rattle.mw_model.specs.declared.offsets.Rect.{Rect}
use Rattle.mw_model.specs.Rasters.{raster, seen_under}
use Rattle.mw_model.specs.Rectangles.{box_offsets}
use Rattle.mw_model.specs.Windows.{View, seen_at}
use Rattle.mw_line.specs.Cells.{merged_cell}
use Rattle.mw_line.specs.Extrema.{over_box}
use Rattle.mw_line.proofs.Folds.{IsExtremum}
use Rattle.mw_line.proofs.Rows.{rows_fit}
use Rattle.mw_line.proofs.Tiles.{IsLooked-sides, tile_cell}
use Rattle.mw_line_lent.specs.declared.boxes.Boxes.{Boxes}
use Rattle.mw_line_lent.specs.Bests.{IsBest}
use Rattle.mw_line_lent.specs.Boxes.{AreBoxesOf}
use Rattle.mw_line_lent.specs.Differences.{HasDifferences, IsBestLess, IsSlidingDifference}
use Rattle.mw_line_lent.proofs.Bests.{best_box}

-- the same places, of which the end is named otherwise
pub best_less_at : {A : Type 0} (level : A → ℕ) (f : A → A → A) (v : ℕ → A) (g : A → A → A) (u : ℕ → A) (a b d : ℕ) (r : A) → b ≡ d → IsBestLess level f v g u a b r → IsBestLess level f v g u a d r
best_less_at level f v g u a b d r is best = subst (λ (t : ℕ). IsBestLess level f v g u a t r) is best

-- the difference of columns that are the best of their cells is that of the extrema over the box
pub less_box : {A : Type 0} (level : A → ℕ) (f : A → A → A) → IsExtremum f → (v : ℕ → ℕ → A) (line : ℕ → A) (g : A → A → A) → IsExtremum g → (u : ℕ → ℕ → A) (other : ℕ → A) (x y k l : ℕ) (r : A) → 0 < k → 0 < l
    → ((j : ℕ) → j < x + k → IsBest f (v j) y (y + l) (line j)) → ((j : ℕ) → j < x + k → IsBest g (u j) y (y + l) (other j)) → IsBestLess level f line g other x (x + k) r
    → level r ≡ level (over_box f v k l x y) - level (over_box g u k l x y)
less_box level f laws v line g others u other x y k l r some_k some_l columns more less =
    less.less
    ∙ ap (λ (t : _). level t - level less.low) (best_box f laws v line x y k l less.high some_k some_l (λ j from to. columns j to) less.greatest)
    ∙ ap (λ (t : _). level (over_box f v k l x y) - level t) (best_box g others u other x y k l less.low some_k some_l (λ j from to. more j to) less.least)

pub differences_made : {A : Type 0} (level : A → ℕ) (f : A → A → A) → IsExtremum f → (n : A) (g : A → A → A) → IsExtremum g → (m : A) (w : View A) (place : Rect) (box : OffsetBox) (tile : Rect) (b : Boxes) (out : List A) → place ≡ w.place → 0 < b.across → 0 < b.down
    → AreBoxesOf place box tile b → length out ≡ tile.height * tile.width → HasDifferences level f n g m w b b.height out → IsSlidingDifference level f n g m (seen_at w) (box_offsets box) tile (raster tile.width tile.height out)
differences_made level f laws n g others m w place box tile b out is across down of size made =
    let known = IsLooked-sides w box tile place box.x0 box.x1 box.y0 box.y1 of.ahead b.across of.above b.down is refl refl refl refl of.across of.down in
    record {
      width = refl;
      height = refl;
      size = size;
      cells = λ x y d less row_less.
          let upper = over_box f (merged_cell f n w b.column b.row) b.across b.down x y in
          let lower = over_box g (merged_cell g m w b.column b.row) b.across b.down x y in
          ap level (get_or_default out (y * tile.width + x) d n (omega (arith, size, rows_fit y tile.height tile.width row_less, less)))
          ∙ ap (λ (t : ℕ). level (get_or out (y * t + x) n)) (sym of.width)
          ∙ made x y (omega (arith, less, of.width)) (omega (arith, row_less, of.height))
          ∙ ap (λ (t : _). level t - level lower) (tile_cell f laws n w box tile place box.x0 box.x1 box.y0 box.y1 of.ahead b.across of.above b.down known across down b.column b.row of.column of.row x y less row_less)
          ∙ ap (λ (t : _). level (fold f n (seen_under (seen_at w) (box_offsets box) (tile.x + x) (tile.y + y))) - level t)
          (tile_cell g others m w box tile place box.x0 box.x1 box.y0 box.y1 of.ahead b.across of.above b.down known across down b.column b.row of.column of.row x y less row_less);
    }
