-- Rows that are added one after another.
use Rattle.std.proofs.Common.{◌≡◌, ℕ, ◌+◌, ◌*◌, ◌<◌, List, [], ◌∷◌, ◌++◌, map, length, get_or, Some, slice_get, refl, ap, sym, arith, ◌∙◌, inl, inr, length-append}
use Rattle.std.proofs.lemmas.Bool.{cases_lt}
use Rattle.std.proofs.lemmas.Nat.{mul-add-lt}
use Rattle.std.proofs.lemmas.List.{get_or_append_left, get_or-append_right, map-id}
use Rattle.std.proofs.lemmas.Option.{slice_get-get_or}
use Rattle.std.proofs.Math.Nat.{add-sub_cancel_left}
use Rattle.mw_model.specs.declared.offsets.Offset.{Offset}
use Rattle.mw_model.specs.declared.offsets.Rect.{Rect}
use Rattle.mw_model.specs.PlanSteps.{ranked}
use Rattle.mw_model.specs.Rasters.{Raster, raster, cell_at, Sight, seen_under}
use Rattle.mw_model.specs.Flat.{under, rank}
use Rattle.mw_model.specs.Pictures.{Picture, IsPicture, sample}
use Rattle.mw_model.specs.Rectangles.{IsWithin}
use Rattle.mw_model.proofs.ImagePlaces.{sample-redrawn}
use Rattle.mw_tile.specs.mw_pixel.Images.{raster_of}
use Rattle.mw_tile.proofs.mw_pixel.Cells.{seen_under-raster_of}
use Rattle.mw_model.specs.Windows.{View, seen_at}
use Rattle.mw_tile.specs.Windows.{IsWindow}
use Rattle.mw_tile.proofs.Shown.{seen_under-window}
use Rattle.mw_rank.specs.Ranks.{levels_under, IsRank, GainsRow, HasRows}

pub gains_more : {A : Type 0} (level : A → ℕ) (value : ℕ → ℕ) (n : ℕ) (old out new : List A) (s : A) → new ≡ out ++ s ∷ [] → level s ≡ value n → GainsRow level value n old out → GainsRow level value (n + 1) old new
gains_more level value n old out new s is s-is t = record {
  size = omega (arith, ap length is, length-append out (s ∷ []), t.size);
  kept = λ p d lt. ap (λ (l : List _). get_or l p d) is ∙ get_or_append_left out (s ∷ []) d p (omega (arith, t.size)) ∙ t.kept p d lt;
  made = λ x d lt. elim (cases_lt x n) [
    | inl earlier ↦
        ap (λ (l : List _). level (get_or l (length old + x) d)) is ∙ ap level (get_or_append_left out (s ∷ []) d (length old + x) (omega (arith, t.size))) ∙ t.made x d earlier
    | inr this ↦
        let x-is : x ≡ n = omega arith in
        let place : length old + x ≡ length out + 0 = omega (arith, t.size) in
        ap (λ (l : List _). level (get_or l (length old + x) d)) is
        ∙ ap (λ (p : ℕ). level (get_or (out ++ s ∷ []) p d)) place
        ∙ ap level (get_or-append_right out (s ∷ []) (length out) (length out + 0) d refl (omega arith))
        ∙ ap (λ (p : ℕ). level (get_or (s ∷ []) p d)) (add-sub_cancel_left (length out) 0)
        ∙ s-is
        ∙ ap value (sym x-is)
  ];
}

pub has_rows_more : {A : Type 0} (level : A → ℕ) (value : ℕ → ℕ → ℕ) (row : ℕ → ℕ) (w n : ℕ) (out new : List A) → ((x : ℕ) → row x ≡ value x n) → GainsRow level row w out new → HasRows level value w n out → HasRows level value w (n + 1) new
has_rows_more level value row w n out new row-is gains before = record {
  size = omega (arith, gains.size, before.size);
  made = λ x j d less row_less. elim (cases_lt j n) [
    | inl earlier ↦ ap level (gains.kept (j * w + x) d (omega (arith, before.size, mul-add-lt j w x n earlier less))) ∙ before.made x j d less earlier
    | inr this ↦
        let j-is : j ≡ n = omega arith in
        ap (λ (t : ℕ). level (get_or new (t * w + x) d)) j-is
        ∙ ap (λ (t : ℕ). level (get_or new (t + x) d)) (sym before.size)
        ∙ gains.made x d less
        ∙ row-is x
        ∙ ap (value x) (sym j-is)
  ];
}

-- where the window has all that the frame has under the element, the rank is that of the frame
pub on_frame : {A : Type 0} (level : A → ℕ) (k : ℕ) (w : View A) (frame : Raster A) (element : List Offset) (tile : Rect) (r : Raster A) → IsRank level k (seen_at w) element tile r
    → IsWindow w frame element tile → IsRank level k (cell_at frame) element tile r
on_frame level k w frame element tile r made window = record {
  width = made.width;
  height = made.height;
  size = made.size;
  cells = λ x y d less row_less. made.cells x y d less row_less ∙ ap (λ (t : List _). ranked k (map level t)) (seen_under-window w frame element tile window x y less row_less);
}

pub is_rank : {A : Type 0} (level : A → ℕ) (k : ℕ) (sight : Sight A) (element : List Offset) (tile : Rect) (items : List A) (r : Raster A) → r ≡ raster tile.width tile.height items
    → HasRows level (λ x y. ranked k (levels_under level sight element (tile.x + x) (tile.y + y))) tile.width tile.height items → IsRank level k sight element tile r
is_rank level k sight element tile items r r-is rows = record {
  width = ap (λ (t : Raster _). t.width) r-is;
  height = ap (λ (t : Raster _). t.height) r-is;
  size = ap (λ (t : Raster _). length t.cells) r-is ∙ rows.size;
  cells = λ x y d less row_less. ap (λ (t : Raster _). level (get_or t.cells (y * tile.width + x) d)) r-is ∙ rows.made x y d less row_less;
}

-- the ranks of the levels of an image are those of the rank filter
pub rank_filter : (f : Picture) (element : List Offset) (k : ℕ) (tile : Rect) (r : Raster ℕ) → IsPicture f → IsWithin tile f.width f.height → IsRank (λ p. p) k (cell_at (raster_of f)) element tile r
    → (x y : ℕ) → x < tile.width → y < tile.height → slice_get r.cells (y * tile.width + x) ≡ Some (sample (rank element k f) (tile.x + x) (tile.y + y))
rank_filter f element k tile r picture within made x y less row_less =
    slice_get-get_or r.cells (y * tile.width + x) 0 (omega (arith, made.size, mul-add-lt y tile.width x tile.height row_less less))
    ∙ ap Some
    (made.cells x y 0 less row_less
    ∙ ap (ranked k) (map-id (seen_under (cell_at (raster_of f)) element (tile.x + x) (tile.y + y)) ∙ seen_under-raster_of f picture.size element (tile.x + x) (tile.y + y))
    ∙ sym (sample-redrawn f (λ i j. ranked k (under f element i j)) (tile.x + x) (tile.y + y) (omega (arith, within.across)) (omega (arith, within.down))))
