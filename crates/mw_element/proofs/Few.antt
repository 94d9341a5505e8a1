-- An element has no more offsets than its bitmap has pixels.
use Rattle.std.proofs.Common.{◌≡◌, ℕ, zero, suc, ◌+◌, ◌*◌, ◌≤◌, List, length, Option, Some, None, ap, arith, length-append}
use Rattle.std.specs.List.{cons_option}
use Rattle.std.proofs.Math.Nat.{mul-le-mul_left, mul_comm}
use Rattle.mw_model.specs.declared.offsets.Offset.{Offset}
use Rattle.mw_model.specs.Rasters.{Raster}
use Rattle.mw_model.specs.Bitmaps.{IsBitmap}
use Rattle.mw_model.specs.Elements.{element_side, offsets_in_row, offsets_of}
use Rattle.mw_element.proofs.Found.{bitmap_sides}
use Rattle.mw_element.proofs.Rows.{pixel_offset, row_part, rows_part}

length-cons_option : {A : Type 0} (o : Option A) (xs : List A) → length (cons_option o xs) ≤ length xs + 1
length-cons_option None xs = omega arith
length-cons_option (Some x) xs = omega arith

few_in_row : (f : Raster ℕ) (ox oy y x n : ℕ) → length (row_part f ox oy y x n) ≤ n
few_in_row f ox oy y x zero = omega arith
few_in_row f ox oy y x (suc n) = omega (arith, length-cons_option (pixel_offset f ox oy y x) (row_part f ox oy y (x + 1) n), few_in_row f ox oy y (x + 1) n)

few_in_rows : (f : Raster ℕ) (ox oy y n : ℕ) → length (rows_part f ox oy y n) ≤ n * f.width
few_in_rows f ox oy y zero = omega arith
few_in_rows f ox oy y (suc n) =
    omega (arith, length-append (offsets_in_row f ox oy y) (rows_part f ox oy (y + 1) n), few_in_row f ox oy y 0 f.width, few_in_rows f ox oy (y + 1) n)

area-small : (w h : ℕ) → w ≤ 255 → h ≤ 255 → h * w ≤ 65025
area-small w h narrow low = omega (arith, mul-le-mul_left w low, mul-le-mul_left 255 narrow, mul_comm w 255)

pub few_within : (f : Raster ℕ) (ox oy : ℕ) (found : List Offset) → f.width ≤ 255 → f.height ≤ 255 → found ≡ offsets_of f ox oy → length found ≤ 65025
few_within f ox oy found narrow low e = omega (arith, ap (λ (xs : List Offset). length xs) e, few_in_rows f ox oy 0 f.height, area-small f.width f.height narrow low)

pub few_offsets : (bytes : List ℕ) (f : Raster ℕ) (ox oy : ℕ) (found : List Offset) → IsBitmap bytes element_side f → found ≡ offsets_of f ox oy → length found ≤ 65025
few_offsets bytes f ox oy found is e =
    let s = bitmap_sides bytes element_side f is in
    few_within f ox oy found s.2 s.3 e
