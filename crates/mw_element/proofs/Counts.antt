-- How many offsets the pixels of a bitmap give, counted before there is room for them.
use Rattle.std.proofs.Common.{◌≡◌, ℕ, ◌+◌, ◌*◌, ◌++◌, ◌∷◌, [], true, false, eqb, length, length-append, ap, refl, arith}
use Rattle.std.specs.Prelude.{slice_index}
use Rattle.mw_model.specs.Rasters.{Raster}
use Rattle.mw_model.specs.Elements.{offset_from, offsets_in_row}
use Rattle.mw_element.proofs.Rows.{row_next, row_part, rows_more, rows_part}

-- a pixel that is 1 counts once
pub count_set : (f : Raster ℕ) (y x count : ℕ) → eqb (slice_index f.cells (y * f.width + x)) 1 ≡ true → count ≡ length (row_part f 0 0 y 0 x) → count + 1 ≡ length (row_part f 0 0 y 0 (x + 1))
count_set f y x count is so_far = omega (arith, so_far, ap length (row_next f 0 0 y x true is), length-append (row_part f 0 0 y 0 x) (offset_from 0 0 x y ∷ []))

-- a pixel that is 0 does not count
pub count_unset : (f : Raster ℕ) (y x count : ℕ) → eqb (slice_index f.cells (y * f.width + x)) 1 ≡ false → count ≡ length (row_part f 0 0 y 0 x) → count ≡ length (row_part f 0 0 y 0 (x + 1))
count_unset f y x count not so_far = omega (arith, so_far, ap length (row_next f 0 0 y x false not), length-append (row_part f 0 0 y 0 x) [])

-- the pixels of one row more
pub count_more : (f : Raster ℕ) (y count row : ℕ) → count ≡ length (rows_part f 0 0 0 y) → row ≡ length (offsets_in_row f 0 0 y) → count + row ≡ length (rows_part f 0 0 0 (y + 1))
count_more f y count row so_far is =
    let before = rows_part f 0 0 0 y in
    let here = offsets_in_row f 0 0 y in
    omega (arith, so_far, is, ap length (rows_more f 0 0 y before (before ++ here) refl refl), length-append before here)
