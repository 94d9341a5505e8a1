-- What is wrong with arrays: the first case that holds (own).
use Rattle.std.specs.Prelude.{ℕ, ◌*◌, ◌==◌, ◌&&◌, Bool, not, nat_le, nat_lt, List, [], ◌∷◌, length, Option}
use Rattle.std.specs.List.{list_any}
use Rattle.mw_model.specs.declared.codes.Code.{Code}
use Rattle.mw_model.specs.declared.codes.Code.TheVariants as code
use Rattle.mw_model.specs.declared.limits.TheConstants.{LEVEL_LIMIT, PIXEL_LIMIT, SIDE_LIMIT}
use Rattle.mw_model.specs.Elements.{element_side}
use Rattle.mw_model.specs.Refusals.{first_of, when}
use Rattle.mw_c_arrays.specs.declared.arrays.Bitmap.{Bitmap}
use Rattle.mw_c_arrays.specs.declared.arrays.Grey16.{Grey16}
use Rattle.mw_c_arrays.specs.declared.arrays.Grey8.{Grey8}
use Rattle.mw_c_arrays.specs.declared.arrays.Set.{Set}

-- an image has a column and a row, and no more of them, nor of pixels, than the limits
abbrev pub image_sides_fit : ℕ → ℕ → Bool
image_sides_fit width height = (nat_le 1 width && nat_le width SIDE_LIMIT) && (nat_le 1 height && nat_le height SIDE_LIMIT) && nat_le (height * width) PIXEL_LIMIT

-- an element's bitmap has a column and a row, and no more of them than the limit
abbrev pub bitmap_sides_fit : ℕ → ℕ → Bool
bitmap_sides_fit width height = (nat_le 1 width && nat_le width element_side) && (nat_le 1 height && nat_le height element_side)

-- the sides are those of no image
abbrev pub size_case : ℕ → ℕ → Option Code
size_case width height = when (not (image_sides_fit width height)) code.Size

-- there is not one sample for each pixel
abbrev pub length_case : ℕ → ℕ → ℕ → Option Code
length_case count width height = when (not (count == height * width)) code.Length

-- the maxval is not from the first to the last
abbrev pub maxval_case : ℕ → ℕ → ℕ → Option Code
maxval_case first last maxval = when (not (nat_le first maxval && nat_le maxval last)) code.Maxval

-- a sample is over the maxval
abbrev pub sample_case : ℕ → List ℕ → Option Code
sample_case maxval samples = when (list_any (λ s. nat_lt maxval s) samples) code.Sample

-- the sides are those of no element's bitmap
abbrev pub bitmap_size_case : ℕ → ℕ → Option Code
bitmap_size_case width height = when (not (bitmap_sides_fit width height)) code.Size

-- the origin does not lie in the bitmap
abbrev pub origin_outside_case : ℕ → ℕ → ℕ → ℕ → Option Code
origin_outside_case x y width height = when (not (nat_lt x width && nat_lt y height)) code.Origin

-- no byte is a pixel of the element
abbrev pub empty_case : List ℕ → Option Code
empty_case bytes = when (not (list_any (λ s. nat_le 1 s) bytes)) code.Empty

-- what is wrong with an image in levels of grey, whose maxval is from the first to the last
abbrev pub levels_fault : ℕ → ℕ → ℕ → ℕ → ℕ → List ℕ → Option Code
levels_fault first last width height maxval samples =
    first_of (size_case width height ∷ length_case (length samples) width height ∷ maxval_case first last maxval ∷ sample_case maxval samples ∷ [])

-- what is wrong with a set
abbrev pub pixels_fault : ℕ → ℕ → List ℕ → Option Code
pixels_fault width height bytes = first_of (size_case width height ∷ length_case (length bytes) width height ∷ [])

-- what is wrong with an element, whose origin is in column x of row y
abbrev pub element_fault : ℕ → ℕ → ℕ → ℕ → List ℕ → Option Code
element_fault width height x y bytes =
    first_of (bitmap_size_case width height ∷ length_case (length bytes) width height ∷ origin_outside_case x y width height ∷ empty_case bytes ∷ [])

-- ---- of arrays with their sides

-- what is wrong with levels of one byte
abbrev pub grey8_fault : Grey8 → Option Code
grey8_fault f = levels_fault 1 255 f.width f.height f.maxval f.samples.now

-- what is wrong with levels of two bytes
abbrev pub grey16_fault : Grey16 → Option Code
grey16_fault f = levels_fault 256 LEVEL_LIMIT f.width f.height f.maxval f.samples.now

-- what is wrong with a set
abbrev pub set_fault : Set → Option Code
set_fault f = pixels_fault f.width f.height f.pixels.now

-- what is wrong with the bitmap of an element
abbrev pub bitmap_fault : Bitmap → Option Code
bitmap_fault b = element_fault b.width b.height b.origin_x b.origin_y b.pixels.now
