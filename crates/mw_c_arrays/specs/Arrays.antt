-- What arrays show.
use Rattle.std.specs.Prelude.{ℕ, List, map, nat_le, if◌then◌else◌}
use Rattle.mw_model.specs.declared.offsets.Offset.{Offset}
use Rattle.mw_model.specs.declared.shapes.Kind.TheVariants as kind
use Rattle.mw_model.specs.Elements.{offsets_of}
use Rattle.mw_model.specs.Pictures.{Picture, picture}
use Rattle.mw_model.specs.Rasters.{Raster, raster}
use Rattle.mw_c_arrays.specs.declared.arrays.Bitmap.{Bitmap}
use Rattle.mw_c_arrays.specs.declared.arrays.Grey16.{Grey16}
use Rattle.mw_c_arrays.specs.declared.arrays.Grey8.{Grey8}
use Rattle.mw_c_arrays.specs.declared.arrays.Set.{Set}

-- the pixels of a set: 1 for each byte that is not 0
abbrev pub pixels_in_bytes : List ℕ → List ℕ
pixels_in_bytes bytes = map (λ s. if nat_le 1 s then 1 else 0) bytes

-- the image in levels of grey with these samples
abbrev pub grey_in_array : ℕ → ℕ → ℕ → List ℕ → Picture
grey_in_array width height maxval samples = picture kind.Grey width height maxval samples

-- the set of the bytes that are not 0
abbrev pub set_in_bytes : ℕ → ℕ → List ℕ → Picture
set_in_bytes width height bytes = picture kind.Bit width height 1 (pixels_in_bytes bytes)

-- the offsets of the element of the bytes that are not 0, with its origin in column x of row y
abbrev pub element_in_bytes : ℕ → ℕ → ℕ → ℕ → List ℕ → List Offset
element_in_bytes width height x y bytes = offsets_of (raster width height (pixels_in_bytes bytes)) x y

-- ---- of arrays with their sides

-- the image in levels of grey of one byte
abbrev pub grey8_picture : Grey8 → Picture
grey8_picture f = grey_in_array f.width f.height f.maxval f.samples.now

-- the image in levels of grey of two bytes
abbrev pub grey16_picture : Grey16 → Picture
grey16_picture f = grey_in_array f.width f.height f.maxval f.samples.now

-- the set
abbrev pub set_picture : Set → Picture
set_picture f = set_in_bytes f.width f.height f.pixels.now

-- the bitmap of an element
abbrev pub bitmap_raster : Bitmap → Raster ℕ
bitmap_raster b = raster b.width b.height (pixels_in_bytes b.pixels.now)

-- the offsets of the element
abbrev pub element_in : Bitmap → List Offset
element_in b = element_in_bytes b.width b.height b.origin_x b.origin_y b.pixels.now
