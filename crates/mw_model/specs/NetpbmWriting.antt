-- The one text of an image (own): of the files that pbm(5) and pgm(5) allow, the raw one with the shortest header.
use Rattle.std.specs.Prelude.{ℕ, zero, suc, take, drop, slice_index, ◌+◌, ◌*◌, ◌/◌, ◌%◌, List, [], ◌∷◌, ◌++◌, nat_lt, if◌then◌else◌, codes, decimal}
use Rattle.std.specs.List.{flat_map}
use Rattle.mw_model.specs.declared.shapes.Kind.{Kind}
use Rattle.mw_model.specs.declared.shapes.Kind.TheVariants.{Bit, Grey}
use Rattle.mw_model.specs.Pictures.{Picture}

-- the higher byte first
abbrev pub two_bytes : ℕ → List ℕ
two_bytes s = (s / 256) ∷ (s % 256) ∷ []

-- one byte to a level where the maxval is below 256, else two
abbrev pub grey_raster : ℕ → List ℕ → List ℕ
grey_raster maxval samples = if nat_lt maxval 256 then samples else flat_map two_bytes samples

-- P5, the sides and the maxval, each field set off by one byte
abbrev pub grey_header : ℕ → ℕ → ℕ → List ℕ
grey_header width height maxval = codes "P5\n" ++ (decimal width ++ (codes " " ++ (decimal height ++ (codes "\n" ++ (decimal maxval ++ codes "\n")))))

-- eight pixels, the first one highest; a pixel that is not there is 0
abbrev pub byte_of : List ℕ → ℕ
byte_of bits = 128 * slice_index bits 0 + 64 * slice_index bits 1 + 32 * slice_index bits 2 + 16 * slice_index bits 3 + 8 * slice_index bits 4 + 4 * slice_index bits 5 + 2 * slice_index bits 6 + slice_index bits 7

-- so many bytes, eight pixels to each
unfoldable pub packed : ℕ → List ℕ → List ℕ
packed zero bits = []
packed (suc n) bits = byte_of bits ∷ packed n (drop 8 bits)

-- each row in bytes of its own
unfoldable pub packed_rows : ℕ → ℕ → List ℕ → List ℕ
packed_rows width zero samples = []
packed_rows width (suc height) samples = packed ((width + 7) / 8) (take width samples) ++ packed_rows width height (drop width samples)

-- P4 and the sides, each field set off by one byte
abbrev pub set_header : ℕ → ℕ → List ℕ
set_header width height = codes "P4\n" ++ (decimal width ++ (codes " " ++ (decimal height ++ codes "\n")))

-- the text of an image of this kind
abbrev pub text_as : Kind → Picture → List ℕ
text_as Bit i = set_header i.width i.height ++ packed_rows i.width i.height i.samples
text_as Grey i = grey_header i.width i.height i.maxval ++ grey_raster i.maxval i.samples

-- the text of an image
abbrev pub text_of : Picture → List ℕ
text_of i = text_as i.kind i
