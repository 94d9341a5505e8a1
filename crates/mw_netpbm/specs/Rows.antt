-- The text of an image, row by row (own).
use Rattle.std.specs.Prelude.{ℕ, zero, suc, ◌+◌, ◌/◌, List, [], ◌++◌, take, drop}
use Rattle.std.specs.List.{flat_map}
use Rattle.mw_model.specs.declared.shapes.Kind.{Kind}
use Rattle.mw_model.specs.declared.shapes.Kind.TheVariants.{Bit, Grey}
use Rattle.mw_model.specs.NetpbmWriting.{packed, two_bytes, grey_header, set_header}

-- the header of an image of this kind, width, height and maxval
abbrev pub header_as : Kind → ℕ → ℕ → ℕ → List ℕ
header_as Bit width height maxval = set_header width height
header_as Grey width height maxval = grey_header width height maxval

-- the bytes of a row of a set
abbrev pub set_row : ℕ → List ℕ → List ℕ
set_row width row = packed ((width + 7) / 8) row

-- those of a row of levels of one byte
abbrev pub byte_row : ℕ → List ℕ → List ℕ
byte_row width row = row

-- those of a row of levels of two bytes
abbrev pub word_row : ℕ → List ℕ → List ℕ
word_row width row = flat_map two_bytes row

-- so many rows of this width, each in bytes of its own
unfoldable pub rows_bytes : {A : Type 0} → (ℕ → List A → List ℕ) → ℕ → ℕ → List A → List ℕ
rows_bytes bytes width zero cells = []
rows_bytes bytes width (suc height) cells = bytes width (take width cells) ++ rows_bytes bytes width height (drop width cells)
