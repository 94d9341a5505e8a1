-- Images and their places.
use Rattle.std.specs.Prelude.{◌≡◌, ℕ, ◌+◌, ◌*◌, ◌<◌, ◌≤◌, ◌&&◌, List, length, map, flat_map, ℤ, pos, negsuc, nat_lt, if◌then◌else◌, Option, Some, None, slice_index, All}
use Rattle.std.specs.List.{range_with_len}
use Rattle.mw_model.specs.declared.limits.TheConstants.{LEVEL_LIMIT, PIXEL_LIMIT, SIDE_LIMIT}
use Rattle.mw_model.specs.declared.shapes.Kind.{Kind}
use Rattle.mw_model.specs.declared.shapes.Kind.TheVariants.{Bit, Grey}

-- An image. Its samples stand by rows from the top, and in each row from the left.
pub record Picture : Type 0 where
  pub kind : Kind
  pub width : ℕ
  pub height : ℕ
  pub maxval : ℕ
  pub samples : List ℕ

-- the image of these parts
abbrev pub picture : Kind → ℕ → ℕ → ℕ → List ℕ → Picture
picture kind width height maxval samples = record { kind = kind; width = width; height = height; maxval = maxval; samples = samples }

-- the sample in column x of row y
abbrev pub sample : Picture → ℕ → ℕ → ℕ
sample f x y = slice_index f.samples (y * f.width + x)

-- the sample at a place of the plane, where the frame has that place
abbrev pub sample_at : Picture → ℤ → ℤ → Option ℕ
sample_at f (pos x) (pos y) = if nat_lt x f.width && nat_lt y f.height then Some (sample f x y) else None
sample_at f (pos x) (negsuc y) = None
sample_at f (negsuc x) y = None

-- the image of this kind, size and maxval with this value in column x of row y
abbrev pub drawn : Kind → ℕ → ℕ → ℕ → (ℕ → ℕ → ℕ) → Picture
drawn kind width height maxval value =
    picture kind width height maxval (flat_map (λ y. map (λ x. value x y) (range_with_len 0 width)) (range_with_len 0 height))

-- an image like f with this value in column x of row y
abbrev pub redrawn : Picture → (ℕ → ℕ → ℕ) → Picture
redrawn f value = drawn f.kind f.width f.height f.maxval value

-- each place has a sample, and none is above the maxval
pub record IsPicture (f : Picture) : Type 0 where
  pub size : length f.samples ≡ f.height * f.width
  pub bounded : All (λ s. s ≤ f.maxval) f.samples

-- an image with no more columns and rows than a file may have, and samples of 16 bits (own)
pub record IsSmallPicture (f : Picture) : Type 0 where
  pub picture : IsPicture f
  pub columns : f.width ≤ SIDE_LIMIT
  pub rows : f.height ≤ SIDE_LIMIT
  pub levels : f.maxval < 65536

-- the image is a set: its samples are 0 and 1
pub record IsSet (f : Picture) : Type 0 where
  pub picture : IsPicture f
  pub kind : f.kind ≡ Bit
  pub maxval : f.maxval ≡ 1

-- a set has maxval 1, and levels of grey have one that two bytes hold
abbrev pub FitsKind : Kind → ℕ → Type 0
FitsKind Bit maxval = maxval ≡ 1
FitsKind Grey maxval = (1 ≤ maxval) × (maxval ≤ LEVEL_LIMIT)

-- an image within the limits of a file (own)
pub record IsImage (f : Picture) : Type 0 where
  pub picture : IsPicture f
  pub maxval : FitsKind f.kind f.maxval
  pub width : (1 ≤ f.width) × (f.width ≤ SIDE_LIMIT)
  pub height : (1 ≤ f.height) × (f.height ≤ SIDE_LIMIT)
  pub area : f.height * f.width ≤ PIXEL_LIMIT
