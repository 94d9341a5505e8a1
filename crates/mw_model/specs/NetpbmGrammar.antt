-- What a Netpbm file is, after pbm(5) and pgm(5): how its bytes are put together, apart from any order of reading.
-- The comments of plain rasters, what may follow them, and the limits are this project's own.
use Rattle.std.specs.Prelude.{◌≡◌, ℕ, zero, suc, ◌+◌, ◌-◌, ◌*◌, ◌/◌, ◌%◌, ◌<◌, ◌≤◌, Bool, false, ◌||◌, ◌&&◌, ◌==◌, nat_le, IsTrue, List, [], ◌∷◌, ◌++◌, length, take}
use Rattle.std.specs.List.{AllByRecursion, flat_map}
use Rattle.mw_model.specs.declared.shapes.Kind.{Kind}
use Rattle.mw_model.specs.declared.shapes.Kind.TheVariants.{Bit, Grey}
use Rattle.mw_model.specs.declared.formats.Format.{Format}
use Rattle.mw_model.specs.declared.formats.Format.TheVariants.{PlainBits, PlainGrey, RawBits, RawGrey}
use Rattle.mw_model.specs.declared.formats.Header.{Header}
use Rattle.mw_model.specs.declared.limits.TheConstants.{LEVEL_LIMIT, PIXEL_LIMIT, SIDE_LIMIT}
use Rattle.mw_model.specs.Pictures.{Picture}

-- ---- bytes

-- TAB, LF, CR and blank
abbrev pub is_white : ℕ → Bool
is_white b = (b == 9) || (b == 10) || (b == 13) || (b == 32)

-- LF and CR, which end a comment
abbrev pub is_eol : ℕ → Bool
is_eol b = (b == 10) || (b == 13)

-- 0 to 9
abbrev pub is_digit : ℕ → Bool
is_digit b = nat_le 48 b && nat_le b 57

-- ---- the header

-- White space and comments, in any order. A comment is # and bytes up to a CR or LF, which is white space.
pub data Blank : List ℕ → Type 0 where
  nothing : Blank []
  white : (b : ℕ) (bs : List ℕ) → IsTrue (is_white b) → Blank bs → Blank (b ∷ bs)
  comment : (text : List ℕ) (end : ℕ) (bs : List ℕ) → AllByRecursion (λ b. is_eol b ≡ false) text → IsTrue (is_eol end) → Blank bs → Blank (35 ∷ text ++ end ∷ bs)

-- the value of digits that follow a number n
abbrev pub value_after : ℕ → List ℕ → ℕ
value_after n [] = n
value_after n (d ∷ ds) = value_after (10 * n + (d - 48)) ds

-- one or more digits, of any length
pub record IsNumber (text : List ℕ) (n : ℕ) : Type 0 where
  pub some : 0 < length text
  pub each : AllByRecursion (λ d. IsTrue (is_digit d)) text
  pub value : value_after 0 text ≡ n

-- a gap, which begins with white space, and a number
pub record IsField (bytes : List ℕ) (n : ℕ) : Type 0 where
  pub first : ℕ
  pub blank : List ℕ
  pub digits : List ℕ
  pub parts : bytes ≡ first ∷ blank ++ digits
  pub is_white : IsTrue (is_white first)
  pub is_blank : Blank blank
  pub is_number : IsNumber digits n

-- P1, P2, P4 or P5
abbrev pub magic : Format → List ℕ
magic PlainBits = 80 ∷ 49 ∷ []
magic PlainGrey = 80 ∷ 50 ∷ []
magic RawBits = 80 ∷ 52 ∷ []
magic RawGrey = 80 ∷ 53 ∷ []

-- the maxval of a set is 1, and is not written
abbrev pub IsMaxval : Format → List ℕ → ℕ → Type 0
IsMaxval PlainBits bytes n = (bytes ≡ []) × (n ≡ 1)
IsMaxval RawBits bytes n = (bytes ≡ []) × (n ≡ 1)
IsMaxval format bytes n = IsField bytes n

-- the magic, the fields and one white space byte
pub record IsHeader (bytes : List ℕ) (h : Header) : Type 0 where
  pub width : List ℕ
  pub height : List ℕ
  pub maxval : List ℕ
  pub last : ℕ
  pub parts : bytes ≡ magic h.format ++ (width ++ (height ++ (maxval ++ last ∷ [])))
  pub is_width : IsField width h.width
  pub is_height : IsField height h.height
  pub is_maxval : IsMaxval h.format maxval h.maxval
  pub is_last : IsTrue (is_white last)

-- a header stands at the front of the bytes, and the raster follows
pub record BeginsImage (bytes : List ℕ) (h : Header) (raster : List ℕ) : Type 0 where
  pub text : List ℕ
  pub parts : bytes ≡ text ++ raster
  pub is_header : IsHeader text h

-- ---- rasters

-- two bytes to a sample, the higher first
abbrev pub IsPairs : List ℕ → List ℕ → Type 0
IsPairs [] [] = Unit {0}
IsPairs (high ∷ low ∷ bytes) (s ∷ ss) = (s ≡ high * 256 + low) × IsPairs bytes ss
IsPairs bytes samples = ⊥

-- two bytes to a sample where the maxval is 256 or more, else one
abbrev pub IsLevels : ℕ → List ℕ → List ℕ → Type 0
IsLevels maxval bytes samples = (maxval < 256 → bytes ≡ samples) × (256 ≤ maxval → IsPairs bytes samples)

-- the bits of a byte, the highest first
unfoldable pub bits_of : ℕ → List ℕ
bits_of b = b / 128 % 2 ∷ b / 64 % 2 ∷ b / 32 % 2 ∷ b / 16 % 2 ∷ b / 8 % 2 ∷ b / 4 % 2 ∷ b / 2 % 2 ∷ b % 2 ∷ []

-- rows of whole bytes; what is left of a row's last byte means nothing
abbrev pub IsRows : ℕ → ℕ → List ℕ → List ℕ → Type 0
IsRows width zero bytes samples = (bytes ≡ []) × (samples ≡ [])
IsRows width (suc height) bytes samples =
    (row : List ℕ) × (rest : List ℕ) × (others : List ℕ) × (bytes ≡ row ++ rest) × (length row ≡ (width + 7) / 8) × (samples ≡ take width (flat_map bits_of row) ++ others) × IsRows width height rest others

-- the end, or white space and then anything (own)
abbrev pub IsTail : List ℕ → Type 0
IsTail [] = Unit {0}
IsTail (b ∷ bs) = IsTrue (is_white b)

-- at the front of the bytes stands a pixel, with so many to come; the rest follows
abbrev pub IsPixel : ℕ → List ℕ → ℕ → List ℕ → Type 0
IsPixel left bytes s rest = (blank : List ℕ) × (bytes ≡ blank ++ (48 + s) ∷ rest) × Blank blank × (s ≤ 1)

-- no digit stands first
abbrev pub NoDigit : List ℕ → Type 0
NoDigit [] = Unit {0}
NoDigit (b ∷ bs) = is_digit b ≡ false

-- after the last sample no digit stands; after another white space, unless the bytes end
abbrev pub IsApart : ℕ → List ℕ → Type 0
IsApart zero rest = NoDigit rest
IsApart (suc left) rest = IsTail rest

-- at the front of the bytes stands a sample, with so many to come; the rest follows
abbrev pub IsSample : ℕ → List ℕ → ℕ → List ℕ → Type 0
IsSample left bytes s rest = (blank : List ℕ) × (digits : List ℕ) × (bytes ≡ blank ++ (digits ++ rest)) × Blank blank × IsNumber digits s × IsApart left rest

-- one place after another, and a tail
abbrev pub IsPlain : (ℕ → List ℕ → ℕ → List ℕ → Type 0) → List ℕ → List ℕ → Type 0
IsPlain Place bytes [] = IsTail bytes
IsPlain Place bytes (s ∷ ss) = (rest : List ℕ) × Place (length ss) bytes s rest × IsPlain Place rest ss

-- the bytes spell these samples in this format
abbrev pub RasterAs : Format → ℕ → ℕ → ℕ → List ℕ → List ℕ → Type 0
RasterAs PlainBits width height maxval bytes samples = IsPlain IsPixel bytes samples
RasterAs PlainGrey width height maxval bytes samples = IsPlain IsSample bytes samples
RasterAs RawBits width height maxval bytes samples = IsRows width height bytes samples
RasterAs RawGrey width height maxval bytes samples = IsLevels maxval bytes samples

-- the bytes spell as many samples as the header says
pub record IsRaster (h : Header) (bytes samples : List ℕ) : Type 0 where
  pub count : length samples ≡ h.height * h.width
  pub spelled : RasterAs h.format h.width h.height h.maxval bytes samples

-- ---- files

-- the sides of images that are taken (own)
pub record SizeFits (width height : ℕ) : Type 0 where
  pub some_column : 0 < width
  pub some_row : 0 < height
  pub narrow : width ≤ SIDE_LIMIT
  pub low : height ≤ SIDE_LIMIT
  pub area : height * width ≤ PIXEL_LIMIT

-- the maxvals that pgm(5) allows
pub record MaxvalFits (maxval : ℕ) : Type 0 where
  pub some : 0 < maxval
  pub small : maxval ≤ LEVEL_LIMIT

-- the kind of the images of a format
abbrev pub kind_of : Format → Kind
kind_of PlainBits = Bit
kind_of RawBits = Bit
kind_of format = Grey

-- the image under a header with these samples
abbrev pub picture_under : Header → List ℕ → Picture
picture_under h samples = record { kind = kind_of h.format; width = h.width; height = h.height; maxval = h.maxval; samples = samples }

-- the bytes are a file of this image
pub record IsFile (bytes : List ℕ) (i : Picture) : Type 0 where
  pub header : Header
  pub raster : List ℕ
  pub begins : BeginsImage bytes header raster
  pub size_fits : SizeFits header.width header.height
  pub maxval_fits : MaxvalFits header.maxval
  pub is_raster : IsRaster header raster i.samples
  pub within : AllByRecursion (λ s. s ≤ header.maxval) i.samples
  pub shows : i ≡ picture_under header i.samples
