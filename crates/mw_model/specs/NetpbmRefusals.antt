-- Why bytes are no Netpbm file: the first case that holds (own).
use Rattle.std.specs.Prelude.{◌≡◌, ℕ, zero, suc, ◌+◌, ◌*◌, ◌/◌, ◌<◌, ◌≤◌, ◌⊎◌, ◌≢◌, false, List, [], ◌∷◌, ◌++◌, length, nat_lt, ◌==◌, if◌then◌else◌}
use Rattle.std.specs.List.{AllByRecursion}
use Rattle.mw_model.specs.declared.codes.Code.{Code}
use Rattle.mw_model.specs.declared.codes.Code.TheVariants as code
use Rattle.mw_model.specs.declared.formats.Format.{Format}
use Rattle.mw_model.specs.declared.formats.Format.TheVariants.{PlainBits, PlainGrey, RawBits}
use Rattle.mw_model.specs.declared.formats.Header.{Header}
use Rattle.mw_model.specs.NetpbmGrammar.{is_white, is_eol, Blank, magic, BeginsImage, IsTail, IsPixel, IsSample, IsRaster, SizeFits, MaxvalFits}

-- the bytes begin as a file of this format
abbrev pub HasMagic : Format → List ℕ → Type 0
HasMagic format bytes = (rest : List ℕ) × (bytes ≡ magic format ++ rest)

-- how many bytes a raw raster has
abbrev pub raw_size : Format → ℕ → ℕ → ℕ → ℕ
raw_size RawBits width height maxval = height * ((width + 7) / 8)
raw_size _ width height maxval = if nat_lt maxval 256 then height * width else 2 * (height * width)

-- at the front of the bytes stands the raster of these samples, and the rest follows
pub record BeginsRaster (h : Header) (bytes samples rest : List ℕ) : Type 0 where
  pub front : List ℕ
  pub parts : bytes ≡ front ++ rest
  pub is_raster : IsRaster h front samples

-- a raw raster is too short, or has a sample over the maxval, or does not end the bytes
pub data RawRefuses (h : Header) (bytes : List ℕ) : Code → Type 0 where
  short : length bytes < raw_size h.format h.width h.height h.maxval → RawRefuses h bytes code.Short
  over : (samples rest : List ℕ) → BeginsRaster h bytes samples rest → ¬ AllByRecursion (λ s. s ≤ h.maxval) samples → RawRefuses h bytes code.Sample
  more : (samples rest : List ℕ) → BeginsRaster h bytes samples rest → AllByRecursion (λ s. s ≤ h.maxval) samples → rest ≢ [] → RawRefuses h bytes code.Trailing

-- nothing but white space and comments to the end, which may stand in a comment
abbrev pub IsSpent : List ℕ → Type 0
IsSpent bytes = Blank bytes ⊎ ((blank : List ℕ) × (text : List ℕ) × (bytes ≡ blank ++ 35 ∷ text) × Blank blank × AllByRecursion (λ b. is_eol b ≡ false) text)

-- after white space and comments another byte stands
abbrev pub ShowsByte : List ℕ → Type 0
ShowsByte bytes = (blank : List ℕ) × (b : ℕ) × (rest : List ℕ) × (bytes ≡ blank ++ b ∷ rest) × Blank blank × (is_white b ≡ false) × ((b == 35) ≡ false)

-- Where so many more pixels or samples should stand: behind good places a bad one, or behind all of them no tail.
pub data PlainRefuses (Place : ℕ → List ℕ → ℕ → List ℕ → Type 0) (maxval : ℕ) : ℕ → List ℕ → Code → Type 0 where
  spent : (left : ℕ) (bytes : List ℕ) → IsSpent bytes → PlainRefuses Place maxval (suc left) bytes code.Short
  wrong : (left : ℕ) (bytes : List ℕ) → ShowsByte bytes → ((s : ℕ) (rest : List ℕ) → Place left bytes s rest → s ≤ maxval → ⊥) → PlainRefuses Place maxval (suc left) bytes code.Sample
  later : (left : ℕ) (bytes : List ℕ) (c : Code) (s : ℕ) (rest : List ℕ) → Place left bytes s rest → s ≤ maxval → PlainRefuses Place maxval left rest c → PlainRefuses Place maxval (suc left) bytes c
  no_tail : (bytes : List ℕ) → ¬ IsTail bytes → PlainRefuses Place maxval zero bytes code.Trailing

-- the bytes are no raster of this format, and this code tells why
abbrev pub RasterRefusesAs : Format → Header → List ℕ → Code → Type 0
RasterRefusesAs PlainBits h bytes c = PlainRefuses IsPixel 1 (h.height * h.width) bytes c
RasterRefusesAs PlainGrey h bytes c = PlainRefuses IsSample h.maxval (h.height * h.width) bytes c
RasterRefusesAs format h bytes c = RawRefuses h bytes c

-- the bytes are no file, and this code tells why
pub data Refuses (bytes : List ℕ) : Code → Type 0 where
  no_magic : ((format : Format) → ¬ HasMagic format bytes) → Refuses bytes code.Magic
  no_header : (format : Format) → HasMagic format bytes → ((h : Header) (raster : List ℕ) → ¬ BeginsImage bytes h raster) → Refuses bytes code.Header
  bad_size : (h : Header) (raster : List ℕ) → BeginsImage bytes h raster → ¬ SizeFits h.width h.height → Refuses bytes code.Size
  bad_maxval : (h : Header) (raster : List ℕ) → BeginsImage bytes h raster → SizeFits h.width h.height → ¬ MaxvalFits h.maxval → Refuses bytes code.Maxval
  bad_raster : (h : Header) (raster : List ℕ) (c : Code) → BeginsImage bytes h raster → SizeFits h.width h.height → MaxvalFits h.maxval → RasterRefusesAs h.format h raster c → Refuses bytes c
