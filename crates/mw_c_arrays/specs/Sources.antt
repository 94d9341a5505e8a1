-- Images that stand in arrays, whatever their samples.
use Rattle.std.specs.Prelude.{ℕ, List, length, Option}
use Rattle.mw_model.specs.declared.codes.Code.{Code}
use Rattle.mw_model.specs.Pictures.{Picture, IsImage}
use Rattle.mw_c_arrays.specs.Arrays.{grey16_picture, grey8_picture, set_picture}
use Rattle.mw_c_arrays.specs.Faults.{grey16_fault, grey8_fault, set_fault}
use Rattle.mw_c_arrays.specs.Sound.{IsGrey16, IsGrey8}
use Rattle.mw_c_arrays.specs.declared.sources.ArrayImage.{ArrayImage}
use Rattle.mw_c_arrays.specs.declared.sources.ArrayImage.TheVariants as source

-- the image
abbrev pub picture_in : ArrayImage → Picture
picture_in (source.Grey8 f) = grey8_picture f
picture_in (source.Grey16 f) = grey16_picture f
picture_in (source.Pixels f) = set_picture f

-- what is wrong with it
abbrev pub source_fault : ArrayImage → Option Code
source_fault (source.Grey8 f) = grey8_fault f
source_fault (source.Grey16 f) = grey16_fault f
source_fault (source.Pixels f) = set_fault f

-- how many samples it has
abbrev pub array_sample_count : ArrayImage → ℕ
array_sample_count (source.Grey8 f) = length f.samples.now
array_sample_count (source.Grey16 f) = length f.samples.now
array_sample_count (source.Pixels f) = length f.pixels.now

-- nothing is wrong with it
abbrev pub IsArrayImage : ArrayImage → Type 0
IsArrayImage (source.Grey8 f) = IsGrey8 f
IsArrayImage (source.Grey16 f) = IsGrey16 f
IsArrayImage (source.Pixels f) = IsImage (set_picture f)
