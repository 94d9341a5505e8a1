-- Images that stand in arrays, whatever their samples.
use Rattle.std.proofs.Common.{◌≡◌, ◌*◌, List, length, refl, sym, ◌∙◌}
use Rattle.std.specs.Prelude.{nat_le, if◌then◌else◌}
use Rattle.std.proofs.lemmas.List.{length-map}
use Rattle.mw_model.specs.Pictures.{IsImage}
use Rattle.mw_c_arrays.specs.declared.arrays.Set.{Set}
use Rattle.mw_c_arrays.specs.declared.sources.ArrayImage.{ArrayImage}
use Rattle.mw_c_arrays.specs.declared.sources.ArrayImage.TheVariants as source
use Rattle.mw_c_arrays.specs.Arrays.{set_picture}
use Rattle.mw_c_arrays.specs.Sources.{IsArrayImage, array_sample_count, picture_in}

-- an array with which nothing is wrong holds an image
pub source_image : (f : ArrayImage) → IsArrayImage f → IsImage (picture_in f)
source_image (source.Grey8 f) is = is.image
source_image (source.Grey16 f) is = is.image
source_image (source.Pixels f) is = is

-- the bytes of a set fill its sides
pub set_fills : (f : Set) → IsImage (set_picture f) → length f.pixels.now ≡ f.height * f.width
set_fills f is = sym (length-map f.pixels.now (λ s. if nat_le 1 s then 1 else 0)) ∙ is.picture.size

-- it has so many samples
pub source_samples : (f : ArrayImage) → length (picture_in f).samples ≡ array_sample_count f
source_samples (source.Grey8 f) = refl
source_samples (source.Grey16 f) = refl
source_samples (source.Pixels f) = length-map f.pixels.now (λ s. if nat_le 1 s then 1 else 0)
