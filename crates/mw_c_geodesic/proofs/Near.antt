-- Sets in arrays as planes, and what elements that cover alike make of them.
use Rattle.std.proofs.Common.{◌≡◌, ℕ, length, ◌*◌, ◌^◌, ◌<◌, refl, ap, sym, subst, arith}
use Rattle.mw_model.specs.Pictures.{Picture, IsImage, IsSet}
use Rattle.mw_model.specs.Rasters.{Raster, raster}
use Rattle.mw_c_arrays.specs.declared.arrays.Set.{Set}
use Rattle.mw_c_arrays.specs.Arrays.{pixels_in_bytes, set_picture}
use Rattle.mw_c_arrays.proofs.SourceImages.{set_fills}

pub narrow_plane : (f : Set) (p : Raster ℕ) → IsImage (set_picture f) → p ≡ raster f.width f.height (pixels_in_bytes f.pixels.now) → p.width < 2 ^ 16
narrow_plane f p is same =
    let wide : p.width ≡ f.width = ap (λ (t : Raster ℕ). t.width) same in
    let low = is.width.1 in
    omega arith

pub few_places : (f : Set) (p : Raster ℕ) → IsImage (set_picture f) → p ≡ raster f.width f.height (pixels_in_bytes f.pixels.now) → p.height * p.width < 2 ^ 32
few_places f p is same =
    let all : p.height * p.width ≡ f.height * f.width = ap (λ (t : Raster ℕ). t.height * t.width) same in
    let low = is.area in
    omega arith

-- room for as many as the array has is room for the places of the plane
pub room_in : (f : Set) (p : Raster ℕ) (room : ℕ) → IsImage (set_picture f) → p ≡ raster f.width f.height (pixels_in_bytes f.pixels.now) → room ≡ length f.pixels.now → room ≡ p.height * p.width
room_in f p room is same as_many =
    let all : p.height * p.width ≡ f.height * f.width = ap (λ (t : Raster ℕ). t.height * t.width) same in
    let size = set_fills f is in
    omega arith

-- a set in an array
pub set_is : (f : Set) (g : Picture) → IsImage (set_picture f) → g ≡ set_picture f → IsSet g
set_is f g is same = subst IsSet (sym same) (record { picture = is.picture; kind = refl; maxval = refl })
