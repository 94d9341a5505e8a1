-- Labels of the plain program, which fill an array.
use Rattle.std.proofs.Common.{◌≡◌, ℕ, ◌*◌, List, length, arith}
use Rattle.mw_model.specs.declared.offsets.Offset.{Offset}
use Rattle.mw_model.specs.Pictures.{IsImage}
use Rattle.mw_geodesic.specs.Labels.{IsLabelling}
use Rattle.mw_c_arrays.specs.declared.arrays.Set.{Set}
use Rattle.mw_c_arrays.specs.Arrays.{set_picture}
use Rattle.mw_c_arrays.proofs.SourceImages.{set_fills}

-- labels have as many places as the array
pub labels_fill : (f : Set) (e : List Offset) (count : ℕ) (labels : List ℕ) (room : ℕ) → IsImage (set_picture f) → IsLabelling e (set_picture f) count labels → room ≡ length f.pixels.now → length labels ≡ room
labels_fill f e count labels room image are as_many =
    let size : length labels ≡ f.height * f.width = are.size in
    let fills = set_fills f image in
    omega arith
