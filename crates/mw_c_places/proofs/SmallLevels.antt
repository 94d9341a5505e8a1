-- Levels of images are below 65,536.
use Rattle.std.proofs.Common.{◌≡◌, ℕ, ◌<◌, List, length, arith}
use Rattle.mw_model.specs.declared.offsets.Offset.{Offset}
use Rattle.mw_model.specs.declared.shapes.Kind.{Kind}
use Rattle.mw_model.specs.declared.shapes.Kind.TheVariants as kind
use Rattle.mw_model.specs.Flat.{under}
use Rattle.mw_model.specs.Pictures.{FitsKind, IsImage, Picture}
use Rattle.mw_model.proofs.Ranks.{count_under}
use Rattle.mw_c_places.proofs.UnderOffsets.{all_counted}

small : (k : Kind) (top : ℕ) → FitsKind k top → top < 65536
small kind.Bit top is = omega arith
small kind.Grey top is = omega (arith, is.1)

pub all_seen : (f : Picture) → IsImage f → (es : List Offset) (x y : ℕ) → count_under 65536 (under f es x y) ≡ length (under f es x y)
all_seen f image es x y = all_counted f image.picture 65536 (small f.kind f.maxval image.maxval) es x y
