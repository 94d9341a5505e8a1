use Rattle.std.proofs.Common.{◌≡◌, ◌*◌, ◌≤◌, ℕ, length, refl, arith}
use Rattle.std.specs.Prelude.{All}
use Rattle.mw_model.specs.Pictures.{IsPicture}
use Rattle.mw_model.specs.Rasters.{Raster}
use Rattle.mw_geodesic.specs.Reconstructions.{border_over}
use Rattle.mw_pixel.specs.Images.{set_of}
use Rattle.mw_geodesic.specs.Neighbours.{neighbours_of}
use Rattle.mw_geodesic.proofs.Borders.{border_picture}
use Rattle.mw_geodesic_kept.proofs.Edges.{filled_by_flips}
use Rattle.mw_geodesic_kept.proofs.border.holes_filled_of_set.Goals as goal

whole : (p : Raster ℕ) → length p.cells ≡ p.height * p.width → All (λ s. s ≤ 1) p.cells → IsPicture (set_of p)
whole p size small = record { size = size; bounded = small }

pub returns : goal.returns
returns c =
    filled_by_flips (neighbours_of c.args.neighbours) (set_of c.args.set.now) (set_of c.in_ok-outside.outside) (set_of c.in_ok-touching.touching) (set_of c.in_ok-filled.filled)
    (c.duality.ensures.reconstruction (neighbours_of c.args.neighbours) (set_of c.args.set.now) (border_over 1 (set_of c.args.set.now)) (border_picture 1 (set_of c.args.set.now) (whole c.args.set.now c.width-size.ensures.size c.words-words.ensures.small) (omega arith))
    (whole c.args.set.now c.width-size.ensures.size c.words-words.ensures.small) (record { kind = refl; width = refl; height = refl; maxval = refl }))
    c.in_ok-outside.ensures.complement c.in_ok-touching.ensures c.in_ok-filled.ensures.complement
