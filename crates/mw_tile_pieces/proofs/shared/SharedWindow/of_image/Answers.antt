use Rattle.std.proofs.Common.{ap, sym, subst, ◌∙◌}
use Rattle.mw_model.specs.declared.shapes.Kind.TheVariants as kind
use Rattle.mw_model.specs.Pictures.{Picture}
use Rattle.mw_tile.specs.mw_pixel.Images.{raster_of, SharesAs}
use Rattle.mw_tile_pieces.specs.Patches.{ShowsFrame}
use Rattle.mw_tile_pieces.proofs.Windows.{window_is}
use Rattle.mw_tile_pieces.proofs.shared.SharedWindow.of_image.Goals as goal

pub returns-in_ok-pieces-in-Bits : goal.returns-in_ok-pieces-in-Bits
returns-in_ok-pieces-in-Bits c =
    let f = c.args.image.now in
    let arm = c.in_ok-pieces-in-Bits in
    let is = subst (SharesAs f) c.in-Bits.is c.in_ok-plane.ensures in
    c.bits.ensures
    ∙ window_is kind.Bit 1 arm.pieces c.args.rect f (ap (λ (g : Picture). g.kind) is) (ap (λ (g : Picture). g.maxval) is) c.view-picture.ensures.picture.size c.requires arm.ensures.place
    (subst (λ (g : Picture). ShowsFrame (raster_of g) arm.pieces) (sym is) arm.ensures.shows)

pub returns-in_ok-pieces-in-Grey8 : goal.returns-in_ok-pieces-in-Grey8
returns-in_ok-pieces-in-Grey8 c =
    let f = c.args.image.now in
    let arm = c.in_ok-pieces-in-Grey8 in
    let is = (subst (SharesAs f) c.in-Grey8.is c.in_ok-plane.ensures).0 in
    c.grey8.ensures
    ∙ window_is kind.Grey c.in-Grey8.maxval arm.pieces c.args.rect f (ap (λ (g : Picture). g.kind) is) (ap (λ (g : Picture). g.maxval) is) c.view-picture.ensures.picture.size c.requires arm.ensures.place
    (subst (λ (g : Picture). ShowsFrame (raster_of g) arm.pieces) (sym is) arm.ensures.shows)

pub returns-in_ok-pieces-in-Grey16 : goal.returns-in_ok-pieces-in-Grey16
returns-in_ok-pieces-in-Grey16 c =
    let f = c.args.image.now in
    let arm = c.in_ok-pieces-in-Grey16 in
    let is = (subst (SharesAs f) c.in-Grey16.is c.in_ok-plane.ensures).0 in
    c.grey16.ensures
    ∙ window_is kind.Grey c.in-Grey16.maxval arm.pieces c.args.rect f (ap (λ (g : Picture). g.kind) is) (ap (λ (g : Picture). g.maxval) is) c.view-picture.ensures.picture.size c.requires arm.ensures.place
    (subst (λ (g : Picture). ShowsFrame (raster_of g) arm.pieces) (sym is) arm.ensures.shows)
