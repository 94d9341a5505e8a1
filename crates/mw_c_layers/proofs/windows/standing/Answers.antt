use Rattle.std.proofs.Common.{ap, subst, ◌∙◌}
use Rattle.std.specs.Arc.{arc_value}
use Rattle.mw_model.specs.declared.shapes.Kind.TheVariants as kind
use Rattle.mw_pixel.specs.Images.{SharesAs}
use Rattle.mw_tile_pieces.specs.Patches.{Joint}
use Rattle.mw_tile_pieces.specs.Shared.{grey_joint, set_joint}
use Rattle.std.specs.Prelude.{ℕ}
use Rattle.mw_c_layers.proofs.Standing.{stands}
use Rattle.mw_c_layers.proofs.windows.standing.Goals as goal

pub returns-in_ok-pieces-in-Bits : goal.returns-in_ok-pieces-in-Bits
returns-in_ok-pieces-in-Bits c = λ f wide high part.
    let image = c.args.image.now in
    let shown = subst (SharesAs image) c.in-Bits.is c.in_ok-plane.ensures in
    let p = arc_value c.in-Bits.plane in
    c.bits.ensures ∙ ap set_joint c.in_ok-pieces-in-Bits.ensures ∙ stands kind.Bit 1 c.args.width c.args.height p.width p.height c.args.place p.cells image f wide high shown part

pub returns-in_ok-pieces-in-Grey8 : goal.returns-in_ok-pieces-in-Grey8
returns-in_ok-pieces-in-Grey8 c = λ f wide high part.
    let image = c.args.image.now in
    let shown = (subst (SharesAs image) c.in-Grey8.is c.in_ok-plane.ensures).0 in
    let p = arc_value c.in-Grey8.plane in
    c.grey8.ensures ∙ ap (λ (j : Joint ℕ). grey_joint j c.in-Grey8.maxval) c.in_ok-pieces-in-Grey8.ensures
    ∙ stands kind.Grey c.in-Grey8.maxval c.args.width c.args.height p.width p.height c.args.place p.cells image f wide high shown part

pub returns-in_ok-pieces-in-Grey16 : goal.returns-in_ok-pieces-in-Grey16
returns-in_ok-pieces-in-Grey16 c = λ f wide high part.
    let image = c.args.image.now in
    let shown = (subst (SharesAs image) c.in-Grey16.is c.in_ok-plane.ensures).0 in
    let p = arc_value c.in-Grey16.plane in
    c.grey16.ensures ∙ ap (λ (j : Joint ℕ). grey_joint j c.in-Grey16.maxval) c.in_ok-pieces-in-Grey16.ensures
    ∙ stands kind.Grey c.in-Grey16.maxval c.args.width c.args.height p.width p.height c.args.place p.cells image f wide high shown part
