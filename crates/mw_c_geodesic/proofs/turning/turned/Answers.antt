use Rattle.std.proofs.Common.{◌≡◌, ◌∙◌, subst}
use Rattle.std.specs.Prelude.{IfOk}
use Rattle.mw_model.specs.Pictures.{Picture}
use Rattle.mw_c_geodesic.proofs.TurnedSamples.{set_turned_is}
use Rattle.mw_c_geodesic.proofs.turning.turned.Goals as goal

pub returns : goal.returns
returns c =
    subst (λ (t : Picture). IfOk c.image.result (λ g. g ≡ t))
    (set_turned_is c.args.image.now c.deref.result.now c.width.result c.height.result c.requires.image c.requires.kind c.width.ensures c.height.ensures (c.deref.ensures.value ∙ c.in_ok-pixels.ensures)) c.image.ensures
