use Rattle.std.proofs.Common.{◌≡◌, ◌∙◌, subst}
use Rattle.std.specs.Prelude.{IfOk}
use Rattle.mw_model.specs.Pictures.{Picture}
use Rattle.mw_c_geodesic.proofs.TurnedSamples.{set_made_is}
use Rattle.mw_c_geodesic.proofs.images.set_made.Goals as goal

pub returns : goal.returns
returns c =
    subst (λ (t : Picture). IfOk c.image.result (λ g. g ≡ t))
    (set_made_is c.args.made.now c.deref.result.now c.width.result c.height.result c.samples.ensures.small.picture c.requires.kind c.requires.maxval c.width.ensures.is c.height.ensures.is (c.deref.ensures.value ∙ c.in_ok-bytes.ensures ∙ c.samples.ensures.is))
    c.image.ensures
