use Rattle.std.proofs.Common.{◌≡◌, ◌∙◌, ap, subst, IfOk}
use Rattle.mw_model.specs.Pictures.{Picture}
use Rattle.mw_model.specs.Flat.{minus, threshold}
use Rattle.mw_geodesic.proofs.extrema.regional_maxima.Goals as goal

pub returns : goal.returns
returns c =
    let whole = ap (threshold 1) (c.in_ok-domes.ensures ∙ ap (minus c.args.image.now) c.in_ok-cut.ensures) in
    subst (λ (t : Picture). IfOk c.threshold.result (λ r. r ≡ t)) whole c.threshold.ensures
