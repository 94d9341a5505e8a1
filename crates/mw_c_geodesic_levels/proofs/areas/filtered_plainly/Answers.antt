use Rattle.std.proofs.Common.{◌≡◌, arith, subst, sym}
use Rattle.std.specs.Prelude.{IfOk}
use Rattle.mw_model.specs.Pictures.{Picture}
use Rattle.mw_c_geodesic_levels.proofs.AreaImages.{by_closing, by_opening}
use Rattle.mw_c_geodesic_levels.proofs.areas.filtered_plainly.Goals as goal

pub returns-then-kind-eq0 : goal.returns-then-kind-eq0
returns-then-kind-eq0 c =
    subst (λ (t : Picture). IfOk c.plain_area_opening.result (λ r. r ≡ t)) (sym (by_opening c.args.numbers.0 c.args.numbers.1 c.args.around.now c.args.image.now (omega arith))) c.plain_area_opening.ensures

pub returns : goal.returns
returns c =
    subst (λ (t : Picture). IfOk c.plain_area_closing.result (λ r. r ≡ t)) (sym (by_closing c.args.numbers.0 c.args.numbers.1 c.args.around.now c.args.image.now (λ same. omega arith))) c.plain_area_closing.ensures
