use Rattle.std.proofs.Common.{◌≡◌, ◌∙◌, ap, subst, IfOk}
use Rattle.mw_model.specs.Pictures.{Picture}
use Rattle.mw_model.specs.Flat.{erosion, complement, intersection, set_hit_or_miss}
use Rattle.mw_reference.proofs.flat.set_hit_or_miss.Goals as goal

pub returns : goal.returns
returns c =
    let f = c.args.image.now in
    let misses : c.in_ok-misses.misses ≡ erosion c.args.miss.now (complement f) = c.in_ok-misses.ensures ∙ ap (erosion c.args.miss.now) c.in_ok-outside.ensures in
    let both : intersection c.in_ok-fits.fits c.in_ok-misses.misses ≡ set_hit_or_miss c.args.hit.now c.args.miss.now f =
    ap (λ (t : Picture). intersection t c.in_ok-misses.misses) c.in_ok-fits.ensures ∙ ap (intersection (erosion c.args.hit.now f)) misses in
    subst (λ (t : Picture). IfOk c.intersection.result (λ r. r ≡ t)) both c.intersection.ensures
