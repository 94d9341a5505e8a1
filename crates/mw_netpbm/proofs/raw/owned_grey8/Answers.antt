use Rattle.std.proofs.Common.{◌≡◌, ℕ, List, drop, Ok, sym, ap, ◌∙◌}
use Rattle.mw_netpbm.specs.Rasters.{grey8_at}
use Rattle.mw_netpbm.proofs.Sides.{grey8_ok}
use Rattle.mw_netpbm.proofs.raw.owned_grey8.Goals as goal

pub returns : goal.returns
returns c =
    let raster = c.split_at.result.1.now in
    let is : raster ≡ drop c.args.start c.args.file.items = c.split_at.ensures.back ∙ ap (drop c.args.start) c.deref.ensures.value in
    let whole = grey8_ok c.args.count c.args.maxval raster c.in_ok-_samples._samples.now (sym c.in_ok-_samples.ensures) in
    ap (λ (xs : List ℕ). Ok xs) (c.drop_front.ensures ∙ sym is ∙ whole.0) ∙ c.in_ok-_samples.ensures ∙ ap (grey8_at c.args.count c.args.maxval) is
