use Rattle.std.proofs.Common.{ℕ, ◌*◌, replicate, ap, ◌∙◌}
use Rattle.mw_model.specs.Rasters.{raster}
use Rattle.mw_geodesic_kept.proofs.Results.{kept_by}
use Rattle.mw_geodesic_kept.proofs.keeping.kept.Goals as goal

pub returns : goal.returns
returns c = λ held cut.
    let n = c.height.result * c.width.result in
    kept_by c.args.set.now c.in_ok-out.out c.write_runs.new.out held.runs c.args.numbers.now c.args.marks.now c.args.wanted c.width.result c.height.result n
    (c.in_ok-out.ensures.value ∙ ap (λ (t : ℕ). raster c.width.result c.height.result (replicate n t)) c.new.ensures) c.width.ensures.value c.height.ensures.value cut (c.write_runs.ensures held)
