use Rattle.std.proofs.Common.{◌≡◌, ◌∙◌, ◌+◌, ℕ, sym, ap, subst, arith}
use Rattle.mw_pixel.specs.Images.{set_of}
use Rattle.mw_geodesic_runs.specs.Runs.{tally, begun}
use Rattle.mw_geodesic_runs.proofs.Cuts.{HoldRow, row_begun}
use Rattle.mw_geodesic_runs.proofs.Tallies.{next_tally}
use Rattle.mw_geodesic_runs.proofs.runs.count_runs.Goals as goal

pub loop-y-preserved : goal.loop-y-preserved
loop-y-preserved c =
    let p = c.args.set.now in
    let f = set_of p in
    let words = c.row.result.now in
    let y = c.loop-y.y in
    let row : HoldRow f y words = record { samples = c.row.ensures.samples; clean = c.row.ensures.clean; size = omega (arith, c.row.ensures.length) } in
    let here = c.count_starts-count.ensures.count ∙ row_begun f words y row in
    let few = c.count_starts-count.ensures.few in
    let was = c.loop-y.invariant.few in
    record {
      count =
          ap (λ (t : ℕ). t + c.count_starts-count.result) c.loop-y.invariant.count
          ∙ ap (λ (t : ℕ). tally (λ v. begun f v p.width) y + t) here
          ∙ sym (next_tally (λ v. begun f v p.width) y);
      few = omega (arith, c.row.ensures.length);
    }

pub returns : goal.returns
returns c =
    let p = c.args.set.now in
    let end : c.loop-y.y ≡ p.height = omega (arith, c.height-y-end.ensures) in
    subst (λ (t : ℕ). c.loop-y.count ≡ tally (λ v. begun (set_of p) v p.width) t) end c.loop-y.invariant.count
