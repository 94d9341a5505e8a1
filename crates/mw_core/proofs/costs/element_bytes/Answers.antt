use Rattle.std.proofs.Common.{◌≡◌, ℕ, ◌+◌, ◌*◌, List, length, ap, ◌∙◌, arith}
use Rattle.mw_model.specs.declared.offsets.Offset.{Offset}
use Rattle.mw_core.specs.declared.costs.TheConstants.{BESIDE_ELEMENT}
use Rattle.mw_core.specs.Costs.{fewest_runs, told_bytes}
use Rattle.mw_core.proofs.RunCounts.{fewest_count}
use Rattle.mw_core.proofs.costs.element_bytes.Goals as goal

pub returns : goal.returns
returns c =
    let b = c.args.element.now in
    let runs : length c.runs-runs.result.now ≡ fewest_runs b.offsets =
    fewest_count b.offsets c.runs-runs.result.now (omega (arith, c.offsets-offsets.ensures.few)) c.runs-runs.ensures.offsets c.runs-runs.ensures.runs c.runs-runs.ensures.longest c.runs-runs.ensures.fewest in
    c.bytes_of_figure.ensures
    ∙ ap (λ (n : ℕ). told_bytes (length c.offsets-offsets.result.now * 4 + n * 8 + BESIDE_ELEMENT)) runs
    ∙ ap (λ (os : List Offset). told_bytes (length os * 4 + fewest_runs b.offsets * 8 + BESIDE_ELEMENT)) c.offsets-offsets.ensures.value
