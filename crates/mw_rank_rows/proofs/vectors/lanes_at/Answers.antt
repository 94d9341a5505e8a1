use Rattle.std.proofs.Common.{ℕ, ◌≡◌, ◌+◌, ◌-◌, ◌∙◌, arith, take, drop, get_or, ap}
use Rattle.std.proofs.lemmas.List.{get_or-take, get_or-drop}
use Rattle.std.proofs.lemmas.Simd.{get_or-chunk}
use Rattle.mw_rank_rows.proofs.vectors.lanes_at.Goals as goal

pub returns-clause-lanes : goal.returns-clause-lanes
returns-clause-lanes c = λ j lt.
    let at = c.args.at in
    let counts = c.args.counts.now in
    get_or-chunk 0 8 (take (at + 8 - at) (drop at counts)) j 0 lt
    ∙ ap (λ (t : ℕ). get_or (take (at + 8 - at) (drop at counts)) t 0) (let same : 0 + j ≡ j = omega arith in same)
    ∙ get_or-take (at + 8 - at) (drop at counts) j 0 (omega arith)
    ∙ get_or-drop at counts j 0
