use Rattle.std.proofs.Common.{ℕ, ◌+◌, ◌∙◌, ap, sym, arith, length}
use Rattle.mw_model.specs.PlanSteps.{ranked}
use Rattle.mw_model.specs.Windows.{seen_at}
use Rattle.mw_rank.specs.Ranks.{levels_under}
use Rattle.mw_rank.specs.Tallies.{count_under}
use Rattle.mw_rank.proofs.Sights.{length-levels}
use Rattle.mw_rank_medians.proofs.tiles.rank_at.Goals as goal

pub number_of-level-requires-clause-few : goal.number_of-level-requires-clause-few
number_of-level-requires-clause-few g c =
    let wanted = c.args.wanted in
    omega (
      arith,
      ap length (c.deref.ensures.value ∙ c.in_ok-gather.ensures.levels),
      length-levels g.P.Pixel.level (seen_at wanted.window.now) wanted.offsets.now c.from.result c.from-2.result,
      c.requires,
    )

pub number_of-level-requires-clause-top : goal.number_of-level-requires-clause-top
number_of-level-requires-clause-top g c =
    ap (λ (t : ℕ). count_under (t + 1) c.deref.result.now) (c.value-top.ensures.level ∙ ap g.P.Pixel.level c.TOP.ensures ∙ g.met.P.Pixel.top_is_top)
    ∙ ap (count_under (g.P.Pixel.top_level + 1)) c.deref.ensures.value
    ∙ c.in_ok-gather.ensures.small
    ∙ sym (ap length c.deref.ensures.value)

pub sample_of-requires : goal.sample_of-requires
sample_of-requires g c = omega (arith, c.number_of-level.ensures.small, c.value-top.ensures.small)

pub returns : goal.returns
returns g c =
    let wanted = c.args.wanted in
    let rank = λ (x y : ℕ). ranked wanted.k (levels_under g.P.Pixel.level (seen_at wanted.window.now) wanted.offsets.now x y) in
    c.sample_of.ensures
    ∙ c.number_of-level.ensures.level
    ∙ ap (ranked wanted.k) (c.deref.ensures.value ∙ c.in_ok-gather.ensures.levels)
    ∙ ap (λ (x : ℕ). rank x c.from-2.result) c.from.ensures
    ∙ ap (rank c.args.x) c.from-2.ensures
