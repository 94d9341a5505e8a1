use Rattle.std.proofs.Common.{◌∙◌, ap, arith, length}
use Rattle.mw_rank_counts.specs.mw_rank.Runs.{element_of}
use Rattle.mw_rank_counts.proofs.mw_rank.Elements.{element_of-runs}
use Rattle.mw_rank_rows.proofs.Rectangular.{runs_few}
use Rattle.mw_rank_rows.proofs.rows.side_by_side.Goals as goal

pub rectangle_of-requires-clause-few : goal.rectangle_of-requires-clause-few
rectangle_of-requires-clause-few g c =
    let same = ap element_of c.deref.ensures.value ∙ element_of-runs c.in_ok-runs.runs.items c.in_ok-runs.ensures.runs ∙ c.in_ok-runs.ensures.offsets in
    omega (arith, runs_few c.deref.result.now, ap length same, c.requires)

pub rank_wanted-requires-clause-rectangle : goal.rank_wanted-requires-clause-rectangle
rank_wanted-requires-clause-rectangle g c = record {
  some = c.in-Some.ensures.some;
  is = c.in-Some.ensures.is ∙ ap element_of c.deref.ensures.value ∙ element_of-runs c.in_ok-runs.runs.items c.in_ok-runs.ensures.runs ∙ c.in_ok-runs.ensures.offsets;
}
