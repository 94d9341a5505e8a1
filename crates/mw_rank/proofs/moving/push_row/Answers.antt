use Rattle.std.proofs.Common.{◌+◌, ◌∙◌, arith}
use Rattle.mw_model.specs.PlanSteps.{ranked}
use Rattle.mw_model.specs.Windows.{seen_at}
use Rattle.mw_rank.specs.Ranks.{levels_under}
use Rattle.mw_rank.specs.Runs.{element_of}
use Rattle.mw_rank.proofs.Sights.{length-levels}
use Rattle.mw_rank.proofs.Moves.{tallies_at}
use Rattle.mw_rank.proofs.Rows.{gains_more}
use Rattle.mw_rank.proofs.moving.push_row.Goals as goal

pub select-requires : goal.select-requires
select-requires g c = (
  g.P.Pixel.top_level,
  record {
    others = levels_under g.P.Pixel.level (seen_at c.args.window.now) (element_of c.args.runs.now) (c.args.at.x + c.loop-i.i) c.args.at.y;
    tallies = c.loop-i.invariant.tallies;
    few = omega (arith, c.requires.few, length-levels g.P.Pixel.level (seen_at c.args.window.now) (element_of c.args.runs.now) (c.args.at.x + c.loop-i.i) c.args.at.y);
  },
)

pub sample_of-sample-requires : goal.sample_of-sample-requires
sample_of-sample-requires g c = c.select.ensures.small g.P.Pixel.top_level _ c.loop-i.invariant.tallies

pub advance-requires-clause-held : goal.advance-requires-clause-held
advance-requires-clause-held g c =
    tallies_at g.P.Pixel.level (seen_at c.args.window.now) (element_of c.args.runs.now) (c.args.at.x + c.loop-i.i) (c.args.at.x + c.from.result) c.args.at.y g.P.Pixel.top_level _ (omega (arith, c.from.ensures))
    (c.select.ensures.tallies g.P.Pixel.top_level _ c.loop-i.invariant.tallies)

pub loop-i-preserved : goal.loop-i-preserved
loop-i-preserved g c =
    let level = g.P.Pixel.level in
    let sight = seen_at c.args.window.now in
    let element = element_of c.args.runs.now in
    let top = g.P.Pixel.top_level in
    record {
      tallies = tallies_at level sight element (c.args.at.x + c.from.result + 1) (c.args.at.x + (c.loop-i.i + 1)) c.args.at.y top _ (omega (arith, c.from.ensures)) c.advance.ensures;
      row = gains_more level (λ i. ranked c.args.at.k (levels_under level sight element (c.args.at.x + i) c.args.at.y)) c.loop-i.i c.args.out.now.items c.loop-i.out.items c.push.new.self.items c.sample_of-sample.result
          c.in_ok-push.ensures.items (c.sample_of-sample.ensures ∙ c.select.ensures.level top _ c.loop-i.invariant.tallies) c.loop-i.invariant.row;
    }
