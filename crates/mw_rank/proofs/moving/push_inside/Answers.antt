use Rattle.std.proofs.Common.{◌+◌, ◌∙◌, arith}
use Rattle.mw_model.specs.PlanSteps.{ranked}
use Rattle.mw_model.specs.Windows.{seen_at}
use Rattle.mw_rank.specs.Ranks.{levels_under}
use Rattle.mw_rank.specs.Runs.{element_of}
use Rattle.mw_rank.proofs.Sights.{length-levels}
use Rattle.mw_rank.proofs.Rows.{gains_more}
use Rattle.mw_rank.proofs.Edges.{kept, before_ends, moved_by_ends, length-before_ends, known_samples}
use Rattle.mw_rank.proofs.moving.push_inside.Goals as goal

pub select-requires : goal.select-requires
select-requires g c = (
  g.P.Pixel.top_level,
  record {
    others = levels_under g.P.Pixel.level (seen_at c.args.window.now) (element_of c.args.runs.now) (c.args.at.x + c.loop-i.i) c.args.at.y;
    tallies = c.loop-i.invariant.tallies;
    few = omega (arith, c.requires.few, length-levels g.P.Pixel.level (seen_at c.args.window.now) (element_of c.args.runs.now) (c.args.at.x + c.loop-i.i) c.args.at.y);
  },
)

pub sample_of-sample-requires : goal.sample_of-sample-requires
sample_of-sample-requires g c = c.select.ensures.small g.P.Pixel.top_level _ c.loop-i.invariant.tallies

pub exchange_ends-requires-clause-inside : goal.exchange_ends-requires-clause-inside
exchange_ends-requires-clause-inside g c = (c.args.at.width, omega arith, (known_samples g.P.Pixel.level g.P.Pixel.TOP (seen_at c.args.window.now) c.samples-samples.result.now c.args.window.now.cells c.args.runs.now c.args.at.x c.args.at.y c.args.at.width c.args.ends.now c.samples-samples.ensures.value c.requires.ends).inside)

pub exchange_ends-requires-clause-held : goal.exchange_ends-requires-clause-held
exchange_ends-requires-clause-held g c = record {
  others = kept g.P.Pixel.level (seen_at c.args.window.now) c.args.runs.now (c.args.at.x + c.loop-i.i) c.args.at.y;
  tallies = before_ends g.P.Pixel.level g.P.Pixel.TOP (seen_at c.args.window.now) c.samples-samples.result.now c.args.runs.now c.args.ends.now c.args.at.x c.args.at.y c.args.at.width c.loop-i.i g.P.Pixel.top_level c.select.new.self (omega arith) (known_samples g.P.Pixel.level g.P.Pixel.TOP (seen_at c.args.window.now) c.samples-samples.result.now c.args.window.now.cells c.args.runs.now c.args.at.x c.args.at.y c.args.at.width c.args.ends.now c.samples-samples.ensures.value c.requires.ends)
      (c.select.ensures.tallies g.P.Pixel.top_level _ c.loop-i.invariant.tallies);
  few = omega (
    arith,
    c.requires.few,
    length-before_ends g.P.Pixel.level g.P.Pixel.TOP (seen_at c.args.window.now) c.samples-samples.result.now c.args.runs.now c.args.ends.now c.args.at.x c.args.at.y c.args.at.width c.loop-i.i (omega arith) (known_samples g.P.Pixel.level g.P.Pixel.TOP (seen_at c.args.window.now) c.samples-samples.result.now c.args.window.now.cells c.args.runs.now c.args.at.x c.args.at.y c.args.at.width c.args.ends.now c.samples-samples.ensures.value c.requires.ends),
  );
}

pub loop-i-preserved : goal.loop-i-preserved
loop-i-preserved g c =
    let level = g.P.Pixel.level in
    let sight = seen_at c.args.window.now in
    let element = element_of c.args.runs.now in
    let top = g.P.Pixel.top_level in
    record {
      tallies = moved_by_ends level g.P.Pixel.TOP sight c.samples-samples.result.now c.args.runs.now c.args.ends.now c.args.at.x c.args.at.y c.args.at.width c.loop-i.i top c.select.new.self c.exchange_ends.new.histogram (omega arith) (known_samples g.P.Pixel.level g.P.Pixel.TOP (seen_at c.args.window.now) c.samples-samples.result.now c.args.window.now.cells c.args.runs.now c.args.at.x c.args.at.y c.args.at.width c.args.ends.now c.samples-samples.ensures.value c.requires.ends) c.exchange_ends.ensures
          (c.select.ensures.tallies top _ c.loop-i.invariant.tallies);
      row = gains_more level (λ i. ranked c.args.at.k (levels_under level sight element (c.args.at.x + i) c.args.at.y)) c.loop-i.i c.args.out.now.items c.loop-i.out.items c.push.new.self.items c.sample_of-sample.result
          c.in_ok-push.ensures.items (c.sample_of-sample.ensures ∙ c.select.ensures.level top _ c.loop-i.invariant.tallies) c.loop-i.invariant.row;
    }
