use Rattle.std.proofs.Common.{◌++◌, List, arith, map, subst}
use Rattle.std.proofs.lemmas.List.{drop_all}
use Rattle.mw_rank.specs.Tallies.{Tallies}
use Rattle.mw_rank.proofs.Parts.{sample_left, length-left}
use Rattle.mw_rank.proofs.moving.leave_part.Goals as goal

pub loop-sample-init : goal.loop-sample-init
loop-sample-init g c = λ ns t. t

pub remove-requires : goal.remove-requires
remove-requires g c = (
  g.P.Pixel.top_level,
  record {
    others = _;
    tallies = sample_left g.P.Pixel.level c.args.samples.now c.loop-sample.sample-index g.P.Pixel.top_level c.value.result c.sample-item.result c.loop-sample.histogram c.requires.others (omega arith) c.sample-item.is c.value.ensures.level
        (c.loop-sample.invariant c.requires.others c.requires.tallies);
    few = omega (arith, c.requires.few, length-left g.P.Pixel.level c.args.samples.now c.loop-sample.sample-index c.requires.others (omega arith));
  },
)

pub loop-sample-preserved : goal.loop-sample-preserved
loop-sample-preserved g c = λ ns t.
    c.remove.ensures g.P.Pixel.top_level _
    (sample_left g.P.Pixel.level c.args.samples.now c.loop-sample.sample-index g.P.Pixel.top_level c.value.result c.sample-item.result c.loop-sample.histogram ns (omega arith) c.sample-item.is c.value.ensures.level (c.loop-sample.invariant ns t))

pub returns : goal.returns
returns g c = λ ns t.
    subst (λ (l : List _). Tallies g.P.Pixel.top_level c.loop-sample.histogram (map g.P.Pixel.level l ++ ns)) (drop_all c.loop-sample.sample-index c.args.samples.now (omega arith)) (c.loop-sample.invariant ns t)
