use Rattle.std.proofs.Common.{◌++◌, List, arith, map, subst}
use Rattle.std.proofs.lemmas.List.{take_all}
use Rattle.mw_rank.specs.Tallies.{Tallies}
use Rattle.mw_rank.proofs.Parts.{sample_entered, length-part}
use Rattle.mw_rank.proofs.moving.enter_part.Goals as goal

pub loop-sample-init : goal.loop-sample-init
loop-sample-init g c = λ ns t. t

pub add-requires : goal.add-requires
add-requires g c = (
  g.P.Pixel.top_level,
  record {
    levels = _;
    tallies = c.loop-sample.invariant c.requires.levels c.requires.tallies;
    few = omega (arith, c.requires.few, length-part g.P.Pixel.level c.args.samples.now c.loop-sample.sample-index c.requires.levels);
  },
  c.value.ensures.small,
)

pub loop-sample-preserved : goal.loop-sample-preserved
loop-sample-preserved g c = λ ns t.
    sample_entered g.P.Pixel.level c.args.samples.now c.loop-sample.sample-index g.P.Pixel.top_level c.value.result c.sample-item.result c.add.new.self ns (omega arith) c.sample-item.is c.value.ensures.level
    (c.add.ensures g.P.Pixel.top_level _ c.value.ensures.small (c.loop-sample.invariant ns t))

pub returns : goal.returns
returns g c = λ ns t.
    subst (λ (l : List _). Tallies g.P.Pixel.top_level c.loop-sample.histogram (map g.P.Pixel.level l ++ ns)) (take_all c.loop-sample.sample-index c.args.samples.now (omega arith)) (c.loop-sample.invariant ns t)
