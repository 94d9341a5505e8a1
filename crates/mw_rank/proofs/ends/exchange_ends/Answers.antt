use Rattle.std.proofs.Common.{arith}
use Rattle.mw_rank.specs.declared.ends.Ends.{Ends}
use Rattle.mw_rank.proofs.Edges.{leaving_now, entering_now, length-moving, Tallies-ended}
use Rattle.mw_rank.proofs.ends.exchange_ends.Goals as goal

pub loop-e-init : goal.loop-e-init
loop-e-init g c = λ ns t. t

pub exchange-requires : goal.exchange-requires
exchange-requires g c =
    let none : Ends = record { first = 0; next = 0 } in
    let held = c.requires.held in (
      g.P.Pixel.top_level,
      record {
        others = _;
        tallies = leaving_now g.P.Pixel.level g.P.Pixel.TOP c.args.samples.now c.args.ends.now none c.args.i c.loop-e.e-index c.requires.inside.0 g.P.Pixel.top_level c.value-left.result c.loop-e.histogram c.index-samples-e.result held.others
            (omega arith) c.requires.inside.1 c.requires.inside.2 c.index-samples-e.is c.value-left.ensures.level (c.loop-e.invariant held.others held.tallies);
        few = omega (arith, held.few, length-moving g.P.Pixel.level g.P.Pixel.TOP c.args.samples.now c.args.ends.now held.others c.args.i c.loop-e.e-index (omega arith));
      },
      c.value-entered.ensures.small,
    )

pub loop-e-preserved : goal.loop-e-preserved
loop-e-preserved g c = λ ns t.
    let none : Ends = record { first = 0; next = 0 } in
    entering_now g.P.Pixel.level g.P.Pixel.TOP c.args.samples.now c.args.ends.now none c.args.i c.loop-e.e-index c.requires.inside.0 g.P.Pixel.top_level c.value-entered.result c.exchange.new.self c.index-samples-e-in-loop-e.result _
    (omega arith) c.requires.inside.1 c.requires.inside.2 c.index-samples-e-in-loop-e.is c.value-entered.ensures.level
    (c.exchange.ensures g.P.Pixel.top_level _ c.value-entered.ensures.small
    (leaving_now g.P.Pixel.level g.P.Pixel.TOP c.args.samples.now c.args.ends.now none c.args.i c.loop-e.e-index c.requires.inside.0 g.P.Pixel.top_level c.value-left.result c.loop-e.histogram c.index-samples-e.result ns (omega arith)
    c.requires.inside.1 c.requires.inside.2 c.index-samples-e.is c.value-left.ensures.level (c.loop-e.invariant ns t)))

pub returns : goal.returns
returns g c = λ ns t. Tallies-ended g.P.Pixel.top_level c.loop-e.histogram g.P.Pixel.level g.P.Pixel.TOP c.args.samples.now c.args.ends.now c.args.i c.loop-e.e-index ns (omega arith) (c.loop-e.invariant ns t)
