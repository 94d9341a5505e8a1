use Rattle.mw_model.specs.declared.shapes.Kind.TheVariants as kind
use Rattle.mw_step.proofs.Slid.{slid_rank}
use Rattle.mw_step.proofs.flat.rank_filter.Goals as goal

pub returns-in_ok-plane-in-Bits : goal.returns-in_ok-plane-in-Bits
returns-in_ok-plane-in-Bits c = c.made_bits.ensures _ (slid_rank c.args.k c.offsets-offsets.result.now c.args.element.now.offsets c.args.window.now kind.Bit 1 c.in-Bits.set.now c.args.tile c.in_ok-plane-in-Bits.plane c.in-Bits.ensures c.offsets-offsets.ensures.value c.in_ok-plane-in-Bits.ensures)

pub returns-in_ok-plane-in-Grey8 : goal.returns-in_ok-plane-in-Grey8
returns-in_ok-plane-in-Grey8 c = c.made_bytes.ensures _ (slid_rank c.args.k c.offsets-offsets.result.now c.args.element.now.offsets c.args.window.now kind.Grey c.in-Grey8.maxval c.in-Grey8.samples.now c.args.tile c.in_ok-plane-in-Grey8.plane c.in-Grey8.ensures.0 c.offsets-offsets.ensures.value c.in_ok-plane-in-Grey8.ensures.over_window)

pub returns-in_ok-plane-in-Grey16 : goal.returns-in_ok-plane-in-Grey16
returns-in_ok-plane-in-Grey16 c = c.made_words.ensures _ (slid_rank c.args.k c.offsets-offsets.result.now c.args.element.now.offsets c.args.window.now kind.Grey c.in-Grey16.maxval c.in-Grey16.samples.now c.args.tile c.in_ok-plane-in-Grey16.plane c.in-Grey16.ensures.0 c.offsets-offsets.ensures.value c.in_ok-plane-in-Grey16.ensures.over_window)
