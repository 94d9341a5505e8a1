use Rattle.mw_model.specs.declared.shapes.Kind.TheVariants as kind
use Rattle.mw_model.specs.Rectangles.{box_offsets}
use Rattle.mw_step.proofs.Slid.{slid_extremum}
use Rattle.mw_step.proofs.flat.slide_box.Goals as goal

pub returns-in_ok-plane-in-Bits : goal.returns-in_ok-plane-in-Bits
returns-in_ok-plane-in-Bits g c = c.made_bits.ensures _ (slid_extremum g.E.LevelExtremum.of_seen g.E.Extremum-1.merge (g.E.Extremum-1.neutral_of 1) (box_offsets c.args.offsets) c.args.window.now kind.Bit 1 c.in-Bits.set.now c.args.tile c.in_ok-plane-in-Bits.plane c.in-Bits.ensures (g.met.E.LevelExtremum.bits_fold 1) c.in_ok-plane-in-Bits.ensures.over_window)

pub returns-in_ok-plane-in-Grey8 : goal.returns-in_ok-plane-in-Grey8
returns-in_ok-plane-in-Grey8 g c = c.made_bytes.ensures _ (slid_extremum g.E.LevelExtremum.of_seen g.E.Extremum-2.merge (g.E.Extremum-2.neutral_of c.in-Grey8.maxval) (box_offsets c.args.offsets) c.args.window.now kind.Grey c.in-Grey8.maxval c.in-Grey8.samples.now c.args.tile c.in_ok-plane-in-Grey8.plane c.in-Grey8.ensures.0 (g.met.E.LevelExtremum.bytes_fold c.in-Grey8.maxval) c.in_ok-plane-in-Grey8.ensures)

pub returns-in_ok-plane-in-Grey16 : goal.returns-in_ok-plane-in-Grey16
returns-in_ok-plane-in-Grey16 g c = c.made_words.ensures _ (slid_extremum g.E.LevelExtremum.of_seen g.E.Extremum-3.merge (g.E.Extremum-3.neutral_of c.in-Grey16.maxval) (box_offsets c.args.offsets) c.args.window.now kind.Grey c.in-Grey16.maxval c.in-Grey16.samples.now c.args.tile c.in_ok-plane-in-Grey16.plane c.in-Grey16.ensures.0 (g.met.E.LevelExtremum.words_fold c.in-Grey16.maxval) c.in_ok-plane-in-Grey16.ensures)
