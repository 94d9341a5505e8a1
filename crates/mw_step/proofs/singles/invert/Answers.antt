use Rattle.mw_model.specs.declared.shapes.Kind.TheVariants as kind
use Rattle.mw_step.proofs.PlaceByPlace.{flipped_plane, inverted_plane}
use Rattle.mw_step.proofs.singles.invert.Goals as goal

pub returns-in_ok-plane-in-Bits : goal.returns-in_ok-plane-in-Bits
returns-in_ok-plane-in-Bits c = c.made_bits.ensures _ (flipped_plane c.args.a.now c.in-Bits.set.now c.in_ok-plane-in-Bits.plane c.in-Bits.ensures (record { width = c.in_ok-plane-in-Bits.ensures.width; height = c.in_ok-plane-in-Bits.ensures.height }) c.invert.ensures.size c.in_ok-plane-in-Bits.ensures.cells)

pub returns-in_ok-plane-in-Grey8 : goal.returns-in_ok-plane-in-Grey8
returns-in_ok-plane-in-Grey8 c = c.made_bytes.ensures _ (inverted_plane c.args.a.now kind.Grey c.in-Grey8.maxval c.in-Grey8.samples.now c.in_ok-plane-in-Grey8.plane c.in-Grey8.ensures.0 (record { width = c.in_ok-plane-in-Grey8.ensures.width; height = c.in_ok-plane-in-Grey8.ensures.height }) c.inverted.ensures.size c.in_ok-plane-in-Grey8.ensures.cells)

pub returns-in_ok-plane-in-Grey16 : goal.returns-in_ok-plane-in-Grey16
returns-in_ok-plane-in-Grey16 c = c.made_words.ensures _ (inverted_plane c.args.a.now kind.Grey c.in-Grey16.maxval c.in-Grey16.samples.now c.in_ok-plane-in-Grey16.plane c.in-Grey16.ensures.0 (record { width = c.in_ok-plane-in-Grey16.ensures.width; height = c.in_ok-plane-in-Grey16.ensures.height }) c.inverted-in-Grey16.ensures.size c.in_ok-plane-in-Grey16.ensures.cells)
