use Rattle.std.proofs.Common.{refl}
use Rattle.mw_model.specs.declared.shapes.Kind.TheVariants as kind
use Rattle.mw_step.proofs.PlaceByPlace.{marked_plane}
use Rattle.mw_step.proofs.marks.mark_places.Goals as goal

pub returns-in_ok-plane-in-Bits-clause-held : goal.returns-in_ok-plane-in-Bits-clause-held
returns-in_ok-plane-in-Bits-clause-held c = c.made_bits.ensures _ (marked_plane c.args.a.now c.args.v c.args.v c.args.places.now.cells kind.Bit 1 c.in-Bits.set.now c.in_ok-plane-in-Bits.plane c.in-Bits.ensures (record { width = c.in_ok-plane-in-Bits.ensures.width; height = c.in_ok-plane-in-Bits.ensures.height }) refl c.in_ok-plane-in-Bits.ensures.cells)

pub returns-in_ok-plane-in-Grey8-clause-held : goal.returns-in_ok-plane-in-Grey8-clause-held
returns-in_ok-plane-in-Grey8-clause-held c = c.made_bytes.ensures _ (marked_plane c.args.a.now c.args.v c.sample_of.result c.args.places.now.cells kind.Grey c.in-Grey8.maxval c.in-Grey8.samples.now c.in_ok-plane-in-Grey8.plane c.in-Grey8.ensures.0 (record { width = c.in_ok-plane-in-Grey8.ensures.width; height = c.in_ok-plane-in-Grey8.ensures.height }) c.sample_of.ensures c.in_ok-plane-in-Grey8.ensures.cells)

pub returns-in_ok-plane-in-Grey16-clause-held : goal.returns-in_ok-plane-in-Grey16-clause-held
returns-in_ok-plane-in-Grey16-clause-held c = c.made_words.ensures _ (marked_plane c.args.a.now c.args.v c.sample_of-in-Grey16.result c.args.places.now.cells kind.Grey c.in-Grey16.maxval c.in-Grey16.samples.now c.in_ok-plane-in-Grey16.plane c.in-Grey16.ensures.0 (record { width = c.in_ok-plane-in-Grey16.ensures.width; height = c.in_ok-plane-in-Grey16.ensures.height }) c.sample_of-in-Grey16.ensures c.in_ok-plane-in-Grey16.ensures.cells)
