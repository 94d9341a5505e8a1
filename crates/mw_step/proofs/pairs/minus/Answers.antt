use Rattle.std.proofs.Common.{ℕ, ◌-◌}
use Rattle.mw_model.specs.declared.shapes.Kind.TheVariants as kind
use Rattle.mw_step.proofs.PlaceByPlace.{both_plane}
use Rattle.mw_step.proofs.pairs.minus.Goals as goal

pub returns-in_ok-plane-in-Bits : goal.returns-in_ok-plane-in-Bits
returns-in_ok-plane-in-Bits c = c.made_bits.ensures _ (both_plane (λ (m n : ℕ). m - n) c.args.a.now c.args.b.now.view c.bits_of-other.result.now kind.Bit 1 c.in-Bits.set.now c.in_ok-plane-in-Bits.plane c.in-Bits.ensures c.bits_of-other.ensures c.requires.place (record { width = c.in_ok-plane-in-Bits.ensures.width; height = c.in_ok-plane-in-Bits.ensures.height }) c.minus.ensures.first c.minus.ensures.second c.in_ok-plane-in-Bits.ensures.cells)

pub returns-in_ok-plane-in-Grey8 : goal.returns-in_ok-plane-in-Grey8
returns-in_ok-plane-in-Grey8 c = c.made_bytes.ensures _ (both_plane (λ (m n : ℕ). m - n) c.args.a.now c.args.b.now.view c.bytes_of-second.result.now kind.Grey c.in-Grey8.maxval c.in-Grey8.first.now c.in_ok-plane-in-Grey8.plane c.in-Grey8.ensures.0 c.bytes_of-second.ensures c.requires.place (record { width = c.in_ok-plane-in-Grey8.ensures.width; height = c.in_ok-plane-in-Grey8.ensures.height }) c.differences.ensures.first c.differences.ensures.second c.in_ok-plane-in-Grey8.ensures.cells)

pub returns-in_ok-plane-in-Grey16 : goal.returns-in_ok-plane-in-Grey16
returns-in_ok-plane-in-Grey16 c = c.made_words.ensures _ (both_plane (λ (m n : ℕ). m - n) c.args.a.now c.args.b.now.view c.words_of-second.result.now kind.Grey c.in-Grey16.maxval c.in-Grey16.first.now c.in_ok-plane-in-Grey16.plane c.in-Grey16.ensures.0 c.words_of-second.ensures c.requires.place (record { width = c.in_ok-plane-in-Grey16.ensures.width; height = c.in_ok-plane-in-Grey16.ensures.height }) c.differences-in-Grey16.ensures.first c.differences-in-Grey16.ensures.second c.in_ok-plane-in-Grey16.ensures.cells)
