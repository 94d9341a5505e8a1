use Rattle.std.proofs.Common.{sym, ◌∙◌}
use Rattle.mw_model.specs.declared.shapes.Kind.TheVariants as kind
use Rattle.mw_tile_pieces.proofs.Windows.{joined_is}
use Rattle.mw_tile_pieces.proofs.whole_windows.assemble.Goals as goal

pub returns-in_ok-joined-in-Bits : goal.returns-in_ok-joined-in-Bits
returns-in_ok-joined-in-Bits c = c.bits.ensures ∙ joined_is kind.Bit 1 c.in-Bits.pieces.now c.in_ok-joined-in-Bits.joined c.in-Bits.ensures.1 c.in_ok-joined-in-Bits.ensures ∙ sym c.in-Bits.ensures.0

pub returns-in_ok-joined-in-Grey8 : goal.returns-in_ok-joined-in-Grey8
returns-in_ok-joined-in-Grey8 c =
    c.grey8.ensures ∙ joined_is kind.Grey c.in-Grey8.maxval c.in-Grey8.pieces.now c.in_ok-joined-in-Grey8.joined c.in-Grey8.ensures.1 c.in_ok-joined-in-Grey8.ensures ∙ sym c.in-Grey8.ensures.0

pub returns-in_ok-joined-in-Grey16 : goal.returns-in_ok-joined-in-Grey16
returns-in_ok-joined-in-Grey16 c =
    c.grey16.ensures ∙ joined_is kind.Grey c.in-Grey16.maxval c.in-Grey16.pieces.now c.in_ok-joined-in-Grey16.joined c.in-Grey16.ensures.1 c.in_ok-joined-in-Grey16.ensures ∙ sym c.in-Grey16.ensures.0
