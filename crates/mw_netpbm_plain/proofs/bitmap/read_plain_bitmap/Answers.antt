use Rattle.std.proofs.Common.{sym, ◌∙◌}
use Rattle.mw_netpbm_plain.proofs.Bitmaps.{bitmap_read, read_bitmap, read_only}
use Rattle.mw_netpbm_plain.proofs.Sides.{ok_is}
use Rattle.mw_netpbm_plain.proofs.bitmap.read_plain_bitmap.Goals as goal

pub returns-in-Ok-clause-found : goal.returns-in-Ok-clause-found
returns-in-Ok-clause-found c = read_bitmap c.args.side c.args.bytes.now c.in-Ok.plane c.ranges.side.fits c.in-Ok.ensures

pub returns-in-Ok-clause-only : goal.returns-in-Ok-clause-only
returns-in-Ok-clause-only c = λ f is. ok_is c.in-Ok.plane f (sym c.in-Ok.ensures ∙ bitmap_read c.args.side c.args.bytes.now f c.ranges.side.fits is)

pub returns-in-Err-clause-only : goal.returns-in-Err-clause-only
returns-in-Err-clause-only c = λ f is. c.as_bitmap_fault.ensures ∙ read_only c.in-Err.fault c.args.side c.args.bytes.now f c.ranges.side.fits c.in-Err.ensures is
