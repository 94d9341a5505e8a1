use Rattle.std.proofs.Common.{Ok, sym, ◌∙◌, ap, subst}
use Rattle.std.specs.Prelude.{Result}
use Rattle.mw_model.specs.Bitmaps.{BitmapRefuses}
use Rattle.mw_netpbm_plain.specs.declared.bitmap.BitmapFacts.{BitmapFacts}
use Rattle.mw_netpbm_plain.specs.declared.fault.BitmapFault.{BitmapFault}
use Rattle.mw_netpbm_plain.specs.Faults.{bitmap_code_of, facts_of, facts_at}
use Rattle.mw_netpbm_plain.proofs.Bitmaps.{scan_finds, scan_only, scan_refuses}
use Rattle.mw_netpbm_plain.proofs.Outcomes.{no_both}
use Rattle.mw_netpbm_plain.proofs.Sides.{ok_is}
use Rattle.mw_netpbm_plain.proofs.bitmap.scan_plain_bitmap.Goals as goal

pub returns-in-Ok-clause-found : goal.returns-in-Ok-clause-found
returns-in-Ok-clause-found c = scan_finds c.args.side c.args.bytes.now c.in-Ok.facts c.ranges.side.fits c.in-Ok.ensures

abbrev found : BitmapFacts → Result BitmapFacts BitmapFault
found x = Ok x

pub returns-in-Ok-clause-only : goal.returns-in-Ok-clause-only
returns-in-Ok-clause-only c = λ f is. ap found (ok_is c.in-Ok.facts (facts_of f) (c.in-Ok.ensures ∙ scan_only c.args.side c.args.bytes.now f c.ranges.side.fits is))

pub returns-in-Err-clause-only : goal.returns-in-Err-clause-only
returns-in-Err-clause-only c = λ f is. absurd (no_both (facts_at c.args.side c.args.bytes.now) (facts_of f) c.in-Err.fault (scan_only c.args.side c.args.bytes.now f c.ranges.side.fits is) (sym c.in-Err.ensures))

pub returns-in-Err-clause-refused : goal.returns-in-Err-clause-refused
returns-in-Err-clause-refused c =
    subst (λ (e : BitmapFault). BitmapRefuses c.args.bytes.now c.args.side (bitmap_code_of e)) (sym c.as_bitmap_fault.ensures) (scan_refuses c.args.side c.args.bytes.now c.in-Err.fault c.ranges.side.fits c.in-Err.ensures)
