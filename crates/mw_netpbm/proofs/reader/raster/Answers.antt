use Rattle.std.proofs.Common.{◌*◌, Result, sym, ap, subst}
use Rattle.mw_model.specs.declared.formats.Format.{Format}
use Rattle.mw_model.specs.Pictures.{Picture}
use Rattle.mw_netpbm_plain.specs.declared.fault.ReadFault.{ReadFault}
use Rattle.mw_netpbm_plain.specs.Reading.{Gives}
use Rattle.mw_netpbm.specs.Rasters.{bits_in_raster, grey8_at, grey16_at}
use Rattle.mw_netpbm_plain.specs.Plain.{plain_at, pixel_in_text, sample_in_text}
use Rattle.mw_netpbm.specs.Whole.{raster_as}
use Rattle.mw_netpbm.proofs.Made.{Gives_levels, fit_found, set_made}
use Rattle.mw_netpbm.proofs.Whole.{grey8_fit, grey16_fit}
use Rattle.mw_netpbm_plain.proofs.Whole.{plain_fit}
use Rattle.mw_netpbm.proofs.reader.raster.Goals as goal

pub grey8_image-requires-clause-fit : goal.grey8_image-requires-clause-fit
grey8_image-requires-clause-fit c =
    let n = c.args.head.now.height * c.args.head.now.width in
    let m = c.args.head.now.maxval in
    let read = plain_at (sample_in_text m) n c.args.raster.now in
    fit_found (λ v. v.items) c.samples-found.result read n m (Gives_levels (λ v. v.items) c.samples-found.result read c.samples-found.ensures) (λ xs e. plain_fit m n c.args.raster.now xs e)

pub grey16_image-requires-clause-fit : goal.grey16_image-requires-clause-fit
grey16_image-requires-clause-fit c =
    let n = c.args.head.now.height * c.args.head.now.width in
    let m = c.args.head.now.maxval in
    let read = plain_at (sample_in_text m) n c.args.raster.now in
    fit_found (λ v. v.items) c.samples-found-in-PlainGrey-2.result read n m (Gives_levels (λ v. v.items) c.samples-found-in-PlainGrey-2.result read c.samples-found-in-PlainGrey-2.ensures) (λ xs e. plain_fit m n c.args.raster.now xs e)

pub grey8_image-requires-in-RawGrey-clause-fit : goal.grey8_image-requires-in-RawGrey-clause-fit
grey8_image-requires-in-RawGrey-clause-fit c =
    let n = c.args.head.now.height * c.args.head.now.width in
    let m = c.args.head.now.maxval in
    fit_found (λ v. v.items) c.grey8-found.result (grey8_at n m c.args.raster.now) n m c.grey8-found.ensures (λ xs e. grey8_fit n m c.args.raster.now xs e)

pub grey16_image-requires-in-RawGrey-2-clause-fit : goal.grey16_image-requires-in-RawGrey-2-clause-fit
grey16_image-requires-in-RawGrey-2-clause-fit c =
    let n = c.args.head.now.height * c.args.head.now.width in
    let m = c.args.head.now.maxval in
    fit_found (λ v. v.items) c.grey16-found.result (grey16_at n m c.args.raster.now) n m c.grey16-found.ensures (λ xs e. grey16_fit n m c.args.raster.now xs e)

pub returns-in-PlainBits : goal.returns-in-PlainBits
unfolding raster_as
returns-in-PlainBits c =
    let w = c.args.head.now.width in
    let h = c.args.head.now.height in
    let m = c.args.head.now.maxval in
    let bytes = c.args.raster.now in
    subst (λ (r : Result Picture ReadFault). Gives (λ i. i) c.set_image.result r) (ap (λ (f : Format). raster_as f w h m bytes) (sym c.in-PlainBits.is))
    (set_made w h c.set-found.result (plain_at pixel_in_text (h * w) bytes) c.set_image.result c.set-found.ensures c.set_image.ensures)

pub returns-in-RawBits : goal.returns-in-RawBits
unfolding raster_as
returns-in-RawBits c =
    let w = c.args.head.now.width in
    let h = c.args.head.now.height in
    let m = c.args.head.now.maxval in
    let bytes = c.args.raster.now in
    subst (λ (r : Result Picture ReadFault). Gives (λ i. i) c.set_image-in-RawBits.result r) (ap (λ (f : Format). raster_as f w h m bytes) (sym c.in-RawBits.is))
    (set_made w h c.bits-found.result (bits_in_raster w h bytes) c.set_image-in-RawBits.result c.bits-found.ensures c.set_image-in-RawBits.ensures)
