use Rattle.std.proofs.Common.{◌≡◌, ◌*◌, true, ltb, drop, Result, refl, sym, ap, subst, ◌∙◌}
use Rattle.std.proofs.lemmas.Bool.{lt-ltb}
use Rattle.mw_model.specs.declared.formats.Format.TheVariants.{RawGrey}
use Rattle.mw_model.specs.Pictures.{Picture}
use Rattle.mw_netpbm_plain.specs.declared.fault.ReadFault.{ReadFault}
use Rattle.mw_netpbm_plain.specs.Reading.{Gives}
use Rattle.mw_netpbm.specs.Rasters.{grey8_at}
use Rattle.mw_netpbm.specs.Whole.{grey_from, raster_as}
use Rattle.mw_netpbm.proofs.Made.{seen_fit}
use Rattle.mw_netpbm.proofs.Whole.{grey8_fit}
use Rattle.mw_netpbm.proofs.reader.owned_raster.Goals as goal

pub grey8_image-requires-clause-fit : goal.grey8_image-requires-clause-fit
grey8_image-requires-clause-fit c =
    let n = c.args.head.now.height * c.args.head.now.width in
    let m = c.args.head.now.maxval in
    let raster = drop c.args.start c.args.file.items in
    seen_fit (λ v. v.items) c.owned_grey8-found.result (grey8_at n m raster) n m c.owned_grey8-found.ensures (λ xs e. grey8_fit n m raster xs e)

pub returns : goal.returns
unfolding raster_as
returns c =
    let w = c.args.head.now.width in
    let h = c.args.head.now.height in
    let m = c.args.head.now.maxval in
    let raster = drop c.args.start c.args.file.items in
    let low : ltb m 256 ≡ true = lt-ltb m 256 c.requires.maxval in
    let bytes : raster_as RawGrey w h m raster ≡ grey_from w h m (grey8_at (h * w) m raster) = rw low refl in
    subst (λ (r : Result Picture ReadFault). Gives (λ i. i) c.grey8_image.result r)
    (ap (grey_from w h m) c.owned_grey8-found.ensures ∙ sym bytes ∙ ap (λ f. raster_as f w h m raster) (sym c.requires.format)) c.grey8_image.ensures
