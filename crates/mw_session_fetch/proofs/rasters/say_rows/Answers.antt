use Rattle.std.proofs.Common.{◌++◌, ◌+◌, ◌*◌, ℕ, List, length, inl, refl, ap, sym, subst}
use Rattle.mw_model.specs.Replies.{handed_text, ImageBytes}
use Rattle.mw_netpbm.specs.Rows.{rows_bytes}
use Rattle.mw_wire.specs.Writes.{Wrote}
use Rattle.mw_session_fetch.proofs.Written.{image_said, raster_length}
use Rattle.mw_session_fetch.proofs.rasters.say_rows.Goals as goal

pub returns-clause-said : goal.returns-clause-said
returns-clause-said g c = λ f cut.
    let old = g.W.Write.contents c.args.sink.now.inner in
    let new = g.W.Write.contents c.send_image.new.sink.inner in
    let head = c.args.head.now in
    let rows = rows_bytes g.P.RowBytes.bytes f.width f.height f.cells in
    let n = c.height-height.result * c.byte_count-count.result in
    let long = raster_length g.P.RowBytes.bytes c.args.tiles.now f c.width-width.result c.height-height.result c.byte_count-count.result c.width-width.ensures.value c.height-height.ensures.value cut c.byte_count-count.ensures.value in (
      handed_text c.args.t (ImageBytes (head ++ rows)),
      inl refl,
      refl,
      subst (λ (l : List ℕ). Wrote old new l c.send_image.result) (image_said c.args.t (length head + n) c.image_line-line.result head rows c.image_line-line.ensures (ap (λ (m : ℕ). length head + m) (sym long))) (c.send_image.ensures.wrote f cut),
    )
