use Rattle.std.proofs.Common.{◌∙◌}
use Rattle.mw_netpbm.specs.Rows.{byte_row, rows_bytes, set_row, word_row}
use Rattle.mw_netpbm.proofs.RowTexts.{byte_text, set_text, word_text}
use Rattle.mw_store.specs.mw_pixel.Images.{raster_of}
use Rattle.mw_session_fetch.proofs.Written.{header_is, image_fetched}
use Rattle.mw_session_fetch.proofs.rasters.say_tiles.Goals as goal

pub returns-in-Bits-clause-said : goal.returns-in-Bits-clause-said
returns-in-Bits-clause-said g c =
    let f = c.args.plane.now in
    let shows = c.in-Bits.ensures.shows in
    let said = c.say_rows.ensures.said (raster_of f) shows.1 in
    let head-is = header_is c.kind.result f.kind c.width-width.result f.width c.height-height.result f.height c.maxval.result f.maxval c.deref.result.now (c.deref.ensures.value ∙ c.in-Ok.ensures) c.kind.ensures c.width-width.ensures.value c.height-height.ensures.value c.maxval.ensures in
    (said.0, image_fetched c.args.t f c.deref.result.now (rows_bytes set_row f.width f.height f.samples) said.0 head-is (set_text f shows.0) said.1, said.2, said.3)

pub returns-in-Grey8-clause-said : goal.returns-in-Grey8-clause-said
returns-in-Grey8-clause-said g c =
    let f = c.args.plane.now in
    let shows = c.in-Grey8.ensures.shows in
    let said = c.say_rows-in-Grey8.ensures.said (raster_of f) shows.2 in
    let head-is = header_is c.kind.result f.kind c.width-width.result f.width c.height-height.result f.height c.maxval.result f.maxval c.deref-in-Grey8.result.now (c.deref-in-Grey8.ensures.value ∙ c.in-Ok.ensures) c.kind.ensures c.width-width.ensures.value c.height-height.ensures.value c.maxval.ensures in
    (said.0, image_fetched c.args.t f c.deref-in-Grey8.result.now (rows_bytes byte_row f.width f.height f.samples) said.0 head-is (byte_text f c.in-Grey8.field-1 shows.0 shows.1 shows.2.size) said.1, said.2, said.3)

pub returns-clause-said : goal.returns-clause-said
returns-clause-said g c =
    let f = c.args.plane.now in
    let shows = c.in-Grey16.ensures.shows in
    let said = c.say_rows-in-Grey16.ensures.said (raster_of f) shows.2 in
    let head-is = header_is c.kind.result f.kind c.width-width.result f.width c.height-height.result f.height c.maxval.result f.maxval c.deref-in-Grey16.result.now (c.deref-in-Grey16.ensures.value ∙ c.in-Ok.ensures) c.kind.ensures c.width-width.ensures.value c.height-height.ensures.value c.maxval.ensures in
    (said.0, image_fetched c.args.t f c.deref-in-Grey16.result.now (rows_bytes word_row f.width f.height f.samples) said.0 head-is (word_text f c.in-Grey16.field-1 shows.0 shows.1 shows.2.size) said.1, said.2, said.3)
