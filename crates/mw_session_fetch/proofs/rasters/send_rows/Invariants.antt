use Rattle.std.proofs.Common.{◌≡◌, ◌≤◌, vec_capacity}
use Rattle.mw_model.specs.Rasters.{Raster}
use Rattle.mw_store.specs.mw_tile_planes.Rows.{AreCutFrom}
use Rattle.mw_session_fetch.proofs.Written.{HasRows}
use Rattle.mw_session_fetch.proofs.rasters.send_rows.Given as goal

abbrev pub invariant-loop-y : goal.invariant-loop-y
invariant-loop-y g l = record {
  wrote : (f : Raster _) → AreCutFrom f l.tiles → HasRows g.P.RowBytes.bytes f l.y (g.W.Write.contents l.fn.sink.inner) (g.W.Write.contents l.sink.inner);
  kept : l.sink.failed ≡ l.fn.sink.failed;
  width : l.row.width ≡ l.fn.row.width;
  height : l.row.height ≡ 1;
  text : vec_capacity l.fn.text ≤ vec_capacity l.text;
}
