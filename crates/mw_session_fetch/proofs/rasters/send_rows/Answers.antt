use Rattle.std.proofs.Common.{◌≡◌, ◌*◌, ◌<◌, ℕ, List, length, take, drop, ap, sym, subst, arith, ◌∙◌}
use Rattle.std.proofs.lemmas.Result.{err_from_is_err_and}
use Rattle.std.specs.Io.KnownBytes.{Appends}
use Rattle.mw_model.specs.Rasters.{Raster}
use Rattle.mw_wire.specs.Writes.{CutsShort}
use Rattle.mw_session_fetch.proofs.Written.{all_rows, cut_row, more_rows}
use Rattle.mw_session_fetch.proofs.rasters.send_rows.Goals as goal

pub returns-in_err-send-clause-wrote : goal.returns-in_err-send-clause-wrote
returns-in_err-send-clause-wrote g c = λ f cut.
    let p = err_from_is_err_and c.from_residual.result c.from_residual.ensures.1 in
    let old = g.W.Write.contents c.args.sink.now.inner in
    let now = g.W.Write.contents c.loop-y.sink.inner in
    let new = g.W.Write.contents c.send.new.sink.inner in
    let row = c.read.new.row in
    let test : c.loop-y.y < c.height-y-end.result = c.loop-y-test.true in
    let within : c.loop-y.y < f.height = omega (arith, cut.shows.height, c.height-y-end.ensures.value) in
    let wide : row.width ≡ f.width = c.read.ensures.width ∙ sym cut.shows.width in
    let row-is : row.cells ≡ take f.width (drop (c.loop-y.y * f.width) f.cells) = c.read.ensures.value f cut in
    rw p.1
    (cut_row g.P.RowBytes.bytes f c.loop-y.y row.width row.cells old now new within wide row-is (c.loop-y.invariant.wrote f cut)
    (subst (λ (l : List ℕ). CutsShort now new l) (c.deref.ensures.value ∙ c.fill.ensures.value ∙ ap (λ (r : Raster _). g.P.RowBytes.bytes r.width r.cells) c.held.ensures) c.in_err-send.ensures.wrote))

pub loop-y-preserved : goal.loop-y-preserved
loop-y-preserved g c =
    let i = c.loop-y.invariant in
    record {
      wrote = λ f cut.
          let old = g.W.Write.contents c.args.sink.now.inner in
          let now = g.W.Write.contents c.loop-y.sink.inner in
          let new = g.W.Write.contents c.send.new.sink.inner in
          let row = c.read.new.row in
          let test : c.loop-y.y < c.height-y-end.result = c.loop-y-test.true in
          let within : c.loop-y.y < f.height = omega (arith, cut.shows.height, c.height-y-end.ensures.value) in
          let wide : row.width ≡ f.width = c.read.ensures.width ∙ sym cut.shows.width in
          let row-is : row.cells ≡ take f.width (drop (c.loop-y.y * f.width) f.cells) = c.read.ensures.value f cut in
          more_rows g.P.RowBytes.bytes f c.loop-y.y row.width row.cells old now new within wide row-is (i.wrote f cut)
          (subst (λ (l : List ℕ). Appends now new l) (c.deref.ensures.value ∙ c.fill.ensures.value ∙ ap (λ (r : Raster _). g.P.RowBytes.bytes r.width r.cells) c.held.ensures) c.in_ok-send.ensures.wrote);
      kept = c.in_ok-send.ensures.remembers.kept ∙ i.kept;
      width = c.read.ensures.width ∙ sym c.requires.width;
      height = c.read.ensures.height;
      text = omega (arith, i.text, c.fill.ensures.room);
    }

pub returns-clause-wrote : goal.returns-clause-wrote
returns-clause-wrote g c = λ f cut.
    all_rows g.P.RowBytes.bytes f c.loop-y.y (g.W.Write.contents c.args.sink.now.inner) (g.W.Write.contents c.loop-y.sink.inner) (omega (arith, cut.shows.height, c.height-y-end.ensures.value, c.loop-y-test.false)) (c.loop-y.invariant.wrote f cut)

pub fill-requires : goal.fill-requires
fill-requires g c =
    let row = c.read.new.row in
    let i = c.loop-y.invariant in
    let fits = c.requires.text row.cells c.read.ensures.count in
    let same = ap (λ (r : Raster _). length (g.P.RowBytes.bytes r.width r.cells)) c.held.ensures ∙ ap (λ (n : ℕ). length (g.P.RowBytes.bytes n row.cells)) c.read.ensures.width in
    record {
      one = ap (λ (r : Raster _). r.height) c.held.ensures ∙ c.read.ensures.height;
      room = omega (arith, fits, same, i.text);
    }
