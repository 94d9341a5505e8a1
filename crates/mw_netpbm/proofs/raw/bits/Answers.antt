use Rattle.std.proofs.Common.{◌≤◌, ℕ, ◌*◌, ◌+◌, ◌/◌, List, length, Ok, ap, sym, ◌∙◌, arith}
use Rattle.mw_model.specs.Rasters.{Raster, raster}
use Rattle.mw_netpbm.specs.Rasters.{rows_bits}
use Rattle.mw_netpbm_plain.specs.Whole.{raster_from}
use Rattle.mw_netpbm_plain.proofs.InWords.{rows_are_packed, rows_samples}
use Rattle.mw_netpbm.proofs.Sides.{rows_within, rows_length, bits_whole}
use Rattle.mw_netpbm.proofs.raw.bits.Goals as goal

pub new-requires : goal.new-requires
new-requires c =
    let w = c.args.width in
    let h = c.args.height in
    let bytes = c.args.raster.now in
    rows_are_packed w h (rows_bits w h bytes) c.in_ok-words.words.items c.in_ok-words.ensures (rows_within w h bytes)

pub returns : goal.returns
returns c =
    let w = c.args.width in
    let h = c.args.height in
    let bytes = c.args.raster.now in
    let enough : h * ((w + 7) / 8) ≤ length bytes = omega arith in
    let no_more : length bytes ≤ h * ((w + 7) / 8) = omega arith in
    ap (raster_from w h) (bits_whole w h bytes enough no_more)
    ∙ ap (λ (cells : List ℕ). Ok (raster w h cells)) (sym (rows_samples w h (rows_bits w h bytes) c.in_ok-words.words.items c.in_ok-words.ensures (rows_length w h bytes enough) (rows_within w h bytes)))
    ∙ ap (λ (f : Raster ℕ). Ok f) (sym c.new.ensures)
