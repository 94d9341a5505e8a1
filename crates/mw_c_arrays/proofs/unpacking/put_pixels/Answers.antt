use Rattle.std.proofs.Common.{◌≡◌, ℕ, ◌+◌, ◌-◌, ◌*◌, get_or, ap, sym, arith, ◌∙◌}
use Rattle.std.proofs.lemmas.Grind.{same_number_lists}
use Rattle.mw_model.specs.Rasters.{Raster}
use Rattle.mw_pixel.proofs.mw_pixel_words.Bits.{rows_fit}
use Rattle.mw_bits_rows.proofs.Packs.{parts_more}
use Rattle.mw_c_arrays.proofs.unpacking.put_pixels.Goals as goal

pub loop-y-preserved : goal.loop-y-preserved
loop-y-preserved c =
    let set = c.args.set.now in
    let y = c.loop-y.y in
    let w = c.width-width.result in
    let h = c.height-height.result in
    let fits = rows_fit y h w (omega arith) in
    let all : h * w ≡ set.height * set.width = ap (λ (t : ℕ). t * w) c.height-height.ensures.value ∙ ap (λ (t : ℕ). set.height * t) c.width-width.ensures.value in
    let size = c.width-width.ensures.size in
    let words-is = c.words-words.ensures.value in
    λ x lt. parts_more (λ (i : ℕ). get_or set.cells i 0) (y * w) w (y * w + w - y * w) c.loop-y.out c.put_row.new.out (omega (arith, fits, all, size)) (omega arith) (omega (arith, fits, all, size)) c.loop-y.invariant
    (λ i less.
    c.put_row.ensures i (omega (arith, fits, all, size))
    ∙ c.row.ensures.samples i (omega (arith, less, ap (λ (r : Raster ℕ). r.width) words-is, c.width-width.ensures.value))
    ∙ ap (λ (r : Raster ℕ). get_or r.cells (y * r.width + i) 0) words-is
    ∙ ap (λ (t : ℕ). get_or set.cells (y * t + i) 0) (sym c.width-width.ensures.value)) x (omega arith)

pub returns : goal.returns
returns c =
    let set = c.args.set.now in
    let w = c.width-width.result in
    let high : c.height-height.result ≡ set.height = c.height-height.ensures.value in
    let whole : c.loop-y.y ≡ set.height = omega (arith, high) in
    let all : c.loop-y.y * w ≡ set.height * set.width = ap (λ (t : ℕ). t * w) whole ∙ ap (λ (t : ℕ). set.height * t) c.width-width.ensures.value in
    let size = c.width-width.ensures.size in
    same_number_lists c.loop-y.out set.cells (omega arith) (λ k lt. c.loop-y.invariant k (omega (arith, lt, all, size)))
