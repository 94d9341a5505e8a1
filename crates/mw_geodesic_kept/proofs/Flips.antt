-- A set whose bits are turned round is the complement.
use Rattle.std.proofs.Common.{◌≡◌, ℕ, ◌+◌, ◌-◌, ◌*◌, ◌<◌, ◌≤◌, List, length, get_or, refl, ap, sym, arith, ◌∙◌}
use Rattle.mw_model.specs.Pictures.{sample}
use Rattle.mw_model.specs.Flat.{complement}
use Rattle.mw_model.specs.Rasters.{Raster, raster}
use Rattle.mw_model.proofs.ImagePlaces.{sample-redrawn, same_picture, length-rows}
use Rattle.mw_pixel.specs.Images.{set_of}
use Rattle.mw_pixel.specs.mw_pixel_words.Packed.{bit_of, stride_of, samples_of}
use Rattle.mw_pixel.proofs.mw_pixel_words.Bits.{rows_fit, sample_is_bit, length-samples_of}

in_words : (w h x y n : ℕ) → n ≡ h * stride_of w → x < w → y < h → y * (64 * stride_of w) + x < 64 * n
in_words w h x y n size p q =
    let s = stride_of w in
    let fits = rows_fit y h s q in
    let across : x < 64 * s = omega arith in
    let rows : y * (64 * s) ≡ 64 * (y * s) = omega arith in
    omega arith

pub row_there : (w h y n wide : ℕ) → n ≡ h * stride_of w → wide ≡ stride_of w → y < h → y * wide + stride_of w ≤ n
row_there w h y n wide size is lt = let same = ap (λ (t : ℕ). y * t) is in omega (arith, rows_fit y h (stride_of w) lt)

pub turned_set : (set now r : Raster ℕ) (words turned made : List ℕ) (w h wide : ℕ) → now ≡ set → w ≡ set.width → h ≡ set.height → now.cells ≡ samples_of now.width now.height words → length words ≡ now.height * stride_of now.width
    → ((q : ℕ) → q < 64 * length words → bit_of turned q ≡ 1 - bit_of words q) → wide ≡ stride_of w → ((x y : ℕ) → x < w → y < h → bit_of made (y * (64 * stride_of w) + x) ≡ bit_of turned (y * (64 * wide) + x)) → r ≡ raster w h (samples_of w h made)
    → set_of r ≡ complement (set_of set)
turned_set set now r words turned made w h wide same across down cells size flips wide_is bits is =
    let f = set_of set in
    let now_width : now.width ≡ w = ap (λ (t : Raster ℕ). t.width) same ∙ sym across in
    let now_height : now.height ≡ h = ap (λ (t : Raster ℕ). t.height) same ∙ sym down in
    let cells' : set.cells ≡ samples_of w h words = ap (λ (t : Raster ℕ). t.cells) (sym same) ∙ cells ∙ ap (λ (t : ℕ). samples_of t now.height words) now_width ∙ ap (λ (t : ℕ). samples_of w t words) now_height in
    let size' : length words ≡ h * stride_of w = size ∙ ap (λ (t : ℕ). now.height * stride_of t) now_width ∙ ap (λ (t : ℕ). t * stride_of w) now_height in
    ap set_of is
    ∙ same_picture (set_of (raster w h (samples_of w h made))) (complement f) (record { kind = refl; width = across; height = down; maxval = refl }) (length-samples_of w h made) (length-rows (λ x y. f.maxval - sample f x y) set.width 0 set.height)
    (λ x y p q.
    sample_is_bit w h made x y p q
    ∙ bits x y p q
    ∙ ap (λ (t : ℕ). bit_of turned (y * (64 * t) + x)) wide_is
    ∙ flips (y * (64 * stride_of w) + x) (in_words w h x y (length words) size' p q)
    ∙ ap (λ (t : ℕ). 1 - t) (sym (sample_is_bit w h words x y p q) ∙ ap (λ (t : List ℕ). get_or t (y * w + x) 0) (sym cells') ∙ ap (λ (t : ℕ). get_or set.cells (y * t + x) 0) across)
    ∙ sym (sample-redrawn f (λ x y. f.maxval - sample f x y) x y (omega arith) (omega arith)))
