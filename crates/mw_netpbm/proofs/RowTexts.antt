-- The raster of an image is the bytes of its rows, one after another.
use Rattle.std.proofs.Common.{◌≡◌, ℕ, zero, suc, ◌+◌, ◌*◌, ◌/◌, ◌<◌, ◌≤◌, List, [], ◌∷◌, ◌++◌, length, take, drop, refl, sym, ap, ◌∙◌, arith, length-append, length-drop}
use Rattle.std.specs.List.{flat_map}
use Rattle.std.proofs.lemmas.Bool.{le-ltb, lt-ltb}
use Rattle.std.proofs.lemmas.Grind.{flat_map-append}
use Rattle.std.proofs.lemmas.List.{length-take-le, nil_from_length, take-append-drop}
use Rattle.std.proofs.lemmas.List.Concat.{flat_map-cons}
use Rattle.mw_model.specs.NetpbmWriting.{packed, packed_rows, text_of, two_bytes}
use Rattle.mw_model.specs.Pictures.{Picture}
use Rattle.mw_netpbm_plain.specs.mw_pixel.Images.{grey_of, raster_of, set_of}
use Rattle.mw_netpbm.specs.Rows.{byte_row, header_as, rows_bytes, set_row, word_row}

-- the bytes of levels of two bytes
pub words_length : (row : List ℕ) → length (flat_map two_bytes row) ≡ 2 * length row
words_length [] = refl
words_length (s ∷ ss) = ap length (flat_map-cons two_bytes s ss) ∙ omega (arith, words_length ss)

-- as many bytes as the rows have together
pub rows_length : {A : Type 0} (bytes : ℕ → List A → List ℕ) (width n : ℕ) → ((row : List A) → length row ≡ width → length (bytes width row) ≡ n) → (height : ℕ) (cells : List A) → length cells ≡ height * width
    → length (rows_bytes bytes width height cells) ≡ height * n
unfolding rows_bytes
rows_length bytes width n each zero cells len = omega arith
rows_length bytes width n each (suc height) cells len =
    let le : width ≤ length cells = omega (arith, len) in
    let rest : length (drop width cells) ≡ height * width = omega (arith, length-drop width cells, len) in
    rw (length-append (bytes width (take width cells)) (rows_bytes bytes width height (drop width cells)), each (take width cells) (length-take-le width cells le), rows_length bytes width n each height (drop width cells) rest) (omega arith)

-- the rows of a set
set_rows : (width height : ℕ) (cells : List ℕ) → rows_bytes set_row width height cells ≡ packed_rows width height cells
unfolding rows_bytes packed_rows
set_rows width zero cells = refl
set_rows width (suc height) cells = ap (λ (l : List ℕ). packed ((width + 7) / 8) (take width cells) ++ l) (set_rows width height (drop width cells))

-- of levels of one byte
byte_rows : (width height : ℕ) (cells : List ℕ) → length cells ≡ height * width → rows_bytes byte_row width height cells ≡ cells
unfolding rows_bytes
byte_rows width zero cells len = sym (nil_from_length cells (omega (arith, len)))
byte_rows width (suc height) cells len =
    let rest : length (drop width cells) ≡ height * width = omega (arith, length-drop width cells, len) in
    ap (λ (l : List ℕ). take width cells ++ l) (byte_rows width height (drop width cells) rest) ∙ take-append-drop width cells

-- of levels of two bytes
word_rows : (width height : ℕ) (cells : List ℕ) → length cells ≡ height * width → rows_bytes word_row width height cells ≡ flat_map two_bytes cells
unfolding rows_bytes
word_rows width zero cells len = ap (flat_map two_bytes) (sym (nil_from_length cells (omega (arith, len))))
word_rows width (suc height) cells len =
    let rest : length (drop width cells) ≡ height * width = omega (arith, length-drop width cells, len) in
    ap (λ (l : List ℕ). flat_map two_bytes (take width cells) ++ l) (word_rows width height (drop width cells) rest)
    ∙ sym (flat_map-append two_bytes (take width cells) (drop width cells))
    ∙ ap (flat_map two_bytes) (take-append-drop width cells)

-- the text of a set: its header and its rows
pub set_text : (f : Picture) → f ≡ set_of (raster_of f) → header_as f.kind f.width f.height f.maxval ++ rows_bytes set_row f.width f.height f.samples ≡ text_of f
set_text f is =
    ap (λ (l : List ℕ). header_as f.kind f.width f.height f.maxval ++ l) (set_rows f.width f.height f.samples)
    ∙ ap (λ (g : Picture). header_as g.kind g.width g.height g.maxval ++ packed_rows g.width g.height g.samples) is
    ∙ ap text_of (sym is)

-- of levels of one byte
pub byte_text : (f : Picture) (m : ℕ) → f ≡ grey_of (raster_of f) m → m ≤ 255 → length f.samples ≡ f.height * f.width
    → header_as f.kind f.width f.height f.maxval ++ rows_bytes byte_row f.width f.height f.samples ≡ text_of f
byte_text f m is small size =
    let lt : m < 256 = omega arith in
    let one : text_of (grey_of (raster_of f) m) ≡ header_as (grey_of (raster_of f) m).kind f.width f.height m ++ f.samples = rw (lt-ltb m 256 lt) refl in
    ap (λ (l : List ℕ). header_as f.kind f.width f.height f.maxval ++ l) (byte_rows f.width f.height f.samples size)
    ∙ ap (λ (g : Picture). header_as g.kind g.width g.height g.maxval ++ g.samples) is
    ∙ sym one
    ∙ ap text_of (sym is)

-- of levels of two bytes
pub word_text : (f : Picture) (m : ℕ) → f ≡ grey_of (raster_of f) m → 256 ≤ m → length f.samples ≡ f.height * f.width
    → header_as f.kind f.width f.height f.maxval ++ rows_bytes word_row f.width f.height f.samples ≡ text_of f
word_text f m is high size =
    let one : text_of (grey_of (raster_of f) m) ≡ header_as (grey_of (raster_of f) m).kind f.width f.height m ++ flat_map two_bytes f.samples = rw (le-ltb m 256 high) refl in
    ap (λ (l : List ℕ). header_as f.kind f.width f.height f.maxval ++ l) (word_rows f.width f.height f.samples size)
    ∙ ap (λ (g : Picture). header_as g.kind g.width g.height g.maxval ++ flat_map two_bytes g.samples) is
    ∙ sym one
    ∙ ap text_of (sym is)
