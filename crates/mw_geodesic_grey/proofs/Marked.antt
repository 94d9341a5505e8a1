-- Places where one image is over another, marked row by row.
use Rattle.std.proofs.Common.{◌≡◌, ℕ, ◌+◌, ◌-◌, ◌*◌, ◌<◌, ◌≤◌, ◌≢◌, List, ◌++◌, length, take, drop, get_or, set, map, slice_range, cond, ltb, refl, ap, sym, arith, ◌∙◌, inl, inr}
use Rattle.std.specs.Prelude.{nat_le, if◌then◌else◌}
use Rattle.std.proofs.lemmas.Bool.{cases_lt, lt-ltb, le-ltb, le-leb, lt-leb}
use Rattle.std.proofs.lemmas.List.{take-map, drop-map, get_or-take, get_or-drop, get_or_past, get_or-set_same, get_or-set_other}
use Rattle.mw_model.specs.declared.shapes.Kind.TheVariants.{Bit}
use Rattle.mw_model.specs.Pictures.{sample}
use Rattle.mw_model.specs.Flat.{minus, threshold}
use Rattle.mw_model.specs.Rasters.{Raster, raster}
use Rattle.mw_model.proofs.ImagePlaces.{sample-redrawn, sample-drawn, same_picture, length-rows}
use Rattle.mw_model.proofs.mw_facts.Elements.{take-written}
use Rattle.mw_pixel.specs.Images.{set_of}
use Rattle.mw_pixel.specs.mw_pixel_words.Packed.{bit_of, stride_of, samples_of, IsPacked}
use Rattle.mw_pixel.proofs.mw_pixel_words.Bits.{sample_is_bit, length-samples_of}
use Rattle.mw_pixel.proofs.mw_pixel_words.Done.{BitRowsDone}
use Rattle.mw_geodesic_grey.specs.Places.{over_mark, mark_over}
use Rattle.mw_geodesic_grey.proofs.Passed.{level_read}
use Rattle.mw_geodesic_levels.specs.Levels.{level_numbered}
use Rattle.mw_geodesic_levels.specs.Pictures.{picture_by}

-- ---- one row

-- the mark of two samples that were read
pub mark_is : {A : Type 0} (level : A → ℕ) (upper lower : List A) (i u l mark : ℕ) (a b : A) → i < length upper → i < length lower → a ≡ get_or upper i a → b ≡ get_or lower i b → u ≡ level a → l ≡ level b → mark ≡ over_mark u l
    → mark ≡ over_mark (level_numbered level upper i) (level_numbered level lower i)
mark_is level upper lower i u l mark a b lt lt' read read' up low is =
    is ∙ ap (λ (t : ℕ). over_mark t l) (up ∙ level_read level upper i a lt read) ∙ ap (over_mark (level_numbered level upper i)) (low ∙ level_read level lower i b lt' read')

pub mark_more : (value : ℕ → ℕ) (i : ℕ) (line : List ℕ) (b : ℕ) → i < length line → b ≡ value i → ((k : ℕ) → k < i → get_or line k 0 ≡ value k) → (k : ℕ) → k < i + 1 → get_or (set line i b) k 0 ≡ value k
mark_more value i line b lt is before k less = elim (cases_lt k i) [
  | inl earlier ↦
      let other : k ≢ i = omega arith in
      get_or-set_other line i k b 0 other ∙ before k earlier
  | inr from ↦
      let here : k ≡ i = omega arith in
      rw here (get_or-set_same line i b 0 lt ∙ is)
]

-- the level of a sample of a row
level_in_row : {A : Type 0} (level : A → ℕ) (cells : List A) (a w x : ℕ) → x < w → level_numbered level (slice_range cells a (a + w)) x ≡ level_numbered level cells (a + x)
level_in_row level cells a w x lt =
    ap (λ (l : List ℕ). get_or l x 0) (sym (ap (take (a + w - a)) (drop-map level a cells) ∙ take-map level (a + w - a) (drop a cells)))
    ∙ get_or-take (a + w - a) (drop a (map level cells)) x 0 (omega arith)
    ∙ get_or-drop a (map level cells) x 0

-- ---- all rows

-- what the bits of a row are to be: the marks, and 0 behind the last column
abbrev pub row_mark : {A : Type 0} → (A → ℕ) → Raster A → Raster A → ℕ → ℕ → ℕ → ℕ
row_mark level f g old x y = cond (ltb x f.width) (mark_over level f g x y) 0

pub row_marked : {A : Type 0} (level : A → ℕ) (f g : Raster A) (upper lower : List A) (line : List ℕ) (y x bit : ℕ) → bit ≡ get_or line x 0 → g.width ≡ f.width → length line ≡ f.width → upper ≡ slice_range f.cells (y * f.width) (y * f.width + f.width)
    → lower ≡ slice_range g.cells (y * g.width) (y * g.width + g.width) → ((k : ℕ) → k < length line → get_or line k 0 ≡ over_mark (level_numbered level upper k) (level_numbered level lower k))
    → bit ≡ row_mark level f g 0 x y
row_marked level f g upper lower line y x bit packed same size upper_is lower_is marks = elim (cases_lt x f.width) [
  | inl inside ↦
      let up : level_numbered level upper x ≡ level_numbered level f.cells (y * f.width + x) = ap (λ (l : List _). level_numbered level l x) upper_is ∙ level_in_row level f.cells (y * f.width) f.width x inside in
      let low : level_numbered level lower x ≡ level_numbered level g.cells (y * f.width + x) =
      ap (λ (l : List _). level_numbered level l x) lower_is ∙ level_in_row level g.cells (y * g.width) g.width x (omega arith) ∙ ap (λ (t : ℕ). level_numbered level g.cells (y * t + x)) same in
      let is : row_mark level f g 0 x y ≡ mark_over level f g x y = rw (lt-ltb x f.width inside) refl in
      packed
      ∙ marks x (omega arith)
      ∙ ap (λ (t : ℕ). over_mark t (level_numbered level lower x)) up
      ∙ ap (over_mark (level_numbered level f.cells (y * f.width + x))) low
      ∙ sym is
  | inr past ↦
      let is : row_mark level f g 0 x y ≡ 0 = rw (le-ltb x f.width past) refl in
      packed ∙ get_or_past line x 0 (omega arith) ∙ sym is
]

pub rows_packed : {A : Type 0} (level : A → ℕ) (f g : Raster A) (y : ℕ) (old out : List ℕ) → length out ≡ f.height * stride_of f.width → f.height ≤ y → BitRowsDone (row_mark level f g) (stride_of f.width) f.height y old out → IsPacked f.width f.height out
rows_packed level f g y old out size whole rows = record {
  size = size;
  clean = λ x v row_less past less.
      let is : row_mark level f g (bit_of old (v * (64 * stride_of f.width) + x)) x v ≡ 0 = rw (le-ltb x f.width past) refl in
      rows.done x v less (omega arith) ∙ is;
}

pub place_marked : {A : Type 0} (level : A → ℕ) (f g : Raster A) (y : ℕ) (old out : List ℕ) → f.height ≤ y → BitRowsDone (row_mark level f g) (stride_of f.width) f.height y old out
    → (x v : ℕ) → x < f.width → v < f.height → bit_of out (v * (64 * stride_of f.width) + x) ≡ mark_over level f g x v
place_marked level f g y old out whole rows x v p q =
    let is : row_mark level f g (bit_of old (v * (64 * stride_of f.width) + x)) x v ≡ mark_over level f g x v = rw (lt-ltb x f.width p) refl in
    rows.done x v (omega arith) (omega arith) ∙ is

-- ---- the set

over_is : (a b : ℕ) → over_mark a b ≡ (if nat_le 1 (a - b) then 1 else 0)
over_is a b = elim (cases_lt b a) [
  | inl lt ↦
      let left : over_mark a b ≡ 1 = rw (lt-ltb b a lt) refl in
      let right : (if nat_le 1 (a - b) then 1 else 0) ≡ 1 = rw (le-leb 1 (a - b) (omega arith)) refl in
      left ∙ sym right
  | inr le ↦
      let left : over_mark a b ≡ 0 = rw (le-ltb b a le) refl in
      let right : (if nat_le 1 (a - b) then 1 else 0) ≡ 0 = rw (lt-leb 1 (a - b) (omega arith)) refl in
      left ∙ sym right
]

pub set_by : {A : Type 0} (level : A → ℕ) (maxval w h len : ℕ) (f g : Raster A) (r set : Raster ℕ) (items words : List ℕ) → w ≡ f.width → h ≡ f.height → g.width ≡ f.width → r ≡ set → set ≡ raster w h (samples_of w h (take len (words ++ drop (length words) items))) → length words ≡ len
    → ((x y : ℕ) → x < f.width → y < f.height → bit_of words (y * (64 * stride_of f.width) + x) ≡ mark_over level f g x y) → set_of r ≡ threshold 1 (minus (picture_by level maxval f) (picture_by level maxval g))
set_by level maxval w h len f g r set items words wide high same held set_is whole marks =
    let upper = picture_by level maxval f in
    let lower = picture_by level maxval g in
    let over = minus upper lower in
    let is : r ≡ raster w h (samples_of w h words) = held ∙ set_is ∙ ap (λ (t : List ℕ). raster w h (samples_of w h t)) (take-written items words len whole) in
    ap set_of is
    ∙ same_picture (set_of (raster w h (samples_of w h words))) (threshold 1 over) (record { kind = refl; width = wide; height = high; maxval = refl }) (length-samples_of w h words)
    (length-rows (λ x y. if nat_le 1 (sample over x y) then 1 else 0) f.width 0 f.height)
    (λ x y p q.
    let p' : x < f.width = omega arith in
    let q' : y < f.height = omega arith in
    let at : sample over x y ≡ sample upper x y - level_numbered level g.cells (y * f.width + x) =
    sample-redrawn upper (λ x y. sample upper x y - sample lower x y) x y p' q' ∙ ap (λ (t : ℕ). sample upper x y - level_numbered level g.cells (y * t + x)) same in
    sample_is_bit w h words x y p q
    ∙ ap (λ (t : ℕ). bit_of words (y * (64 * stride_of t) + x)) wide
    ∙ marks x y p' q'
    ∙ over_is (level_numbered level f.cells (y * f.width + x)) (level_numbered level g.cells (y * f.width + x))
    ∙ ap (λ (t : ℕ). if nat_le 1 t then 1 else 0) (sym at)
    ∙ sym (sample-drawn Bit f.width f.height 1 (λ x y. if nat_le 1 (sample over x y) then 1 else 0) x y p' q'))
