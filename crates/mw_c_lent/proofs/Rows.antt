-- Rows of images: the samples of a strip, how many there are, and levels of cells.
use Rattle.std.proofs.Common.{◌≡◌, ℕ, ◌+◌, ◌-◌, ◌*◌, ◌<◌, ◌≤◌, List, [], ◌∷◌, map, length, get_or, take, drop, ap, sym, arith, ◌∙◌, length-take, length-drop, get_or-take, get_or-drop}
use Rattle.std.specs.Prelude.{slice_range}
use Rattle.std.proofs.lemmas.List.{drop-map, get_or-map, take-map}
use Rattle.std.proofs.lemmas.Nat.{mul-le, mul-add-lt}
use Rattle.std.proofs.Math.Nat.{mul_comm}
use Rattle.mw_model.specs.declared.offsets.Reach.{Reach}
use Rattle.mw_model.specs.declared.offsets.Rect.{Rect}
use Rattle.mw_model.specs.Pictures.{Picture, sample}
use Rattle.mw_model.specs.Rectangles.{grown}
use Rattle.mw_model.specs.Tasks.{cells_in}
use Rattle.mw_tile_pieces.proofs.TileCells.{cells_in_is}
use Rattle.mw_c_lent.specs.Rows.{EndAt, IsStrip, rows_from}

pub get_or-range : {A : Type 0} (xs : List A) (a n i : ℕ) (d : A) → i < n → get_or (slice_range xs a (a + n)) i d ≡ get_or xs (a + i) d
get_or-range xs a n i d lt = get_or-take (a + n - a) (drop a xs) i d (omega arith) ∙ get_or-drop a xs i d

pub length-range : {A : Type 0} (xs : List A) (a n : ℕ) → a + n ≤ length xs → length (slice_range xs a (a + n)) ≡ n
length-range xs a n le = omega (arith, length-take (a + n - a) (drop a xs), length-drop a xs)

-- the rows of a strip end within the image
pub strip_within : (r : Rect) (f : Picture) → IsStrip r f → r.y * r.width + r.height * r.width ≤ f.height * f.width
strip_within r f strip =
    let all : (r.y + r.height) * r.width ≤ f.height * f.width = mul-le (r.y + r.height) r.width f.height f.width strip.low (omega (arith, strip.wide)) in
    omega (arith, all, split r.y r.height r.width)
  where
    split : (a b n : ℕ) → (a + b) * n ≡ a * n + b * n
    split a b n = omega arith

-- the samples of a strip
pub rows_are : (f : Picture) (r : Rect) → IsStrip r f → length f.samples ≡ f.height * f.width → slice_range f.samples (r.y * r.width) (r.y * r.width + r.height * r.width) ≡ cells_in r (sample f)
rows_are f r strip size =
    sym (cells_in_is r (sample f) part (length-range f.samples (r.y * r.width) (r.height * r.width) (omega (arith, strip_within r f strip, size))) each)
  where
    part : List ℕ
    part = slice_range f.samples (r.y * r.width) (r.y * r.width + r.height * r.width)

    each : (i j : ℕ) → i < r.width → j < r.height → get_or part (j * r.width + i) 0 ≡ sample f (r.x + i) (r.y + j)
    each i j across down =
        get_or-range f.samples (r.y * r.width) (r.height * r.width) (j * r.width + i) 0 (omega (arith, mul-add-lt j r.width i r.height down across, mul_comm r.width r.height))
        ∙ ap (λ (t : ℕ). get_or f.samples t 0) (place r.y j r.width i r.x f.width strip.left strip.wide)
      where
        place : (y j w i x m : ℕ) → x ≡ 0 → w ≡ m → y * w + (j * w + i) ≡ (y + j) * m + (x + i)
        place y j w i x m left wide = rw (left, sym wide) (omega arith)

-- of cells that are all of an image's
pub rows_of_cells : {A : Type 0} (level : A → ℕ) (f : Picture) (r : Rect) (cells : List A) → IsStrip r f → length f.samples ≡ f.height * f.width → map level cells ≡ f.samples
    → map level (slice_range cells (r.y * r.width) (r.y * r.width + r.height * r.width)) ≡ cells_in r (sample f)
rows_of_cells {A} level f r cells strip size is =
    range_map level (r.y * r.width) (r.y * r.width + r.height * r.width) cells
    ∙ ap (λ (t : List ℕ). slice_range t (r.y * r.width) (r.y * r.width + r.height * r.width)) is
    ∙ rows_are f r strip size
  where
    range_map : {B : Type 0} (h : B → ℕ) (a b : ℕ) (xs : List B) → map h (slice_range xs a b) ≡ slice_range (map h xs) a b
    range_map h a b xs = sym (take-map h (b - a) (drop a xs)) ∙ ap (λ (t : List ℕ). take (b - a) t) (sym (drop-map h a xs))

-- what is read for a strip is a strip
pub read_strip : (m n : ℕ) (r : Rect) (reach : Reach) (f : Picture) → m ≡ f.width → n ≡ f.height → IsStrip r f → IsStrip (grown m n reach r) f
read_strip m n r reach f wide high strip =
    let left = strip.left in
    let over = strip.wide in
    let some = strip.some in
    let low = strip.low in
    record { left = omega arith; wide = omega arith; some = omega arith; low = omega arith }

pub some_of : {A : Type 0} (xs : List A) (i : ℕ) → i < length xs → A
some_of [] i lt = absurd (omega arith)
some_of (x ∷ xs) i lt = x

pub level_there : {A : Type 0} (level : A → ℕ) (xs : List A) (i m : ℕ) → i < length xs → ((d : A) → level (get_or xs i d) ≡ m) → get_or (map level xs) i 0 ≡ m
level_there level xs i m within is = let d = some_of xs i within in get_or-map level xs i d 0 within ∙ is d

-- the cells of a strip are the image's from its first row on
pub strip_rows : (f : Picture) (r : Rect) (n : ℕ) → IsStrip r f → length f.samples ≡ f.height * f.width → n ≡ r.height * r.width → cells_in r (sample f) ≡ rows_from r.y n f
strip_rows f r n strip size is =
    let count : r.y * r.width + r.height * r.width - r.y * r.width ≡ n = omega (arith, is) in
    sym (rows_are f r strip size)
    ∙ ap (λ (m : ℕ). take m (drop (r.y * r.width) f.samples)) count
    ∙ ap (λ (m : ℕ). take n (drop (r.y * m) f.samples)) strip.wide

-- so many samples stand between two rows
pub samples_between : (a b w m : ℕ) → a ≤ b → w ≡ m → b * m ≡ a * m + (b - a) * w
samples_between a b w m le wide =
    let back : a + (b - a) ≡ b = omega (arith, le) in
    ap (λ (t : ℕ). t * m) (sym back) ∙ split a (b - a) m ∙ ap (λ (t : ℕ). a * m + (b - a) * t) (sym wide)
  where
    split : (a b w : ℕ) → (a + b) * w ≡ a * w + b * w
    split a b w = omega arith

-- how many samples some rows have
pub between_count : (from to w m n : ℕ) → from < to → w ≡ m → to * m ≡ from * m + n → n ≡ (to - from) * w
between_count from to w m n some wide is = omega (arith, is, samples_between from to w m (omega (arith, some)) wide)

-- there are so many samples
pub length-rows_from : (first end count : ℕ) (f : Picture) → length f.samples ≡ f.height * f.width → EndAt first end count f → length (rows_from first count f) ≡ count
length-rows_from first end count f size ends =
    let all : end * f.width ≤ f.height * f.width = mul-le end f.width f.height f.width ends.within (omega arith) in
    omega (arith, length-take count (drop (first * f.width) f.samples), length-drop (first * f.width) f.samples, all, ends.samples, size)

-- the rows of a strip are so many samples
pub rows_end : (r : Rect) (f : Picture) (n : ℕ) → IsStrip r f → n ≡ r.height * r.width → EndAt r.y (r.y + r.height) n f
rows_end r f n strip is = record {
  some = omega (arith, strip.some);
  within = strip.low;
  samples = split r.y r.height f.width ∙ ap (λ (t : ℕ). r.y * f.width + r.height * t) (sym strip.wide) ∙ ap (λ (t : ℕ). r.y * f.width + t) (sym is);
}
  where
    split : (a b w : ℕ) → (a + b) * w ≡ a * w + b * w
    split a b w = omega arith
