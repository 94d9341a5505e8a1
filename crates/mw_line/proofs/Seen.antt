-- What a tile sees of a window through a box.
use Rattle.std.proofs.Common.{◌≡◌, ◌⊎◌, ℕ, ◌+◌, ◌-◌, ◌*◌, ◌<◌, ◌≤◌, ℤ, pos, negsuc, ◌+ℤ◌, ◌-ℤ◌, ◌≤ℤ◌, ◌<ℤ◌, List, None, slice_range, drop, min, refl, ap, arith, ◌∙◌, inl, inr, length-take}
use Rattle.std.proofs.lemmas.Bool.{cases_lt, lt-ltb, le-ltb}
use Rattle.std.proofs.lemmas.Int.{ints}
use Rattle.std.proofs.lemmas.Option.{slice_get_past}
use Rattle.mw_model.specs.Rasters.{raster, cell_at}
use Rattle.mw_model.specs.Rectangles.{nonnegative, span}
use Rattle.mw_lane.specs.Shifted.{at_place}
use Rattle.mw_model.proofs.mw_facts.Elements.{slice_get-drop, slice_get-take}
use Rattle.mw_model.proofs.Nonnegative.{nonnegative_is}
use Rattle.mw_line.specs.Sides.{IsSeenSide}

pub few_before : (first tile side : ℕ) (a : ℤ) (skipped : ℕ) → skipped ≡ nonnegative (pos first -ℤ pos tile -ℤ pos side -ℤ a +ℤ pos 1) → first < 4294967296 → pos 0 ≤ℤ (a +ℤ pos 2147483648) → skipped ≤ 17179869184
few_before first tile side a skipped skipped-is small low = omega (arith, ints, nonnegative_is (pos first -ℤ pos tile -ℤ pos side -ℤ a +ℤ pos 1), skipped-is)

pub side_seen : (tile side first len : ℕ) (a b : ℤ) (skipped to_end size count : ℕ)
    → skipped ≡ nonnegative (pos first -ℤ pos tile -ℤ pos side -ℤ a +ℤ pos 1) → to_end ≡ nonnegative (pos (first + len) -ℤ pos tile -ℤ a) → size ≡ span a b → count ≡ min to_end size - skipped
    → skipped ≤ 17179869184 → IsSeenSide tile side first len a b skipped count
side_seen tile side first len a b skipped to_end size count skipped-is to_end-is size-is count-is few =
    let s-is = nonnegative_is (pos first -ℤ pos tile -ℤ pos side -ℤ a +ℤ pos 1) in
    let e-is = nonnegative_is (pos (first + len) -ℤ pos tile -ℤ a) in
    let w-is = nonnegative_is (b -ℤ a +ℤ pos 1) in
    record {
      before = λ i p less lt. omega (arith, ints, s-is, skipped-is);
      behind = λ i p less le lt. omega (arith, ints, s-is, e-is, w-is, skipped-is, to_end-is, size-is, count-is);
      within = λ some. omega (arith, size-is, count-is);
      few = few;
      small = omega (arith, ints, s-is, e-is, skipped-is, to_end-is, count-is);
    }

-- a place of a row that the raster has
pub row_seen : {A : Type 0} (w h : ℕ) (cells : List A) (j : ℕ) (z : ℤ) → j < h → at_place (slice_range cells (j * w) (j * w + w)) z ≡ cell_at (raster w h cells) z (pos j)
row_seen w h cells j (negsuc n) lt = refl
row_seen w h cells j (pos i) lt =
    elim (cases_lt i w) [
      | inl inside ↦
          rw (lt-ltb i w inside, lt-ltb j h lt) (slice_get-take (j * w + w - j * w) (drop (j * w) cells) i (omega arith) ∙ slice_get-drop (j * w) cells i)
      | inr past ↦
          rw (le-ltb i w past) (slice_get_past (slice_range cells (j * w) (j * w + w)) i (omega (arith, length-take (j * w + w - j * w) (drop (j * w) cells))))
    ]

-- a row that the raster does not have
pub no_row_seen : {A : Type 0} (w h : ℕ) (cells : List A) (z y : ℤ) → (y <ℤ pos 0) ⊎ (pos h ≤ℤ y) → cell_at (raster w h cells) z y ≡ None
no_row_seen w h cells (negsuc n) y out = refl
no_row_seen w h cells (pos i) (negsuc j) out = refl
no_row_seen w h cells (pos i) (pos j) (inl above) = absurd (omega (arith, ints))
no_row_seen w h cells (pos i) (pos j) (inr below) =
    let le : h ≤ j = omega (arith, ints) in
    elim (cases_lt i w) [
      | inl inside ↦ rw (lt-ltb i w inside, le-ltb j h le) refl
      | inr past ↦ rw (le-ltb i w past) refl
    ]

-- a column that the raster does not have
pub no_column_seen : {A : Type 0} (w h : ℕ) (cells : List A) (z y : ℤ) → (z <ℤ pos 0) ⊎ (pos w ≤ℤ z) → cell_at (raster w h cells) z y ≡ None
no_column_seen w h cells (negsuc n) y out = refl
no_column_seen w h cells (pos i) (negsuc j) out = refl
no_column_seen w h cells (pos i) (pos j) (inl before) = absurd (omega (arith, ints))
no_column_seen w h cells (pos i) (pos j) (inr behind) = let le : w ≤ i = omega (arith, ints) in rw (le-ltb i w le) refl

pub row_of_window : {A : Type 0} (w h : ℕ) (cells row : List A) (j x : ℕ) (to_x column y : ℤ) → row ≡ slice_range cells (j * w) (j * w + w) → to_x ≡ column → pos j ≡ y → j < h
    → at_place row (to_x +ℤ pos x) ≡ cell_at (raster w h cells) (column +ℤ pos x) y
row_of_window w h cells row j x to_x column y row-is x-is y-is lt =
    ap (λ (t : List _). at_place t (to_x +ℤ pos x)) row-is
    ∙ ap (λ (t : ℤ). at_place (slice_range cells (j * w) (j * w + w)) (t +ℤ pos x)) x-is
    ∙ row_seen w h cells j (column +ℤ pos x) lt
    ∙ ap (cell_at (raster w h cells) (column +ℤ pos x)) y-is
