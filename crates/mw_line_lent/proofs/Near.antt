-- Boxes at the places of a tile: those of a tile that stands in what is lent are made, and what they make is the extremum.
use Rattle.std.proofs.Common.{◌≡◌, ℕ, ◌+◌, ◌-◌, ◌*◌, ◌<◌, ◌≤◌, ℤ, pos, negsuc, ◌+ℤ◌, ◌-ℤ◌, ◌<ℤ◌, ◌≤ℤ◌, List, length, get_or, refl, ap, sym, arith, ◌∙◌, inl, inr}
use Rattle.std.proofs.lemmas.Bool.{cases_lt}
use Rattle.std.proofs.lemmas.Int.{ints}
use Rattle.mw_model.specs.declared.offsets.OffsetBox.{OffsetBox}
use Rattle.mw_model.specs.declared.offsets.Rect.{Rect}
use Rattle.mw_model.specs.Rasters.{raster}
use Rattle.mw_model.specs.Rectangles.{box_offsets, span}
use Rattle.mw_model.specs.Windows.{View, seen_at}
use Rattle.mw_model.proofs.Nonnegative.{nonnegative_is}
use Rattle.mw_line.specs.Extrema.{IsSlidingExtremum}
use Rattle.mw_line.specs.Sides.{IsSeenSide}
use Rattle.mw_line.proofs.Folds.{IsExtremum}
use Rattle.mw_line.proofs.Tiles.{IsLooked-sides, tile_cell, tile_made}
use Rattle.mw_line_lent.specs.declared.boxes.Boxes.{Boxes}
use Rattle.mw_line_lent.specs.declared.boxes.Part.{Part}
use Rattle.mw_line_lent.specs.Boxes.{AreBoxesOf, HasBoxes, IsSuited, wide_of}
use Rattle.mw_line_lent.specs.Near.{IsAround, StandsInside}
use Rattle.mw_line_lent.specs.Parts.{IsOverlap}

-- how many steps lead back from a number that is not over 0
record Back (a : ℤ) : Type 0 where
  steps : ℕ
  is : a +ℤ pos steps ≡ pos 0

back : (a : ℤ) → a ≤ℤ pos 0 → Back a
back (pos n) le = record { steps = 0; is = omega (arith, ints, le) }
back (negsuc n) le = record { steps = n + 1; is = omega (arith, ints) }

-- a tile that stands in the place sees it from where the box is put on
own_seen : (tile side first len : ℕ) (a b : ℤ) (skipped count p : ℕ) → IsSeenSide tile side first len a b skipped count → a +ℤ pos p ≡ pos 0 → pos 0 ≤ℤ b → 0 < side → first ≤ tile → tile + side ≤ first + len
    → (skipped ≤ p) × (p < skipped + count)
own_seen tile side first len a b skipped count p seen here over some from to =
    let size = nonnegative_is (b -ℤ a +ℤ pos 1) in
    let within : p < span a b = omega (arith, ints, size, here, over) in (
      elim (cases_lt p skipped) [
        | inl early ↦
            let far = seen.before 0 p some early in
            absurd (omega (arith, ints, far, here, from))
        | inr le ↦ le
      ],
      elim (cases_lt p (skipped + count)) [
        | inl lt ↦ lt
        | inr late ↦
            let far = seen.behind 0 p some late within in
            absurd (omega (arith, ints, far, here, to, some))
      ],
    )

-- the part of lines has all columns of the tile
part_wide : (first : ℤ) (long size side at q : ℕ) (part : Part) → IsOverlap first long size part → first +ℤ pos q ≡ pos at → 0 < side → at + side ≤ size → q + side ≤ long → side ≤ part.count
part_wide first long size side at q part over here some fits within =
    let low : part.behind ≤ q = elim (cases_lt q part.behind) [
      | inl early ↦
          let far = over.before q early in
          absurd (omega (arith, ints, far, here))
      | inr le ↦ le
    ] in
    let high : q + (side - 1) < part.behind + part.count = elim (cases_lt (q + (side - 1)) (part.behind + part.count)) [
      | inl lt ↦ lt
      | inr late ↦
          let far = over.after (q + (side - 1)) late (omega (arith, within, some)) in
          absurd (omega (arith, ints, far, here, fits, some))
    ] in
    omega (arith, low, high, some)

pub near_suited : (width : ℕ) (place tile : Rect) (box : OffsetBox) (b : Boxes) → width ≤ 32 → IsAround box → StandsInside place tile → AreBoxesOf place box tile b → IsSuited width b
near_suited width place tile box b narrow around stands of =
    let x = back box.x0 around.left in
    let y = back box.y0 around.above in
    let seen = own_seen tile.x tile.width place.x place.width box.x0 box.x1 of.ahead b.across x.steps of.across x.is around.right (omega (arith, stands.wide)) stands.left stands.right in
    let shown = own_seen tile.y tile.height place.y place.height box.y0 box.y1 of.above b.down y.steps of.down y.is around.below stands.some stands.top stands.bottom in
    let columns = nonnegative_is (box.x1 -ℤ box.x0 +ℤ pos 1) in
    let rows = nonnegative_is (box.y1 -ℤ box.y0 +ℤ pos 1) in
    let across : 0 < b.across = omega (arith, seen.0, seen.1) in
    let down : 0 < b.down = omega (arith, shown.0, shown.1) in
    let q : ℕ = x.steps - of.ahead in
    let at : ℕ = tile.x - place.x in
    let here : b.column +ℤ pos q ≡ pos at = omega (arith, ints, of.column, x.is, seen.0, stands.left) in
    let wide : tile.width ≤ b.part.count = part_wide b.column (wide_of b) place.width tile.width at q b.part of.part here (omega (arith, stands.wide)) (omega (arith, stands.left, stands.right)) (omega (arith, seen.0, seen.1, of.width)) in
    record {
      across = across;
      narrow = omega (arith, ints, of.across.within across, columns, around.narrow, around.left, around.right);
      down = down;
      low = omega (arith, ints, of.down.within down, rows, around.low, around.above, around.below);
      wide = omega (arith, of.width, stands.wide, narrow);
      part = omega (arith, wide, stands.wide, narrow);
    }

pub boxes_made : {A : Type 0} (f : A → A → A) → IsExtremum f → (n : A) (w : View A) (place : Rect) (box : OffsetBox) (tile : Rect) (b : Boxes) (out : List A) → place ≡ w.place → 0 < b.across → 0 < b.down
    → AreBoxesOf place box tile b → length out ≡ tile.height * tile.width → HasBoxes f n w b b.height out → IsSlidingExtremum f n (seen_at w) (box_offsets box) tile (raster tile.width tile.height out)
boxes_made f laws n w place box tile b out is across down of size made =
    let known = IsLooked-sides w box tile place box.x0 box.x1 box.y0 box.y1 of.ahead b.across of.above b.down is refl refl refl refl of.across of.down in
    tile_made f n n (seen_at w) (box_offsets box) tile out (raster tile.width tile.height out) refl size
    (λ x y less row_less.
    ap (λ (t : ℕ). get_or out (y * t + x) n) (sym of.width)
    ∙ made x y (omega (arith, less, of.width)) (omega (arith, row_less, of.height))
    ∙ tile_cell f laws n w box tile place box.x0 box.x1 box.y0 box.y1 of.ahead b.across of.above b.down known across down b.column b.row of.column of.row x y less row_less)

-- a short side of a box is seen in no more places
pub side_short : (tile side first len : ℕ) (a b : ℤ) (skipped count n : ℕ) → IsSeenSide tile side first len a b skipped count → a ≤ℤ pos 0 → pos 0 ≤ℤ b → (b -ℤ a) <ℤ pos n → n < count → ⊥
side_short tile side first len a b skipped count n seen left right short more =
    let size = nonnegative_is (b -ℤ a +ℤ pos 1) in
    let within = seen.within (omega (arith, more)) in
    omega (arith, ints, within, size, left, right, short, more)
