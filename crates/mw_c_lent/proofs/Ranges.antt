-- Gradients: the greatest less the least, of levels and of whole images.
use Rattle.std.proofs.Common.{◌≡◌, ℕ, ℤ, true, ◌&&◌, ◌+◌, ◌-◌, ◌*◌, ◌<◌, ◌≤◌, List, map, length, fold, take, drop, min, max, refl, ap, sym, subst, arith, ◌∙◌}
use Rattle.std.specs.Ordering.{int_eq}
use Rattle.std.proofs.lemmas.Bool.Decides.{Decides-and, Decides-int_eq}
use Rattle.std.proofs.lemmas.List.{map-id, take_all}
use Rattle.mw_model.specs.declared.offsets.Offset.{Offset}
use Rattle.mw_model.specs.declared.offsets.OffsetBox.{OffsetBox}
use Rattle.mw_model.specs.declared.offsets.Rect.{Rect}
use Rattle.mw_model.specs.Flat.{dilation, erosion, greatest, least, minus, under}
use Rattle.mw_model.specs.Pictures.{Picture, sample}
use Rattle.mw_model.specs.Rasters.{Sight, raster, seen_under}
use Rattle.mw_model.specs.Rectangles.{box_offsets}
use Rattle.mw_model.specs.Tasks.{cells_in}
use Rattle.mw_model.specs.Windows.{View, seen_at}
use Rattle.mw_model.proofs.ImageLaws.{fold-max_from_none, fold-min}
use Rattle.mw_model.proofs.ImagePlaces.{length-rows, sample-redrawn}
use Rattle.mw_grid.specs.Rectangles.{whole_frame}
use Rattle.mw_line_lent.specs.Near.{StandsInside}
use Rattle.mw_line_lent.specs.Differences.{IsSlidingDifference}
use Rattle.mw_c_lent.specs.declared.slides.Slide.TheVariants as slide
use Rattle.mw_c_lent.specs.Boxes.{IsMadeUnder}
use Rattle.mw_c_lent.specs.InPlace.{IsWholeView}
use Rattle.mw_c_lent.specs.Rows.{IsStrip}
use Rattle.mw_c_lent.specs.Slides.{range_value}
use Rattle.mw_c_lent.proofs.Rows.{strip_rows}
use Rattle.mw_c_lent.proofs.Slid.{alike_strip, slide_there}
use Rattle.mw_c_lent.proofs.UnderBoxes.{made_whole}

-- a difference of samples that are their levels
pub range_of_levels : (top : ℕ) (sight : Sight ℕ) (element : List Offset) (tile : Rect) (cells : List ℕ)
    → IsSlidingDifference (λ (n : ℕ). n) (λ (a b : ℕ). max a b) 0 (λ (a b : ℕ). min a b) top sight element tile (raster tile.width tile.height cells) → IsMadeUnder (range_value top) (λ (n : ℕ). n) sight element tile cells
range_of_levels top sight element tile cells slides = record {
  size = slides.size;
  cells = λ x y d across down.
      let seen = seen_under sight element (tile.x + x) (tile.y + y) in
      slides.cells x y d across down
      ∙ ap (λ (t : ℕ). t - fold (λ (a b : ℕ). min a b) top seen) (fold-max_from_none seen)
      ∙ ap (λ (t : ℕ). greatest seen - t) (fold-min top seen)
      ∙ ap (range_value top) (sym (map-id seen));
}

range_there : (b : OffsetBox) (top : ℕ) (f : Picture) (x y : ℕ) → f.maxval ≡ top → x < f.width → y < f.height → range_value top (under f (box_offsets b) x y) ≡ sample (minus (dilation (box_offsets b) f) (erosion (box_offsets b) f)) x y
range_there b top f x y is across down =
    let upper = dilation (box_offsets b) f in
    let lower = erosion (box_offsets b) f in
    ap (λ (t : ℕ). t - least top (under f (box_offsets b) x y)) (slide_there (slide.Greatest b) top f x y is across down)
    ∙ ap (λ (t : ℕ). sample upper x y - t) (slide_there (slide.Least b) top f x y is across down)
    ∙ sym (sample-redrawn upper (λ u v. sample upper u v - sample lower u v) x y across down)

-- rectangles of the same sides are the same
abbrev box_at : ℤ → ℤ → ℤ → ℤ → OffsetBox
box_at a b c d = record { x0 = a; x1 = b; y0 = c; y1 = d }

pub box_same : (a b : OffsetBox) → (int_eq a.x0 b.x0 && (int_eq a.x1 b.x1 && (int_eq a.y0 b.y0 && int_eq a.y1 b.y1))) ≡ true → a ≡ b
box_same a b is =
    let down = Decides-and (int_eq a.y0 b.y0) (int_eq a.y1 b.y1) (Decides-int_eq a.y0 b.y0) (Decides-int_eq a.y1 b.y1) in
    let right = Decides-and (int_eq a.x1 b.x1) (int_eq a.y0 b.y0 && int_eq a.y1 b.y1) (Decides-int_eq a.x1 b.x1) down in
    let all = (Decides-and (int_eq a.x0 b.x0) (int_eq a.x1 b.x1 && (int_eq a.y0 b.y0 && int_eq a.y1 b.y1)) (Decides-int_eq a.x0 b.x0) right).0 is in
    ap (λ (t : ℤ). box_at t a.x1 a.y0 a.y1) all.0
    ∙ ap (λ (t : ℤ). box_at b.x0 t a.y0 a.y1) all.1.0
    ∙ ap (λ (t : ℤ). box_at b.x0 b.x1 t a.y1) all.1.1.0
    ∙ ap (λ (t : ℤ). box_at b.x0 b.x1 b.y0 t) all.1.1.1

-- all rows of an image are its samples
whole_strip : (g : Picture) (r : Rect) → IsStrip r g → r.y ≡ 0 → r.height ≡ g.height → length g.samples ≡ g.height * g.width → cells_in r (sample g) ≡ g.samples
whole_strip g r strip top high size =
    let start : 0 * g.width ≡ 0 = omega arith in
    let none : r.y * g.width ≡ 0 = ap (λ (t : ℕ). t * g.width) top ∙ start in
    let all : r.height * r.width ≡ length g.samples = ap (λ (t : ℕ). t * r.width) high ∙ ap (λ (t : ℕ). g.height * t) strip.wide ∙ sym size in
    strip_rows g r (r.height * r.width) strip size refl
    ∙ ap (λ (t : ℕ). take (r.height * r.width) (drop t g.samples)) none
    ∙ take_all (r.height * r.width) g.samples (omega (arith, all))

-- the gradient of a whole image
pub whole_range : {A : Type 0} (level : A → ℕ) (w : View A) (f : Picture) (b : OffsetBox) (top : A) (r : Rect) (out : List A) → IsWholeView level w f → f.maxval ≡ level top → IsStrip r f → r.y ≡ 0 → r.height ≡ f.height
    → IsMadeUnder (range_value (level top)) level (seen_at w) (box_offsets b) r out → map level out ≡ (minus (dilation (box_offsets b) f) (erosion (box_offsets b) f)).samples
whole_range level w f b top r out whole is strip first high made =
    let upper = dilation (box_offsets b) f in
    let lower = erosion (box_offsets b) f in
    let g = minus upper lower in
    made_whole (range_value (level top)) level w f g (box_offsets b) r out whole strip (λ x y across down. range_there b (level top) f x y is across down) made
    ∙ whole_strip g r (alike_strip f g r (record { kind = refl; width = refl; height = refl; maxval = refl }) strip) first high (length-rows (λ x y. sample upper x y - sample lower x y) f.width 0 f.height)

-- a whole frame of 32 columns or more stands in itself
pub whole_stands : (m n : ℕ) (place tile : Rect) → place ≡ whole_frame m n → tile ≡ whole_frame m n → 32 ≤ m → 1 ≤ n → StandsInside place tile
whole_stands m n place tile one two wide some =
    subst (λ (p : Rect). StandsInside p tile) (sym one) (subst (λ (t : Rect). StandsInside (whole_frame m n) t) (sym two) (record {
      left = omega arith;
      right = omega arith;
      top = omega arith;
      bottom = omega arith;
      wide = omega (arith, wide);
      some = omega (arith, some);
    }))
