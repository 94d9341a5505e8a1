-- What extrema under full rectangles make, one after another, of some rows of an image.
use Rattle.std.proofs.Common.{◌≡◌, ℕ, pos, ◌+ℤ◌, ◌≤ℤ◌, ◌+◌, ◌-◌, ◌*◌, ◌<◌, ◌≤◌, min, List, map, length, refl, ap, sym, arith, ◌∙◌}
use Rattle.std.proofs.lemmas.Int.{ints}
use Rattle.std.proofs.lemmas.Nat.{mul-le}
use Rattle.mw_model.specs.declared.offsets.OffsetBox.{OffsetBox}
use Rattle.mw_model.specs.declared.offsets.Reach.{Reach}
use Rattle.mw_model.specs.declared.offsets.Rect.{Rect}
use Rattle.mw_model.specs.Flat.{greatest, least, under}
use Rattle.mw_model.specs.Laws.{SameShape}
use Rattle.mw_model.specs.Pictures.{Picture, sample}
use Rattle.mw_model.specs.Rectangles.{IsWithin, Leads, WithinReach, box_offsets, grown}
use Rattle.mw_model.specs.Tasks.{cells_in}
use Rattle.mw_model.specs.Windows.{View, seen_at}
use Rattle.mw_model.proofs.ImagePlaces.{length-rows, sample-redrawn}
use Rattle.mw_line_lent.specs.Near.{StandsInside}
use Rattle.mw_tile.specs.Cuts.{view_of}
use Rattle.mw_grid.specs.Rectangles.{whole_frame}
use Rattle.mw_step_task.proofs.Boxes.{box_all}
use Rattle.mw_c_lent.specs.declared.slides.Slide.{Slide}
use Rattle.mw_c_lent.specs.declared.slides.Slide.TheVariants as slide
use Rattle.mw_c_lent.specs.declared.slides.Steps.{Steps}
use Rattle.mw_c_lent.specs.Boxes.{IsMadeUnder}
use Rattle.mw_c_lent.specs.InPlace.{IsWholeView}
use Rattle.mw_c_lent.specs.Rows.{IsStrip}
use Rattle.mw_c_lent.specs.Slides.{AreFrameRows, slide_box, slide_picture, slide_value, steps_picture}
use Rattle.mw_c_lent.specs.Standing.{seen_from, seen_to}
use Rattle.mw_c_lent.proofs.Rows.{read_strip}
use Rattle.mw_c_lent.proofs.UnderBoxes.{made_shown}
use Rattle.mw_c_lent.proofs.Views.{levels_window, rows_window}

-- ---- one extremum

pub slide_there : (s : Slide) (top : ℕ) (f : Picture) (x y : ℕ) → f.maxval ≡ top → x < f.width → y < f.height → slide_value top s (under f (box_offsets (slide_box s)) x y) ≡ sample (slide_picture s f) x y
slide_there (slide.Least b) top f x y is across down =
    ap (λ (t : ℕ). least t (under f (box_offsets b) x y)) (sym is) ∙ sym (sample-redrawn f (λ u v. least f.maxval (under f (box_offsets b) u v)) x y across down)
slide_there (slide.Greatest b) top f x y is across down = sym (sample-redrawn f (λ u v. greatest (under f (box_offsets b) u v)) x y across down)

pub slide_shape : (s : Slide) (f : Picture) → SameShape (slide_picture s f) f
slide_shape (slide.Least b) f = record { kind = refl; width = refl; height = refl; maxval = refl }
slide_shape (slide.Greatest b) f = record { kind = refl; width = refl; height = refl; maxval = refl }

pub slide_size : (s : Slide) (f : Picture) → length (slide_picture s f).samples ≡ (slide_picture s f).height * (slide_picture s f).width
slide_size (slide.Least b) f = length-rows (λ x y. least f.maxval (under f (box_offsets b) x y)) f.width 0 f.height
slide_size (slide.Greatest b) f = length-rows (λ x y. greatest (under f (box_offsets b) x y)) f.width 0 f.height

-- a strip of an image is one of an image of the same shape
pub alike_strip : (f g : Picture) (r : Rect) → SameShape g f → IsStrip r f → IsStrip r g
alike_strip f g r shape is = record { left = is.left; wide = is.wide ∙ sym shape.width; some = is.some; low = omega (arith, is.low, shape.height) }

-- ---- two of them

pub steps_shape : (s : Steps) (f : Picture) → SameShape (steps_picture s f) f
steps_shape s f =
    let a = slide_shape s.first f in
    let b = slide_shape s.second (slide_picture s.first f) in
    record { kind = b.kind ∙ a.kind; width = b.width ∙ a.width; height = b.height ∙ a.height; maxval = b.maxval ∙ a.maxval }

pub steps_size : (s : Steps) (f : Picture) → length (steps_picture s f).samples ≡ (steps_picture s f).height * (steps_picture s f).width
steps_size s f = slide_size s.second (slide_picture s.first f)

pub steps_strip : (s : Steps) (f : Picture) (r : Rect) → IsStrip r f → IsStrip r (steps_picture s f)
steps_strip s f r is = alike_strip f (steps_picture s f) r (steps_shape s f) is

pub steps_made : {A : Type 0} (level : A → ℕ) (f : Picture) (s : Steps) (top : A) (m n : ℕ) (place strip : Rect) (part out : List A) → f.maxval ≡ level top → m ≡ f.width → n ≡ f.height → IsStrip strip f
    → place ≡ grown m n s.reach strip → WithinReach s.reach (box_offsets (slide_box s.second)) → map level part ≡ cells_in place (sample (slide_picture s.first f))
    → IsMadeUnder (slide_value (level top) s.second) level (seen_at (view_of m n place part)) (box_offsets (slide_box s.second)) strip out → map level out ≡ cells_in strip (sample (steps_picture s f))
steps_made level f s top m n place strip part out is wide high strip-is place-is reach rows second =
    let g : Picture = slide_picture s.first f in
    let shape = slide_shape s.first f in
    let own : IsStrip place f = rw (place-is) (read_strip m n strip s.reach f wide high strip-is) in
    let window = rows_window level g m n place strip s.reach (box_offsets (slide_box s.second)) part (wide ∙ sym shape.width) (high ∙ sym shape.height) (slide_size s.first f) (alike_strip f g place shape own) place-is reach rows in
    made_shown (slide_value (level top) s.second) level (view_of m n place part) g (steps_picture s f) (box_offsets (slide_box s.second)) strip out (alike_strip f g strip shape strip-is)
    (λ i j across down. levels_window level (view_of m n place part) g (box_offsets (slide_box s.second)) strip (slide_size s.first f) window i j across down)
    (λ x y across down. slide_there s.second (level top) g x y (shape.maxval ∙ is) across down) second

-- ---- places

-- the rows that are made for a strip
pub record GrownRows (m n : ℕ) (reach : Reach) (r place : Rect) : Type 0 where
  pub within : IsWithin place m n
  pub across : place.width ≡ m
  pub few : place.height ≤ min (r.height + (reach.up + reach.down)) n
  pub from : place.y ≡ seen_from reach r
  pub to : place.y + place.height ≡ seen_to n reach r
  pub rows : AreFrameRows place m n
  pub first : StandsInside (whole_frame m n) place
  pub second : StandsInside place r

grown_rows : (m n : ℕ) (reach : Reach) (r place : Rect) → AreFrameRows r m n → place ≡ grown m n reach r → GrownRows m n reach r place
grown_rows m n reach r place rows is =
    let left : place.x ≡ r.x - reach.left = ap (λ (t : Rect). t.x) is in
    let top : place.y ≡ r.y - reach.up = ap (λ (t : Rect). t.y) is in
    let wide : place.width ≡ min (r.x + r.width + reach.right) m - (r.x - reach.left) = ap (λ (t : Rect). t.width) is in
    let high : place.height ≡ min (r.y + r.height + reach.down) n - (r.y - reach.up) = ap (λ (t : Rect). t.height) is in
    let at : r.x ≡ 0 = rows.left in
    let over : r.width ≡ m = rows.across in
    let some : 1 ≤ r.height = rows.some in
    let low : r.y + r.height ≤ n = rows.low in
    let more : 32 ≤ m = rows.wide in
    record {
      within = record { across = omega arith; down = omega arith };
      across = omega arith;
      few = omega arith;
      from = omega arith;
      to = omega arith;
      rows = record { left = omega arith; across = omega arith; some = omega arith; low = omega arith; wide = more };
      first = record { left = omega arith; right = omega arith; top = omega arith; bottom = omega arith; wide = omega arith; some = omega arith };
      second = record { left = omega arith; right = omega arith; top = omega arith; bottom = omega arith; wide = omega arith; some = omega arith };
    }

-- and where the sides have other names
pub grown_in : (m n a b : ℕ) (reach : Reach) (r place : Rect) → a ≡ m → b ≡ n → AreFrameRows r m n → place ≡ grown a b reach r → GrownRows m n reach r place
grown_in m n a b reach r place wide high rows is = grown_rows m n reach r place rows (is ∙ ap (λ (t : ℕ). grown t b reach r) wide ∙ ap (λ (t : ℕ). grown m t reach r) high)

-- rows of a frame are a strip of an image of its sides
pub frame_strip : (m n : ℕ) (r : Rect) (f : Picture) → m ≡ f.width → n ≡ f.height → AreFrameRows r m n → IsStrip r f
frame_strip m n r f wide high rows = record { left = rows.left; wide = rows.across ∙ wide; some = rows.some; low = omega (arith, rows.low, high) }

-- the sides of a view of the whole of an image
pub whole_sides : {A : Type 0} (level : A → ℕ) (w : View A) (f : Picture) → IsWholeView level w f → (w.frame_width ≡ f.width) × (w.frame_height ≡ f.height)
whole_sides {A} level w f whole = (ap (λ (v : View A). v.frame_width) whole.view, ap (λ (v : View A). v.frame_height) whole.view)

-- there is room for as many rows
pub room_for : (a b w n : ℕ) → a ≤ b → b * w ≤ n → a * w ≤ n
room_for a b w n le room = omega (arith, mul-le a w b w le (omega arith), room)

-- there is room for the rows of a strip where there is for all
pub strip_fits : (m n count : ℕ) (r : Rect) → AreFrameRows r m n → count ≡ n * m → r.y * r.width + r.height * r.width ≤ count
strip_fits m n count r rows all = omega (arith, mul-le (r.y + r.height) r.width n m rows.low (omega (arith, rows.across)), split r.y r.height r.width, all)
  where
    split : (a b w : ℕ) → (a + b) * w ≡ a * w + b * w
    split a b w = omega arith

pub within_reach : (box : OffsetBox) (reach : Reach) → pos 0 ≤ℤ (box.x0 +ℤ pos reach.left) → box.x1 ≤ℤ pos reach.right → pos 0 ≤ℤ (box.y0 +ℤ pos reach.up) → box.y1 ≤ℤ pos reach.down → WithinReach reach (box_offsets box)
within_reach box reach left right up down = box_all (Leads reach) box (λ b inside. record {
  left = omega (arith, ints, left, inside.left);
  right = omega (arith, ints, right, inside.right);
  up = omega (arith, ints, up, inside.top);
  down = omega (arith, ints, down, inside.bottom);
})
