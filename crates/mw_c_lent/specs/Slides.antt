-- Extrema under full rectangles, one after another (own).
use Rattle.std.specs.Prelude.{ℕ, ◌≡◌, ◌+◌, ◌-◌, ◌≤◌, List}
use Rattle.mw_model.specs.declared.offsets.OffsetBox.{OffsetBox}
use Rattle.mw_model.specs.declared.offsets.Rect.{Rect}
use Rattle.mw_model.specs.Flat.{dilation, erosion, greatest, least}
use Rattle.mw_model.specs.Pictures.{Picture}
use Rattle.mw_model.specs.Rectangles.{WithinReach, box_offsets}
use Rattle.mw_line_lent.specs.Near.{IsAround}
use Rattle.mw_c_lent.specs.declared.slides.Slide.{Slide}
use Rattle.mw_c_lent.specs.declared.slides.Slide.TheVariants as slide
use Rattle.mw_c_lent.specs.declared.slides.Steps.{Steps}

-- the rectangle
abbrev pub slide_box : Slide → OffsetBox
slide_box (slide.Least b) = b
slide_box (slide.Greatest b) = b

-- the extremum of levels, where the least of none is the top
abbrev pub slide_value : ℕ → Slide → List ℕ → ℕ
slide_value top (slide.Least b) ns = least top ns
slide_value top (slide.Greatest b) ns = greatest ns

-- the greatest of levels less the least, which is the top where there are none
abbrev pub range_value : ℕ → List ℕ → ℕ
range_value top ns = greatest ns - least top ns

-- they are the greatest and the least under this rectangle
pub record IsRange (upper lower : Slide) (box : OffsetBox) : Type 0 where
  pub greatest : upper ≡ slide.Greatest box
  pub least : lower ≡ slide.Least box

-- the erosion or the dilation of an image
abbrev pub slide_picture : Slide → Picture → Picture
slide_picture (slide.Least b) f = erosion (box_offsets b) f
slide_picture (slide.Greatest b) f = dilation (box_offsets b) f

-- what the second makes of what the first makes
abbrev pub steps_picture : Steps → Picture → Picture
steps_picture s f = slide_picture s.second (slide_picture s.first f)

-- the rectangles have the place that they are put on, and the second does not look beyond the reach
pub record AreSteps (s : Steps) : Type 0 where
  pub first : IsAround (slide_box s.first)
  pub second : IsAround (slide_box s.second)
  pub reach : WithinReach s.reach (box_offsets (slide_box s.second))
  pub near : s.reach.up + s.reach.down ≤ 255

-- the rectangle has whole rows of a frame of these sides, one at least and each of 32 places at least
pub record AreFrameRows (r : Rect) (width height : ℕ) : Type 0 where
  pub left : r.x ≡ 0
  pub across : r.width ≡ width
  pub some : 1 ≤ r.height
  pub low : r.y + r.height ≤ height
  pub wide : 32 ≤ width
