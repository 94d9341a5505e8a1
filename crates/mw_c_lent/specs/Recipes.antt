-- What is made by strips, and of which images and elements (own).
use Rattle.std.specs.Prelude.{ℕ, ◌+◌, ◌*◌, ◌≤◌}
use Rattle.mw_model.specs.Flat.{minus}
use Rattle.mw_model.specs.Pictures.{Picture}
use Rattle.mw_c_arrays.specs.declared.sources.ArrayImage.{ArrayImage}
use Rattle.mw_c_arrays.specs.Sources.{picture_in}
use Rattle.mw_line_lent.specs.Near.{IsAround}
use Rattle.mw_c_lent.specs.declared.recipes.Recipe.{Recipe}
use Rattle.mw_c_lent.specs.declared.recipes.Recipe.TheVariants as recipe
use Rattle.mw_c_lent.specs.declared.rules.Rule.{Rule}
use Rattle.mw_c_lent.specs.Levels.{HasLevelsUpTo}
use Rattle.mw_c_lent.specs.Narrow.{IsNarrowRule}
use Rattle.mw_c_lent.specs.Slides.{AreSteps, slide_box, slide_picture, steps_picture}
use Rattle.mw_c_lent.specs.declared.standing.First.{First}

-- what is made of an image
abbrev pub recipe_picture : Recipe → Picture → Picture
recipe_picture (recipe.Filter s) f = steps_picture s f
recipe_picture (recipe.Taken s) f = minus f (steps_picture s f)
recipe_picture (recipe.Added s) f = minus (steps_picture s f) f
recipe_picture (recipe.Less a b) f = minus (slide_picture a f) (slide_picture b f)

-- the rectangles are made here
abbrev pub IsRecipe : Recipe → Type 0
IsRecipe (recipe.Filter s) = AreSteps s
IsRecipe (recipe.Taken s) = AreSteps s
IsRecipe (recipe.Added s) = AreSteps s
IsRecipe (recipe.Less a b) = IsAround (slide_box a) × IsAround (slide_box b)

-- the extremum whose rows stand first, and how far beyond a strip they are looked at
abbrev pub made_first : Recipe → First
made_first (recipe.Filter s) = record { slide = s.first; reach = s.reach }
made_first (recipe.Taken s) = record { slide = s.first; reach = s.reach }
made_first (recipe.Added s) = record { slide = s.first; reach = s.reach }
made_first (recipe.Less a b) = record { slide = b; reach = record { left = 0; right = 0; up = 0; down = 0 } }

-- how many rows are looked at beyond a strip
abbrev pub rows_beyond : Recipe → ℕ
rows_beyond r = (made_first r).reach.up + (made_first r).reach.down

-- ---- which elements and images are made by strips for sure

-- the image has samples with this top, 32 columns at least, and rows so short that five times as many as a second step looks at
-- beyond its own, and 16 more, have at most so many bytes
pub record FitsStrips (top beyond : ℕ) (f : ArrayImage) : Type 0 where
  pub levels : HasLevelsUpTo top f
  pub maxval : (picture_in f).maxval ≤ top
  pub wide : 32 ≤ (picture_in f).width
  pub few : (5 * beyond + 16) * (2 * (picture_in f).width) ≤ 1703936

-- both rules are extrema under rectangles, and the image suits the second
pub record AreTwoSteps (top : ℕ) (first second : Rule) (f : ArrayImage) : Type 0 where
  pub beyond : ℕ
  pub low : beyond ≤ 255
  pub first_is : IsNarrowRule 255 first
  pub second_is : IsNarrowRule beyond second
  pub image : FitsStrips top beyond f

-- both rules are extrema under rectangles, and the image has 32 columns at least
pub record AreTwoBoxes (top : ℕ) (upper lower : Rule) (f : ArrayImage) : Type 0 where
  pub upper_is : IsNarrowRule 255 upper
  pub lower_is : IsNarrowRule 255 lower
  pub image : FitsStrips top 0 f
