-- Rectangles of some rows at most have more at most.
use Rattle.std.proofs.Common.{ℕ, ◌+◌, ◌*◌, ◌≤◌, arith}
use Rattle.std.proofs.lemmas.Int.{ints}
use Rattle.std.proofs.lemmas.Nat.{mul-le}
use Rattle.mw_model.specs.declared.offsets.OffsetBox.{OffsetBox}
use Rattle.mw_model.specs.declared.offsets.Rect.{Rect}
use Rattle.mw_rank_lent.specs.Middles.{FitsMedians}
use Rattle.mw_c_lent.specs.declared.rules.Rule.{Rule}
use Rattle.mw_c_lent.specs.declared.rules.Rule.TheVariants as rules
use Rattle.mw_c_lent.specs.Narrow.{IsNarrow, IsNarrowRule}
use Rattle.mw_c_lent.specs.Recipes.{FitsStrips}
use Rattle.mw_c_arrays.specs.declared.sources.ArrayImage.{ArrayImage}
use Rattle.mw_c_arrays.specs.Sources.{picture_in}

narrow_more : (m n : ℕ) (box : OffsetBox) → m ≤ n → IsNarrow m box → IsNarrow n box
narrow_more m n box le is = record { left = is.left; right = is.right; above = is.above; below = is.below; narrow = is.narrow; low = omega (arith, ints, le, is.low) }

-- a rectangle of some rows at most has more at most
pub rule_more : (m n : ℕ) (r : Rule) → m ≤ n → IsNarrowRule m r → IsNarrowRule n r
rule_more m n (rules.LeastBox b) le is = narrow_more m n b le is
rule_more m n (rules.GreatestBox b) le is = narrow_more m n b le is
rule_more m n (rules.Least e) le is = is
rule_more m n (rules.Greatest e) le is = is
rule_more m n (rules.Nth e k) le is = is
rule_more m n (rules.AtLeast k) le is = is

-- and an image that suits more rows suits fewer
pub fits_fewer : (top m n : ℕ) (f : ArrayImage) → m ≤ n → FitsStrips top n f → FitsStrips top m f
fits_fewer top m n f le is = record {
  levels = is.levels;
  maxval = is.maxval;
  wide = is.wide;
  few = omega (arith, mul-le (5 * m + 16) (2 * (picture_in f).width) (5 * n + 16) (2 * (picture_in f).width) (omega (arith, le)) (omega arith), is.few);
}

-- and a tile that suits medians by wide vectors suits them by narrower ones
pub fits_narrower : (m n reach : ℕ) (place tile : Rect) → n ≤ m → FitsMedians m reach place tile → FitsMedians n reach place tile
fits_narrower m n reach place tile le is = record {
  left = is.left;
  across = is.across;
  above = is.above;
  below = is.below;
  wide = omega (arith, is.wide, le);
  high = omega (arith, is.high, le);
}
