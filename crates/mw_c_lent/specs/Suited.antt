-- Offsets and tiles for which there is a kernel for sure (own).
use Rattle.std.specs.Prelude.{◌≡◌, ℕ, ◌+◌, ◌-◌, ◌*◌, ◌<◌, ◌≤◌, List, length}
use Rattle.std.specs.List.{AllByRecursion}
use Rattle.mw_model.specs.declared.offsets.Offset.{Offset}
use Rattle.mw_model.specs.declared.offsets.OffsetBox.{OffsetBox}
use Rattle.mw_model.specs.declared.offsets.Rect.{Rect}
use Rattle.std.specs.Arc.{arc_value}
use Rattle.mw_model.specs.Elements.{reach_of}
use Rattle.mw_model.specs.Rectangles.{rect}
use Rattle.mw_c_arrays.specs.declared.sources.ArrayImage.{ArrayImage}
use Rattle.mw_c_arrays.specs.Sources.{picture_in}
use Rattle.mw_grid.specs.Rectangles.{whole_frame}
use Rattle.mw_line_lent.specs.Near.{IsAround, StandsInside}
use Rattle.mw_c_lent.specs.declared.composites.Composite.{Composite}
use Rattle.mw_c_lent.specs.declared.in_place.Middle.{Middle}
use Rattle.mw_c_lent.specs.declared.rules.Rule.{Rule}
use Rattle.mw_c_lent.specs.declared.rules.Rule.TheVariants as rule
use Rattle.mw_c_lent.specs.Composites.{first_rule, last_rule}
use Rattle.mw_c_lent.specs.InTurn.{rule_offsets}
use Rattle.mw_c_lent.specs.Levels.{HasLevelsUpTo}
use Rattle.mw_c_lent.specs.Narrow.{IsSmall}
use Rattle.mw_offset_lent.specs.Offsets.{LeadsWithin}
use Rattle.mw_rank_lent.specs.Middles.{FitsMedians, IsMedianAbout}

-- few offsets that lead no further than 64 columns and rows, and a tile of 72 columns, 8 rows and 8,192 samples at least
pub record SuitTile (offsets : List Offset) (tile : Rect) : Type 0 where
  pub few : length offsets ≤ 64
  pub near : AllByRecursion (LeadsWithin 64 64) offsets
  pub wide : 72 ≤ tile.width
  pub high : 8 ≤ tile.height
  pub many : 8192 ≤ tile.width * tile.height

-- the rule is an extremum under such offsets
abbrev pub SuitRule : Rule → Rect → Type 0
SuitRule (rule.Least e) r = SuitTile (arc_value e.now).offsets r
SuitRule (rule.Greatest e) r = SuitTile (arc_value e.now).offsets r
SuitRule x r = ⊥

-- number k is the median under a square about its origin, and the tile has rows enough for it, and columns beside those at the sides
pub record SuitMedian (k : ℕ) (offsets : List Offset) (place tile : Rect) : Type 0 where
  pub reach : ℕ
  pub median : IsMedianAbout reach k offsets
  pub fits : FitsMedians 16 reach place tile

-- it is such an extremum, or one under a rectangle and the tile stands in the place of the rows that are lent, or such a median
abbrev pub SuitPlace : Rect → Rule → Rect → Type 0
SuitPlace place (rule.LeastBox b) r = IsAround b × StandsInside place r
SuitPlace place (rule.GreatestBox b) r = IsAround b × StandsInside place r
SuitPlace place (rule.Nth e k) r = SuitMedian k (arc_value e.now).offsets place r
SuitPlace place x r = SuitRule x r

-- ---- rows that are made where they are to stand

-- the tile that has them
abbrev pub middle_tile : Middle → Rect
middle_tile m = rect 0 m.from (picture_in m.f).width (m.to - m.from)

-- there is a kernel for them, and the image has samples with this top
pub record SuitMiddle (top : ℕ) (m : Middle) : Type 0 where
  pub levels : HasLevelsUpTo top m.f
  pub maxval : (picture_in m.f).maxval ≤ top
  pub rule : SuitPlace (whole_frame (picture_in m.f).width (picture_in m.f).height) m.rule (middle_tile m)

-- ---- gradients that are made in one pass

-- the rectangle is small, and the image has samples with this top and 32 columns at least
pub record SuitGradient (top : ℕ) (box : OffsetBox) (f : ArrayImage) : Type 0 where
  pub small : IsSmall box
  pub levels : HasLevelsUpTo top f
  pub maxval : (picture_in f).maxval ≤ top
  pub wide : 32 ≤ (picture_in f).width

-- ---- what is made by strips

-- both rules are extrema under few offsets, and suit the tile
abbrev pub SuitComposite : Composite → Rect → Type 0
SuitComposite c r = SuitRule (first_rule c) r × SuitRule (last_rule c) r

-- the rule is an extremum under few offsets that lead no further than 64 columns and rows
abbrev pub IsNearRule : Rule → Type 0
IsNearRule (rule.Least e) = (length (arc_value e.now).offsets ≤ 64) × AllByRecursion (LeadsWithin 64 64) (arc_value e.now).offsets
IsNearRule (rule.Greatest e) = (length (arc_value e.now).offsets ≤ 64) × AllByRecursion (LeadsWithin 64 64) (arc_value e.now).offsets
IsNearRule x = ⊥

-- how many rows it looks at beside one
abbrev pub rows_beside : Rule → ℕ
rows_beside r = (reach_of (rule_offsets r)).up + (reach_of (rule_offsets r)).down

-- a first strip of so many rows at most, where so many are made: all of them, or half of that at least
pub record IsFirstHeight (rows count high : ℕ) : Type 0 where
  pub whole : count ≤ rows → high ≡ count
  pub half : rows < count → rows ≤ 2 * high

-- both rules are such, the image has samples with this top, 128 columns at least, and rows so short that five times as many as the
-- last looks at beside one, and 16 more, have at most so many bytes; and 64 rows at least are made
pub record IsMadeByStrips (top : ℕ) (c : Composite) (f : ArrayImage) (first end : ℕ) : Type 0 where
  pub levels : HasLevelsUpTo top f
  pub maxval : (picture_in f).maxval ≤ top
  pub first_is : IsNearRule (first_rule c)
  pub last_is : IsNearRule (last_rule c)
  pub wide : 128 ≤ (picture_in f).width
  pub few : (5 * rows_beside (last_rule c) + 16) * (2 * (picture_in f).width) ≤ 1703936
  pub some : 64 ≤ end - first
