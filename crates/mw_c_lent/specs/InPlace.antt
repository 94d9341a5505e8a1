-- Rows that are made where they are to stand (own).
use Rattle.std.specs.Prelude.{◌≡◌, ℕ, ◌-◌, ◌*◌, ◌<◌, ◌≤◌, length, map, max, min}
use Rattle.std.specs.Arc.{arc_value}
use Rattle.mw_model.specs.Elements.{reach_of}
use Rattle.mw_model.specs.Pictures.{Picture}
use Rattle.mw_model.specs.Windows.{View}
use Rattle.mw_tile.specs.Cuts.{view_of}
use Rattle.mw_grid.specs.Rectangles.{whole_frame}
use Rattle.mw_c_arrays.specs.Sources.{picture_in}
use Rattle.mw_c_lent.specs.declared.in_place.Middle.{Middle}
use Rattle.mw_c_lent.specs.declared.rules.Rule.{Rule}
use Rattle.mw_c_lent.specs.declared.rules.Rule.TheVariants as rule

-- some of the rows from row `first` on up to `end`
pub record AreMiddleRows (first end : ℕ) (m : Middle) : Type 0 where
  pub behind : first ≤ m.from
  pub some : m.from < m.to
  pub within : m.to ≤ end

-- how many rows at the upper and at the lower side of a frame the kernel of a rule leaves out
abbrev pub rows_above : Rule → ℕ
rows_above (rule.Nth e k) = (reach_of (arc_value e.now).offsets).up
rows_above r = 0

abbrev pub rows_below : Rule → ℕ
rows_below (rule.Nth e k) = (reach_of (arc_value e.now).offsets).down
rows_below r = 0

-- the first row from `first` on that it makes, and the row behind the last one before `end`, in a frame of so many rows
abbrev pub inner_first : ℕ → Rule → ℕ
inner_first first r = max first (rows_above r)

abbrev pub inner_end : ℕ → ℕ → Rule → ℕ
inner_end end height r = min end (height - rows_below r)

-- all rows from row `first` on up to `end` that it makes
pub record AreInnerRows (first end : ℕ) (m : Middle) : Type 0 where
  pub from : m.from ≡ inner_first first m.rule
  pub to : m.to ≡ inner_end end (picture_in m.f).height m.rule

-- the view has all samples of the image
pub record IsWholeView {A : Type 0} (level : A → ℕ) (w : View A) (f : Picture) : Type 0 where
  pub view : w ≡ view_of f.width f.height (whole_frame f.width f.height) w.cells
  pub samples : map level w.cells ≡ f.samples
  pub size : length f.samples ≡ f.height * f.width
