-- What the passes over a rectangle leave.
use Rattle.std.specs.Prelude.{◌≡◌, ℕ, ◌+◌, ◌*◌, ◌<◌, List, slice_index_or}
use Rattle.mw_model.specs.Windows.{View}
use Rattle.mw_line.specs.declared.slides.Slide.{Slide}
use Rattle.mw_line.specs.Cells.{merged_cell}
use Rattle.mw_line.specs.Extrema.{over_box}

-- at each place of a slide the samples have the extremum of n and what the window has in the box from there on
abbrev pub HoldsBoxExtrema : {A : Type 0} → (A → A → A) → A → View A → Slide → List A → Type 0
HoldsBoxExtrema merge n w s samples =
    (x y : ℕ) → x < s.width → y < s.height → slice_index_or samples (y * s.width + x) n ≡ over_box merge (merged_cell merge n w s.column s.row) s.across s.down x y
