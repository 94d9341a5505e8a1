-- Extrema under boxes, row by row (own).
use Rattle.std.specs.Prelude.{ℕ, pos, ◌+ℤ◌, List, map, max}
use Rattle.std.specs.List.{range_with_len}
use Rattle.mw_model.specs.declared.offsets.Offset.{Offset}
use Rattle.mw_model.specs.declared.offsets.OffsetBox.{OffsetBox}
use Rattle.mw_model.specs.Flat.{greatest, least}
use Rattle.mw_model.specs.Rectangles.{span}
use Rattle.mw_plan.specs.declared.extremum.ExtremumKind.{ExtremumKind}
use Rattle.mw_plan.specs.declared.extremum.ExtremumKind.TheVariants as extremum

-- the extremum of a level and others
abbrev pub extreme : ExtremumKind → ℕ → List ℕ → ℕ
extreme extremum.Least n ns = least n ns
extreme extremum.Greatest n ns = max n (greatest ns)

-- the offsets of a row of a box
abbrev pub row_offsets : OffsetBox → ℕ → List Offset
row_offsets box j = map (λ i. record { dx = box.x0 +ℤ pos i; dy = box.y0 +ℤ pos j }) (range_with_len 0 (span box.x0 box.x1))
