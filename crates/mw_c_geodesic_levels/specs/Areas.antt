-- Area openings and closings by their numbers.
use Rattle.std.specs.Prelude.{◌==◌, ℕ, [], ◌∷◌, List, Option, if◌then◌else◌}
use Rattle.mw_model.specs.declared.codes.Code.{Code}
use Rattle.mw_model.specs.declared.offsets.Offset.{Offset}
use Rattle.mw_model.specs.Pictures.{Picture}
use Rattle.mw_model.specs.Refusals.{first_of}
use Rattle.mw_geodesic.specs.Components.{area_closing, area_opening}
use Rattle.mw_c_geodesic.specs.CallFaults.{nothing_case}
use Rattle.mw_c_geodesic_levels.specs.Faults.{kind_case}

-- what a kind of area operator makes: the area opening, or the area closing
abbrev pub area_filtered : ℕ → List Offset → ℕ → Picture → Picture
area_filtered kind e least f = if kind == 0 then area_opening e least f else area_closing e least f

-- the kind of an area operator, and the least area, in this order
abbrev pub area_fault : ℕ → ℕ → Option Code
area_fault kind least = first_of (kind_case kind ∷ nothing_case least ∷ [])
