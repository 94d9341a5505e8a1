-- What geodesic calls make of one image in levels of grey.
use Rattle.std.specs.Prelude.{ℕ, ◌≤◌, ◌==◌, List, if◌then◌else◌}
use Rattle.mw_model.specs.declared.offsets.Offset.{Offset}
use Rattle.mw_model.specs.Pictures.{Picture}
use Rattle.mw_geodesic.specs.Extrema.{h_maxima, h_minima, regional_maxima, regional_minima}
use Rattle.mw_c_arrays.specs.declared.sources.ArrayImage.{ArrayImage}
use Rattle.mw_c_calls.specs.Sources.{LevelsStandIn}
use Rattle.mw_c_geodesic.specs.Changes.{made_alone}
use Rattle.mw_c_geodesic_levels.specs.declared.changing.LevelChange.{LevelChange}
use Rattle.mw_c_geodesic_levels.specs.declared.changing.LevelChange.TheVariants as change

-- what is made of an image
abbrev pub levels_changed : LevelChange → List Offset → Picture → Picture
levels_changed (change.Alone c) e f = made_alone c e f
levels_changed (change.DomesCut h) e f = h_maxima e h f
levels_changed (change.BasinsFilled h) e f = h_minima e h f
levels_changed change.Maxima e f = regional_maxima e f
levels_changed change.Minima e f = regional_minima e f

-- what is made stands in samples as the levels of the image do, or in bytes where it is a set
abbrev pub ChangeStandsIn : LevelChange → ArrayImage → ℕ → Type 0
ChangeStandsIn (change.Alone c) f maxval = LevelsStandIn f maxval
ChangeStandsIn (change.DomesCut h) f maxval = LevelsStandIn f maxval
ChangeStandsIn (change.BasinsFilled h) f maxval = LevelsStandIn f maxval
ChangeStandsIn change.Maxima f maxval = maxval ≤ 255
ChangeStandsIn change.Minima f maxval = maxval ≤ 255

-- what a kind of extrema makes by a height: domes cut off, or basins filled up
abbrev pub h_extrema : ℕ → List Offset → ℕ → Picture → Picture
h_extrema kind e h f = if kind == 0 then h_maxima e h f else h_minima e h f

-- the regional extrema of a kind: maxima or minima
abbrev pub regional_extrema : ℕ → List Offset → Picture → Picture
regional_extrema kind e f = if kind == 0 then regional_maxima e f else regional_minima e f
