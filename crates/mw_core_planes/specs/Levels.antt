-- The kind and maxval of each plane of a plan, as they are known before any is made (own).
use Rattle.std.specs.Prelude.{ℕ, List, [], ◌∷◌, ◌++◌, map, slice_index_or}
use Rattle.mw_model.specs.declared.shapes.Kind.{Kind}
use Rattle.mw_model.specs.declared.shapes.Kind.TheVariants as kind
use Rattle.mw_model.specs.Pictures.{Picture, FitsKind}
use Rattle.mw_model.specs.PlanSteps.{PlanStep, kind_of_step, maxval_of_step}
use Rattle.mw_model.specs.Plans.{Plan, Source, FromInput, FromStep}
use Rattle.mw_grid.specs.Grids.{Tiling}
use Rattle.mw_tile_planes.specs.Tiles.{Tiled, nothing_placed}

-- what is known of an image before its samples are
pub record Level : Type 0 where
  pub kind : Kind
  pub maxval : ℕ

-- what stands behind the last level
abbrev pub no_level : Level
no_level = record { kind = kind.Bit; maxval = 0 }

-- the level of an image
abbrev pub level_of : Picture → Level
level_of f = record { kind = f.kind; maxval = f.maxval }

-- the level of a plane
abbrev pub level_of_plane : Tiled → Level
level_of_plane p = record { kind = p.kind; maxval = p.maxval }

-- the plane of this level on a frame with these tiles, of which none is placed
abbrev pub closed_plane : Tiling → Level → Tiled
closed_plane g l = nothing_placed l.kind l.maxval g

-- there are planes of this level
abbrev pub IsLevel : Level → Type 0
IsLevel l = FitsKind l.kind l.maxval

-- the level of a source: the image that the plan reads, or an earlier step
abbrev pub level_of_source : Level → List Level → Source → Level
level_of_source input made (FromInput k) = input
level_of_source input made (FromStep k) = slice_index_or made k no_level

-- the level of a step, of the levels of its sources
abbrev pub level_of_step : PlanStep → List Level → Level
level_of_step s sources =
    let first = slice_index_or sources 0 no_level in
    record { kind = kind_of_step s first.kind; maxval = maxval_of_step s first.maxval }

-- the levels of a plan's steps behind those found so far
abbrev pub levels_from : Plan → Level → List Level → List Level
levels_from [] input made = made
levels_from (s ∷ ss) input made = levels_from ss input (made ++ level_of_step s.step (map (level_of_source input made) s.sources) ∷ [])

-- the levels of a plan's steps, where it reads an image of this level
abbrev pub levels : Plan → Level → List Level
levels plan input = levels_from plan input []
