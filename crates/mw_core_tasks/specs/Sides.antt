-- The side of a command's tiles.
use Rattle.std.specs.Prelude.{◌≡◌, ℕ}
use Rattle.mw_grid.specs.Grids.{IsTileSide}

-- tiles may have this side, and have the one that was asked for if they may have that
pub record IsSideFor (asked side : ℕ) : Type 0 where
  pub fit : IsTileSide side
  pub as_asked : IsTileSide asked → side ≡ asked
