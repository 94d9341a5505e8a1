-- What stands at a place after a pass over the samples.
use Rattle.std.specs.Prelude.{ℕ, ◌+◌, ◌*◌, ◌||◌, ◌==◌, nat_lt, if◌then◌else◌}
use Rattle.mw_model.specs.Rasters.{Raster}
use Rattle.mw_geodesic_levels.specs.Levels.{level_numbered}

-- this level in the first or the last column or row of a frame of these sides, and 0 elsewhere
abbrev pub kept_at_border : ℕ → ℕ → ℕ → ℕ → ℕ → ℕ
kept_at_border width height x y level = if x == 0 || y == 0 || x + 1 == width || y + 1 == height then level else 0

-- 1 where the first level is over the second, else 0
abbrev pub over_mark : ℕ → ℕ → ℕ
over_mark a b = if nat_lt b a then 1 else 0

-- 1 where the first image is over the second, which has its size, else 0
abbrev pub mark_over : {A : Type 0} → (A → ℕ) → Raster A → Raster A → ℕ → ℕ → ℕ
mark_over level f g x y = over_mark (level_numbered level f.cells (y * f.width + x)) (level_numbered level g.cells (y * f.width + x))
