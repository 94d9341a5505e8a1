-- The number of a plane of which no tile is placed.
use Rattle.std.proofs.Common.{◌≡◌, ℕ, zero, suc, ◌+◌, List, map, replicate, Option, None, sum, refl, ap, ◌∙◌, arith}
use Rattle.std.proofs.lemmas.List.Sums.{sum_by-cons}
use Rattle.mw_grid.specs.Grids.{Tiling, tile_count}
use Rattle.mw_tile_planes.specs.Sums.{number_in, first_cell}
use Rattle.mw_core_planes.specs.Levels.{Level, closed_plane}

no_sum : (n : ℕ) (o : Option (List ℕ)) → o ≡ None → sum (map first_cell (replicate n o)) ≡ 0
no_sum zero o e = refl
no_sum (suc n) o e = sum_by-cons (λ (x : ℕ). x) (first_cell o) (map first_cell (replicate n o)) ∙ none (first_cell o) (sum (map first_cell (replicate n o))) (ap first_cell e) (no_sum n o e)
  where
    none : (x y : ℕ) → x ≡ 0 → y ≡ 0 → x + y ≡ 0
    none x y ex ey = omega arith

pub number_closed : (g : Tiling) (l : Level) → number_in (closed_plane g l) ≡ 0
number_closed g l = no_sum (tile_count g) None refl
