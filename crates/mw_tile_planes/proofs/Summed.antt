-- Numbers without any, and after one was written.
use Rattle.std.proofs.Common.{◌≡◌, ℕ, List, [], ◌∷◌, map, set, replicate, Option, Some, None, ap, subst, ◌∙◌}
use Rattle.std.specs.Option.{option_map}
use Rattle.std.proofs.lemmas.List.{map-set}
use Rattle.mw_model.specs.declared.shapes.Kind.{Kind}
use Rattle.mw_grid.specs.Grids.{Tiling, tile_count}
use Rattle.mw_tile_planes.specs.Tiles.{Tiled, nothing_placed}
use Rattle.mw_tile_planes.proofs.Sides.{map_replicate, with_cells}
use Rattle.mw_tile_planes.specs.Sums.{alone, summed}

pub summed_none : (k : Kind) (maxval n : ℕ) (g : Tiling) (numbers : List (Option ℕ)) → numbers ≡ replicate n None → n ≡ tile_count g → summed k maxval g numbers ≡ nothing_placed k maxval g
summed_none k maxval n g numbers numbers-is n-is =
    ap (λ (t : List (Option (List ℕ))). with_cells k maxval g t) (ap (λ (t : List (Option ℕ)). map (option_map alone) t) numbers-is ∙ map_replicate (option_map alone) n None ∙ ap (λ (m : ℕ). replicate m None) n-is)

pub summed_set : (k : Kind) (maxval i n : ℕ) (g : Tiling) (numbers : List (Option ℕ)) (p : Tiled) → summed k maxval g numbers ≡ p → summed k maxval g (set numbers i (Some n)) ≡ record p { tiles = set p.tiles i (Some (n ∷ [])) }
summed_set k maxval i n g numbers p view =
    subst (λ (q : Tiled). summed k maxval g (set numbers i (Some n)) ≡ record q { tiles = set q.tiles i (Some (n ∷ [])) }) view
    (ap (λ (t : List (Option (List ℕ))). with_cells k maxval g t) (map-set (option_map alone) numbers i (Some n)))
