-- Planes of which some tiles are missing, and how they are held.
use Rattle.std.proofs.Common.{◌≡◌, ℕ, zero, suc, ◌≤◌, All, List, ◌∷◌, ◌++◌, map, set, take, drop, length, replicate, Option, Some, None, get_or, refl, sym, ap, subst, ◌∙◌}
use Rattle.std.specs.Option.{option_map}
use Rattle.std.specs.Prelude.{IfSome}
use Rattle.std.proofs.Math.ListN.{get_or-map}
use Rattle.std.proofs.lemmas.List.{take_at}
use Rattle.mw_model.proofs.mw_facts.Elements.{get_or-replicate_same}
use Rattle.mw_model.specs.declared.shapes.Kind.{Kind}
use Rattle.mw_model.specs.declared.shapes.Kind.TheVariants as kind
use Rattle.mw_model.specs.Pictures.{FitsKind}
use Rattle.mw_model.specs.Rasters.{Raster}
use Rattle.mw_grid.specs.Grids.{Tiling, tile_count}
use Rattle.mw_grid.proofs.Tiles.{HasTiles}
use Rattle.mw_tile_slots.specs.Tiles.{cells_of, tile_cells, cells_in_raster, HasSides}
use Rattle.mw_tile_slots.proofs.Sides.{one_of, sides_none, sizes_of_sides}
use Rattle.mw_tile_planes.specs.Tiles.{Tiled, nothing_placed, AreBounded, TiledIsSound}
use Rattle.mw_tile_planes.specs.Held.{tiled, tiled_held, image_of_tile, TilesAreHeld}
use Rattle.mw_tile_planes.specs.declared.tile.Tile.{Tile}
use Rattle.mw_tile_planes.specs.declared.plane.Samples.{Samples}
use Rattle.mw_tile_planes.specs.declared.plane.Samples.TheVariants.{Bits, Grey8, Grey16}

-- a plane of these cells
abbrev pub with_cells : Kind → ℕ → Tiling → List (Option (List ℕ)) → Tiled
with_cells k maxval g cells = record { kind = k; maxval = maxval; tiling = g; tiles = cells }

pub map_replicate : {A B : Type 0} (f : A → B) (n : ℕ) (v : A) → map f (replicate n v) ≡ replicate n (f v)
map_replicate f zero v = refl
map_replicate f (suc n) v = ap (λ (t : List _). f v ∷ t) (map_replicate f n v)

-- of no tile a sample is over the level
bounded_none : (level : ℕ) (tiles : List (Option (Raster ℕ))) (n : ℕ) → tiles ≡ replicate n None → AreBounded level (cells_of tiles)
bounded_none level tiles n tiles-is i cells found =
    let none : tile_cells (cells_of tiles) i ≡ None =
    get_or-map (option_map cells_in_raster) tiles i None ∙ ap (λ (t : List (Option (Raster ℕ))). option_map cells_in_raster (get_or t i None)) tiles-is ∙ ap (option_map cells_in_raster) (get_or-replicate_same {A = Option (Raster ℕ)} n i None)
    in
    let clash : None ≡ Some cells = sym none ∙ found in absurd cc

pub held_none : (level : ℕ) (g : Tiling) (tiles : List (Option (Raster ℕ))) (n : ℕ) → tiles ≡ replicate n None → n ≡ tile_count g → HasSides g tiles × AreBounded level (cells_of tiles)
held_none level g tiles n tiles-is n-is = (sides_none g tiles n tiles-is n-is, bounded_none level tiles n tiles-is)

-- a tile was written, or dropped
pub bounded_set : (level : ℕ) (tiles new : List (Option (List ℕ))) (i : ℕ) (o : Option (List ℕ)) → new ≡ set tiles i o → IfSome o (λ cells. All (λ n. n ≤ level) cells) → AreBounded level tiles → AreBounded level new
bounded_set level tiles new i o new-is fits before =
    subst (AreBounded level) (sym new-is) (λ j. one_of (λ j o. (cells : List ℕ) → o ≡ Some cells → All (λ n. n ≤ level) cells) tiles i j o None (λ cells e. subst (λ (o : Option (List ℕ)). IfSome o (λ cells. All (λ n. n ≤ level) cells)) e fits) (before j))

-- a plane without tiles
none_held : (k : Kind) (maxval : ℕ) (g : Tiling) (tiles : List (Option (Raster ℕ))) (n : ℕ) → tiles ≡ replicate n None → n ≡ tile_count g → tiled k maxval g tiles ≡ nothing_placed k maxval g
none_held k maxval g tiles n tiles-is n-is = ap (λ (t : List (Option (List ℕ))). with_cells k maxval g t) (ap cells_of tiles-is ∙ map_replicate (option_map cells_in_raster) n None ∙ ap (λ (m : ℕ). replicate m None) n-is)

pub no_sets : (k : Kind) (maxval : ℕ) (g : Tiling) (tiles : List (Option (Raster ℕ))) (n : ℕ) → k ≡ kind.Bit → FitsKind k maxval → tiles ≡ replicate n None → n ≡ tile_count g → tiled kind.Bit 1 g tiles ≡ nothing_placed k maxval g
no_sets k maxval g tiles n k-is fits tiles-is n-is =
    let one : maxval ≡ 1 = subst (λ (j : Kind). FitsKind j maxval) k-is fits in
    none_held kind.Bit 1 g tiles n tiles-is n-is ∙ ap (λ (m : ℕ). nothing_placed kind.Bit m g) (sym one) ∙ ap (λ (j : Kind). nothing_placed j maxval g) (sym k-is)

pub no_levels : (k : Kind) (maxval m : ℕ) (g : Tiling) (tiles : List (Option (Raster ℕ))) (n : ℕ) → k ≡ kind.Grey → m ≡ maxval → tiles ≡ replicate n None → n ≡ tile_count g → tiled kind.Grey m g tiles ≡ nothing_placed k maxval g
no_levels k maxval m g tiles n k-is m-is tiles-is n-is =
    none_held kind.Grey m g tiles n tiles-is n-is ∙ ap (λ (m : ℕ). nothing_placed kind.Grey m g) m-is ∙ ap (λ (j : Kind). nothing_placed j maxval g) (sym k-is)

-- a plane in which a tile was written, or dropped
pub written_held : (k : Kind) (maxval : ℕ) (g : Tiling) (tiles new : List (Option (Raster ℕ))) (i : ℕ) (o : Option (List ℕ)) (p : Tiled) → tiled k maxval g tiles ≡ p → cells_of new ≡ set (cells_of tiles) i o
    → tiled k maxval g new ≡ record p { tiles = set p.tiles i o }
written_held k maxval g tiles new i o p view e =
    subst (λ (q : Tiled). tiled k maxval g new ≡ record q { tiles = set q.tiles i o }) view (ap (λ (t : List (Option (List ℕ))). with_cells k maxval g t) e)

-- what is held is sound
pub sound_held : (g : Tiling) (s : Samples) → HasTiles g → TilesAreHeld g s → TiledIsSound (tiled_held g s)
sound_held g (Bits tiles) has held = record { wide = has.wide; high = has.high; some = has.some; sizes = sizes_of_sides g tiles.items held.0; bounded = held.1 }
sound_held g (Grey8 tiles m) has held = record { wide = has.wide; high = has.high; some = has.some; sizes = sizes_of_sides g tiles.items held.0; bounded = held.1 }
sound_held g (Grey16 tiles m) has held = record { wide = has.wide; high = has.high; some = has.some; sizes = sizes_of_sides g tiles.items held.0; bounded = held.1 }

-- a list of tiles after one was written, or dropped
pub held_write : (level n i : ℕ) (g : Tiling) (old new : List (Option (Raster ℕ))) (o : Option (List ℕ)) → n ≡ length old → HasSides g old → HasSides g new → cells_of new ≡ set (cells_of old) i o → IfSome o (λ cells. All (λ n. n ≤ level) cells)
    → AreBounded level (cells_of old) → HasSides g (take n (new ++ drop (length new) old)) × AreBounded level (cells_of (take n (new ++ drop (length new) old)))
held_write level n i g old new o n-is had has new-is fits before =
    let all : take n (new ++ drop (length new) old) ≡ new = take_at new (drop (length new) old) n (has.count ∙ sym had.count ∙ sym n-is) in
    (subst (HasSides g) (sym all) has, subst (λ (t : List (Option (Raster ℕ))). AreBounded level (cells_of t)) (sym all) (bounded_set level (cells_of old) (cells_of new) i o new-is fits before))

-- the samples of a tile that may be placed
pub bounded_tile : (t : Tile) (level : ℕ) (cells : List ℕ) → All (λ s. s ≤ (image_of_tile t).maxval) (image_of_tile t).samples → (image_of_tile t).samples ≡ cells → (image_of_tile t).maxval ≡ level → All (λ n. n ≤ level) cells
bounded_tile t level cells all cells-is level-is = subst (λ (m : ℕ). All (λ n. n ≤ m) cells) level-is (subst (λ (c : List ℕ). All (λ n. n ≤ (image_of_tile t).maxval) c) cells-is all)
