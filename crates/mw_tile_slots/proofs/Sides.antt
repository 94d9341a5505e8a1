-- Lists of tiles, some of which are missing.
use Rattle.std.proofs.Common.{◌≡◌, ℕ, zero, suc, ◌*◌, List, [], ◌∷◌, set, length, replicate, Option, Some, None, get_or, true, false, refl, sym, ap, subst, ◌∙◌}
use Rattle.std.specs.Option.{option_map}
use Rattle.std.specs.Prelude.{IsSome, IfSome}
use Rattle.std.proofs.Math.ListN.{get_or-map}
use Rattle.std.proofs.lemmas.List.{length-replicate, length-set}
use Rattle.std.proofs.lemmas.Option.{same_Some}
use Rattle.mw_model.proofs.mw_facts.Elements.{get_or-replicate_same}
use Rattle.mw_model.specs.Rasters.{Raster}
use Rattle.mw_grid.specs.Grids.{Tiling, tile_count, tile_at}
use Rattle.mw_tile_slots.specs.Tiles.{cells_of, tile_cells, cells_in_raster, HasSidesOf, HasSides, HasSizes}

-- the cells of a tile that is placed
pub cells_at : {A : Type 0} (tiles : List (Option (Raster A))) (i : ℕ) (t : Raster A) → get_or tiles i None ≡ Some t → tile_cells (cells_of tiles) i ≡ Some t.cells
cells_at tiles i t found = get_or-map (option_map cells_in_raster) tiles i None ∙ ap (option_map cells_in_raster) found

-- a tile without cells is not there
pub none_there : {A : Type 0} (tiles : List (Option (Raster A))) (i : ℕ) → get_or tiles i None ≡ None → IsSome (tile_cells (cells_of tiles) i) → ⊥
none_there {A} tiles i none some =
    let e : tile_cells (cells_of tiles) i ≡ None = get_or-map (option_map cells_in_raster) tiles i None ∙ ap (option_map cells_in_raster) none in
    let clash : false ≡ true = subst (λ (o : Option (List A)). IsSome o) e some in cc

-- an element of a list in which one was written over
pub one_of : {A : Type 0} (P : ℕ → A → Type 0) (xs : List A) (i j : ℕ) (v d : A) → P i v → P j (get_or xs j d) → P j (get_or (set xs i v) j d)
one_of P [] i j v d here there = there
one_of P (x ∷ xs) zero zero v d here there = here
one_of P (x ∷ xs) zero (suc j) v d here there = there
one_of P (x ∷ xs) (suc i) zero v d here there = there
one_of P (x ∷ xs) (suc i) (suc j) v d here there = one_of (λ n a. P (suc n) a) xs i j v d here there

pub sides_set : {A : Type 0} (g : Tiling) (tiles : List (Option (Raster A))) (i : ℕ) (t : Option (Raster A)) → HasSides g tiles → IfSome t (HasSidesOf (tile_at g i)) → HasSides g (set tiles i t)
sides_set {A} g tiles i t has fits = record {
  count = length-set tiles i t ∙ has.count;
  sides = λ j. one_of (λ j o. (f : Raster A) → o ≡ Some f → HasSidesOf (tile_at g j) f) tiles i j t None (λ f e. given t f fits e) (has.sides j);
}
  where
    given : (t : Option (Raster A)) (f : Raster A) → IfSome t (HasSidesOf (tile_at g i)) → t ≡ Some f → HasSidesOf (tile_at g i) f
    given t f fits e = subst (λ (o : Option (Raster A)). IfSome o (HasSidesOf (tile_at g i))) e fits

pub sides_none : {A : Type 0} (g : Tiling) (tiles : List (Option (Raster A))) (n : ℕ) → tiles ≡ replicate n None → n ≡ tile_count g → HasSides g tiles
sides_none {A} g tiles n tiles-is n-is = record {
  count = ap length tiles-is ∙ length-replicate n _ ∙ n-is;
  sides = λ i f e.
      let none : get_or tiles i None ≡ None = ap (λ (t : List (Option (Raster A))). get_or t i None) tiles-is ∙ get_or-replicate_same {A = Option (Raster A)} n i None in
      let clash : None ≡ Some f = sym none ∙ e in absurd cc;
}

-- the cells that a tile has fill it
pub sizes_of_sides : {A : Type 0} (g : Tiling) (tiles : List (Option (Raster A))) → HasSides g tiles → HasSizes g (cells_of tiles)
sizes_of_sides {A} g tiles has i cells lt found =
    go (get_or tiles i None) refl (sym (get_or-map (option_map cells_in_raster) tiles i None) ∙ found)
  where
    go : (o : Option (Raster A)) → get_or tiles i None ≡ o → option_map cells_in_raster o ≡ Some cells → length cells ≡ (tile_at g i).height * (tile_at g i).width
    go None is e = let clash : None ≡ Some cells = e in absurd cc
    go (Some t) is e = ap length (sym (same_Some t.cells cells e)) ∙ (has.sides i t is).size
