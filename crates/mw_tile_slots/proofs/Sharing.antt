-- Rectangles as the tiles that they meet.
use Rattle.std.proofs.Common.{◌≡◌, ◌↔◌, ℕ, ◌+◌, ◌-◌, ◌*◌, ◌/◌, ◌<◌, ◌≤◌, true, false, List, [], ◌∷◌, ◌++◌, get_or, slice_get, Option, Some, None, IsSome, refl, sym, ap, subst, arith, ◌∙◌, inl, inr}
use Rattle.std.specs.List.{AllByRecursion}
use Rattle.std.proofs.lemmas.Bool.{cases_lt, or_left, or_right}
use Rattle.std.proofs.lemmas.List.{get_or_default}
use Rattle.std.proofs.lemmas.List.Folds.{list_any-append}
use Rattle.std.proofs.lemmas.Nat.{le-div}
use Rattle.std.proofs.Math.Nat.{div-mul-le_self}
use Rattle.mw_model.proofs.mw_facts.Alls.{all-push, all-weaker}
use Rattle.mw_model.specs.declared.offsets.Rect.{Rect}
use Rattle.mw_model.specs.Rectangles.{Holds, IsWithin}
use Rattle.mw_model.specs.Rasters.{Raster}
use Rattle.mw_grid.specs.Grids.{Tiling, columns_of, rows_of, tile_at, tile_count}
use Rattle.mw_grid.proofs.Lines.{number_of}
use Rattle.mw_grid.proofs.Tiles.{HasTiles, tile_within}
use Rattle.mw_tile_pieces.specs.mw_tile.Windows.{IsCut}
use Rattle.mw_tile_pieces.specs.mw_tile.Cuts.{view_of}
use Rattle.mw_tile_pieces.specs.Patches.{Patch, Joint, IsJoint, IsInside, IsPatchOf, ShowsFrame, ShowsIn, PiecesCover, cell_of, frame_value, has_place, held_in, joint, overlap_of, patch}
use Rattle.mw_tile_pieces.proofs.Patches.{agree, has_yes, values_of_shows}
use Rattle.mw_tile_slots.specs.Shares.{AddsTiles, AreTilesMet, IsTileOf}
use Rattle.mw_tile_slots.specs.Tiles.{HasAll, HasAlong, HasSides, HasSizes, ShowsTiles, cells_of, tile_cells, tile_number_at}
use Rattle.mw_tile_slots.proofs.Numbers.{number_holds, number_only, number_within}
use Rattle.mw_tile_slots.proofs.Sides.{none_there, sizes_of_sides}

-- ---- tiles that are added

held_old : {A : Type 0} (ps qs : List (Patch A)) (x y : ℕ) → held_in ps x y ≡ true → held_in (ps ++ qs) x y ≡ true
held_old ps qs x y held = list_any-append (λ (p : Patch _). has_place p.place x y) ps qs ∙ or_left (held_in ps x y) (held_in qs x y) held

held_new : {A : Type 0} (ps : List (Patch A)) (p : Patch A) (x y : ℕ) → Holds p.place x y → held_in (ps ++ p ∷ []) x y ≡ true
held_new ps p x y holds =
    list_any-append (λ (q : Patch _). has_place q.place x y) ps (p ∷ []) ∙ or_right (held_in ps x y) (held_in (p ∷ []) x y) (or_left (has_place p.place x y) false (has_yes p.place x y holds))

pub adds_none : {A : Type 0} (g : Tiling) (tiles : List (Option (List A))) (first end : ℕ) (ps : List (Patch A)) → end ≤ first → AddsTiles g tiles first end ps ps
adds_none g tiles first end ps past = record { all = λ all. all; kept = λ x y held. held; added = λ i x y from to. absurd (omega arith) }

pub adds_tile : {A : Type 0} (g : Tiling) (tiles : List (Option (List A))) (i : ℕ) (old new : List (Patch A)) (p : Patch A) → i < tile_count g → p.place ≡ tile_at g i → tile_cells tiles i ≡ Some p.cells → new ≡ old ++ p ∷ [] → AddsTiles g tiles i (i + 1) old new
adds_tile {A} g tiles i old new p lt place-is cells-is new-is =
    subst (λ (t : List (Patch A)). AddsTiles g tiles i (i + 1) old t) (sym new-is) (record {
      all = λ all. all-push (IsTileOf g tiles) old p all (record { number = i; within = lt; place = place-is; cells = cells-is });
      kept = λ x y held. held_old old (p ∷ []) x y held;
      added = λ k x y from to holds some.
          let k-is : k ≡ i = omega arith in
          held_new old p x y (subst (λ (r : Rect). Holds r x y) (ap (tile_at g) k-is ∙ sym place-is) holds);
    })

pub adds_missing : {A : Type 0} (g : Tiling) (tiles : List (Option (List A))) (i : ℕ) (ps : List (Patch A)) → (IsSome (tile_cells tiles i) → ⊥) → AddsTiles g tiles i (i + 1) ps ps
adds_missing g tiles i ps missing = record {
  all = λ all. all;
  kept = λ x y held. held;
  added = λ k x y from to holds some.
      let k-is : k ≡ i = omega arith in
      absurd (missing (subst (λ n. IsSome (tile_cells tiles n)) k-is some));
}

pub adds_more : {A : Type 0} (g : Tiling) (tiles : List (Option (List A))) (first mid end : ℕ) (old now new : List (Patch A)) → AddsTiles g tiles first mid old now → AddsTiles g tiles mid end now new → AddsTiles g tiles first end old new
adds_more g tiles first mid end old now new before after = record {
  all = λ all. after.all (before.all all);
  kept = λ x y held. after.kept x y (before.kept x y held);
  added = λ i x y from to holds some. elim (cases_lt i mid) [
    | inl early ↦ after.kept x y (before.added i x y from early holds some)
    | inr late ↦ after.added i x y late to holds some
  ];
}

-- ---- the tiles that a rectangle meets

pub div_rises : (a b k : ℕ) → 0 < k → a ≤ b → a / k ≤ b / k
div_rises a b k some le = le-div (a / k) b k some (omega (arith, div-mul-le_self a k))

-- the tiles of these columns are there up to this row
pub record HasRowsMet {A : Type 0} (g : Tiling) (tiles : List (Option (List A))) (left right top row : ℕ) (ps : List (Patch A)) : Type 0 where
  pub all : AllByRecursion (IsTileOf g tiles) ps
  pub met : (c r x y : ℕ) → left ≤ c → c < right → top ≤ r → r < row → Holds (tile_at g (r * columns_of g + c)) x y → IsSome (tile_cells tiles (r * columns_of g + c)) → held_in ps x y ≡ true

pub no_rows_met : {A : Type 0} (g : Tiling) (tiles : List (Option (List A))) (left right top : ℕ) → HasRowsMet g tiles left right top top []
no_rows_met g tiles left right top = record { all = tt; met = λ c r x y a b from to. absurd (omega arith) }

pub row_met : {A : Type 0} (g : Tiling) (tiles : List (Option (List A))) (left right top row columns : ℕ) (now new : List (Patch A)) → columns ≡ columns_of g → HasRowsMet g tiles left right top row now
    → AddsTiles g tiles (row * columns + left) (row * columns + right) now new → HasRowsMet g tiles left right top (row + 1) new
row_met {A} g tiles left right top row columns now new columns-is before adds =
    let adds' : AddsTiles g tiles (row * columns_of g + left) (row * columns_of g + right) now new = subst (λ n. AddsTiles g tiles (row * n + left) (row * n + right) now new) columns-is adds in
    record {
      all = adds'.all before.all;
      met = λ c r x y a b from to holds some. elim (cases_lt r row) [
        | inl early ↦ adds'.kept x y (before.met c r x y a b from early holds some)
        | inr late ↦
            let r-is : r ≡ row = omega arith in
            adds'.added (r * columns_of g + c) x y (above r row c left (columns_of g) r-is a) (under r row c right (columns_of g) r-is b) holds some
      ];
    }
  where
    above : (r row c left n : ℕ) → r ≡ row → left ≤ c → row * n + left ≤ r * n + c
    above r row c left n e le = rw e (omega arith)

    under : (r row c right n : ℕ) → r ≡ row → c < right → r * n + c < row * n + right
    under r row c right n e lt = rw e (omega arith)

pub rows_are_met : {A : Type 0} (g : Tiling) (tiles : List (Option (List A))) (r : Rect) (side left right top bottom : ℕ) (ps : List (Patch A)) → HasTiles g → IsWithin r g.width g.height → side ≡ g.side → left ≡ r.x / side → right ≡ (r.x + r.width - 1) / side + 1
    → top ≡ r.y / side → bottom ≡ (r.y + r.height - 1) / side + 1 → HasRowsMet g tiles left right top bottom ps → AreTilesMet g tiles r ps
rows_are_met g tiles r side left right top bottom ps has within side-is left-is right-is top-is bottom-is rows = record {
  all = rows.all;
  met = λ i x y lt holds here some.
      let k = g.side in
      let some-k : 0 < k = has.some in
      let a = holds.left in
      let b = holds.right in
      let c = holds.top in
      let d = holds.bottom in
      let from-x : r.x / k ≤ x / k = div_rises r.x x k some-k a in
      let to-x : x / k ≤ (r.x + r.width - 1) / k = div_rises x (r.x + r.width - 1) k some-k (omega arith) in
      let from-y : r.y / k ≤ y / k = div_rises r.y y k some-k c in
      let to-y : y / k ≤ (r.y + r.height - 1) / k = div_rises y (r.y + r.height - 1) k some-k (omega arith) in
      let number : tile_number_at g x y ≡ i = number_only g i x y some-k here in
      rows.met (x / k) (y / k) x y (rw (left-is, side-is) from-x) (rw (right-is, side-is) (omega arith)) (rw (top-is, side-is) from-y) (rw (bottom-is, side-is) (omega arith))
      (subst (λ n. Holds (tile_at g n) x y) (sym number) here) (subst (λ n. IsSome (tile_cells tiles n)) (sym number) some);
}

-- ---- the window that they make

-- what tiles have at a place
cell_there : {A : Type 0} → Option (List A) → ℕ → Option A
cell_there None k = None
cell_there (Some cells) k = slice_get cells k

abbrev tile_value : {A : Type 0} → Tiling → List (Option (List A)) → ℕ → ℕ → Option A
tile_value g tiles x y =
    let n = tile_number_at g x y in
    cell_there (tile_cells tiles n) ((y - (tile_at g n).y) * (tile_at g n).width + (x - (tile_at g n).x))

tile_shows : {A : Type 0} (g : Tiling) (tiles : List (Option (List A))) (r : Rect) (p : Patch A) → 0 < g.side → IsTileOf g tiles p → ShowsIn r (tile_value g tiles) p
unfolding cell_there
tile_shows g tiles r p some of x y inside holds =
    let i = of.number in
    let t = tile_at g i in
    let here : Holds t x y = subst (λ (q : Rect). Holds q x y) of.place holds in
    ap (λ (q : Rect). slice_get p.cells ((y - q.y) * q.width + (x - q.x))) of.place
    ∙ ap (λ (o : Option (List _)). cell_there o ((y - t.y) * t.width + (x - t.x))) (sym of.cells)
    ∙ ap (λ (n : ℕ). cell_there (tile_cells tiles n) ((y - (tile_at g n).y) * (tile_at g n).width + (x - (tile_at g n).x))) (sym (number_only g i x y some here))

pub cut_cell : {A : Type 0} (f : Raster A) (m n : ℕ) (p : Patch A) (x y : ℕ) → IsCut (view_of m n p.place p.cells) f → Holds p.place x y → cell_of p x y ≡ frame_value f x y
cut_cell f m n p x y cut holds =
    let left = holds.left in
    let right = holds.right in
    let top = holds.top in
    let bottom = holds.bottom in
    cut.same (x - p.place.x) (y - p.place.y) (omega arith) (omega arith)
    ∙ ap (λ (t : ℕ). slice_get f.cells (t * f.width + (p.place.x + (x - p.place.x)))) (back y p.place.y top)
    ∙ ap (λ (t : ℕ). slice_get f.cells (y * f.width + t)) (back x p.place.x left)
  where
    back : (m n : ℕ) → n ≤ m → n + (m - n) ≡ m
    back m n le = omega arith

-- a tile has what each whole frame with these tiles has there
tile_of_frame : {A : Type 0} (g : Tiling) (tiles : List (Option (List A))) (f : Raster A) (r : Rect) (p : Patch A) → ShowsTiles g tiles f → IsTileOf g tiles p → ShowsIn r (frame_value f) p
tile_of_frame {A} g tiles f r p shows of x y inside holds =
    let cut : IsCut (view_of f.width f.height p.place p.cells) f = subst (λ (q : Rect). IsCut (view_of f.width f.height q p.cells) f) (sym of.place) (shows.shown of.number p.cells of.within of.cells) in
    cut_cell f f.width f.height p x y cut holds

tile_patch : {A : Type 0} (g : Tiling) (tiles : List (Option (List A))) (p : Patch A) → HasTiles g → HasSizes g tiles → IsTileOf g tiles p → IsPatchOf g.width g.height p
tile_patch g tiles p has sizes of = record {
  within = subst (λ (r : Rect). IsWithin r g.width g.height) (sym of.place) (tile_within g of.number has of.within);
  full = sizes of.number p.cells of.within of.cells ∙ ap (λ (r : Rect). r.height * r.width) (sym of.place);
}

covered : {A : Type 0} (g : Tiling) (tiles : List (Option (List A))) (r : Rect) (ps : List (Patch A)) → HasTiles g → IsWithin r g.width g.height → HasAll g tiles r → AreTilesMet g tiles r ps → PiecesCover r ps
covered g tiles r ps has within placed met x y holds =
    let right = holds.right in
    let bottom = holds.bottom in
    let across = within.across in
    let down = within.down in
    let wide : x < g.width = omega arith in
    let high : y < g.height = omega arith in
    let i = tile_number_at g x y in
    let lt : i < tile_count g = number_within g x y i g.side (columns_of g) has wide high refl refl refl in
    let here : Holds (tile_at g i) x y = number_holds g x y i g.side (columns_of g) has wide high refl refl refl in
    met.met i x y lt holds here (placed x y holds i lt here)

pub joint_of_tiles : {A : Type 0} (g : Tiling) (tiles : List (Option (Raster A))) (r : Rect) (ps : List (Patch A)) (w h : ℕ) → HasTiles g → HasSides g tiles → IsWithin r g.width g.height → HasAll g (cells_of tiles) r → AreTilesMet g (cells_of tiles) r ps → w ≡ g.width → h ≡ g.height
    → IsJoint (joint w h r ps)
joint_of_tiles {A} g tiles r ps w h has sides within placed met w-is h-is =
    let covers = covered g (cells_of tiles) r ps has within placed met in
    let there : IsJoint (joint g.width g.height r ps) = record {
      within = within;
      patches = all-weaker (IsTileOf g (cells_of tiles)) (IsPatchOf g.width g.height) ps (λ p of. tile_patch g (cells_of tiles) p has (sizes_of_sides g tiles sides) of) met.all;
      covers = covers;
      agree = agree (tile_value g (cells_of tiles)) r ps covers (all-weaker (IsTileOf g (cells_of tiles)) (ShowsIn r (tile_value g (cells_of tiles))) ps (λ p of. tile_shows g (cells_of tiles) r p has.some of) met.all);
    } in
    rw (w-is, h-is) there

pub shown_of_tiles : {A : Type 0} (g : Tiling) (tiles : List (Option (List A))) (r : Rect) (ps : List (Patch A)) (w h : ℕ) (j : Joint A) → HasTiles g → IsWithin r g.width g.height → HasAll g tiles r → AreTilesMet g tiles r ps → w ≡ g.width → h ≡ g.height → j ≡ joint w h r ps
    → (f : Raster A) → ShowsTiles g tiles f → ShowsFrame f j
shown_of_tiles {A} g tiles r ps w h j has within placed met w-is h-is j-is f shows =
    subst (ShowsFrame f) (sym j-is) (record {
      width = w-is ∙ sym shows.width;
      height = h-is ∙ sym shows.height;
      same = values_of_shows (frame_value f) r ps (covered g tiles r ps has within placed met) (all-weaker (IsTileOf g tiles) (ShowsIn r (frame_value f)) ps (λ p of. tile_of_frame g tiles f r p shows of) met.all);
    })

-- ---- pieces, beside tiles

pub missing_at : {A : Type 0} (g : Tiling) (tiles : List (Option (Raster A))) (i : ℕ) (o : Option (Raster A)) → HasSides g tiles → o ≡ get_or tiles i o → o ≡ None → i < tile_count g → IsSome (tile_cells (cells_of tiles) i) → ⊥
missing_at g tiles i o has read is lt = none_there tiles i (get_or_default tiles i None o (let count = has.count in omega arith) ∙ sym read ∙ is)

-- a piece that stands in the place of a tile
pub agrees_tile : {A : Type 0} (f t : Raster A) (m n : ℕ) (place at : Rect) (p : Patch A) (P : Type 0) → at ≡ p.place → IsCut (view_of m n at t.cells) f → P ↔ ShowsIn place (cell_of (patch at t.cells)) p → P ↔ ShowsIn place (frame_value f) p
agrees_tile f t m n place at p P at-is cut tells = (
  λ yes x y first second. tells.0 yes x y first second ∙ there x y second,
  λ shows. tells.1 (λ x y first second. shows x y first second ∙ sym (there x y second)),
)
  where
    there : (x y : ℕ) → Holds p.place x y → cell_of (patch at t.cells) x y ≡ frame_value f x y
    there x y holds = cut_cell f m n (patch at t.cells) x y cut (subst (λ (r : Rect). Holds r x y) (sym at-is) holds)

-- a row of a piece lies where the tiles are placed
pub row_within : {A : Type 0} (g : Tiling) (tiles : List (Option (List A))) (r place : Rect) (p : Patch A) (y n : ℕ) → r ≡ overlap_of place p.place → IsWithin place g.width g.height → HasAll g tiles place → r.y ≤ y → y < r.y + r.height → 1 ≤ r.width → n ≡ r.width
    → (r.x + n ≤ g.width) × (y < g.height) × HasAlong g tiles r.x y (r.x + n)
row_within g tiles r place p y n r-is within placed top bottom some n-is =
    let a = ap (λ (q : Rect). q.x) r-is in
    let b = ap (λ (q : Rect). q.y) r-is in
    let c = ap (λ (q : Rect). q.width) r-is in
    let d = ap (λ (q : Rect). q.height) r-is in
    let across = within.across in
    let down = within.down in
    (omega arith, omega arith, (λ k le lt. placed k y (record { left = omega arith; right = omega arith; top = omega arith; bottom = omega arith })))

pub inside_itself : (r s : Rect) → s ≡ r → IsInside r s
inside_itself r s e =
    let xs = ap (λ (q : Rect). q.x) e in
    let ys = ap (λ (q : Rect). q.y) e in
    let ws = ap (λ (q : Rect). q.width) e in
    let hs = ap (λ (q : Rect). q.height) e in
    record { left = omega arith; right = omega arith; top = omega arith; bottom = omega arith }

-- the columns and rows of the tiles that a rectangle meets
pub record IsMetBlock (g : Tiling) (left right top bottom : ℕ) : Type 0 where
  pub across : left ≤ right
  pub down : top ≤ bottom
  pub some : 1 ≤ right
  pub wide : right ≤ columns_of g
  pub high : bottom ≤ rows_of g

pub met_block : (g : Tiling) (r : Rect) (side left right top bottom : ℕ) → HasTiles g → IsWithin r g.width g.height → 1 ≤ r.width → 1 ≤ r.height → side ≡ g.side → left ≡ r.x / side → right ≡ (r.x + r.width - 1) / side + 1 → top ≡ r.y / side
    → bottom ≡ (r.y + r.height - 1) / side + 1 → IsMetBlock g left right top bottom
met_block g r side left right top bottom has within wide high side-is left-is right-is top-is bottom-is =
    let k = g.side in
    let some : 0 < k = has.some in
    let across = within.across in
    let down = within.down in
    let x = div_rises r.x (r.x + r.width - 1) k some (omega arith) in
    let y = div_rises r.y (r.y + r.height - 1) k some (omega arith) in
    let to-x = div_rises (r.x + r.width - 1) (g.width - 1) k some (omega arith) in
    let to-y = div_rises (r.y + r.height - 1) (g.height - 1) k some (omega arith) in
    rw (left-is, right-is, top-is, bottom-is, side-is) (record { across = omega arith; down = omega arith; some = omega arith; wide = omega arith; high = omega arith })

pub row_numbers : (g : Tiling) (left right top bottom row columns : ℕ) → columns ≡ columns_of g → row < bottom → IsMetBlock g left right top bottom → row * columns + right ≤ tile_count g
row_numbers g left right top bottom row columns columns-is lt block =
    let some = block.some in
    let wide = block.wide in
    let high = block.high in
    let last = number_of (rows_of g) (columns_of g) (right - 1) row (omega arith) (omega arith) in
    rw columns-is (omega arith)
