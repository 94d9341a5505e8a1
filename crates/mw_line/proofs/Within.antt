-- Samples that an extremum keeps within a bound.
use Rattle.std.proofs.Common.{◌≡◌, ℕ, ◌+◌, ◌*◌, ◌/◌, ◌%◌, ◌<◌, Bool, true, false, cond, ℤ, pos, negsuc, ◌+ℤ◌, ◌-ℤ◌, List, [], ◌∷◌, Option, Some, None, slice_get, fold, refl, ap, sym, subst, arith, ◌∙◌}
use Rattle.std.specs.Prelude.{All, nat_lt, ◌&&◌}
use Rattle.std.specs.List.{AllByRecursion, cons_option}
use Rattle.std.proofs.lemmas.Nat.{div_below, mod_below, div-add-mod'}
use Rattle.std.proofs.lemmas.Option.{get_or_from_slice_get, slice_get_within}
use Rattle.mw_model.proofs.mw_facts.Numbers.{factor-positive}
use Rattle.mw_model.specs.declared.offsets.Offset.{Offset}
use Rattle.mw_model.specs.declared.offsets.Rect.{Rect}
use Rattle.mw_model.specs.Rasters.{Raster, raster, cell_at, Sight, seen_under}
use Rattle.mw_model.specs.Windows.{View, seen_at}
use Rattle.mw_line.specs.Extrema.{IsSlidingExtremum}

fold_within : {A : Type 0} (f : A → A → A) (P : A → Type 0) → ((a b : A) → P a → P b → P (f a b)) → (n : A) (xs : List A) → P n → AllByRecursion P xs → P (fold f n xs)
fold_within f P keeps n [] here all = here
fold_within f P keeps n (x ∷ xs) here all = fold_within f P keeps (f n x) xs (keeps n x here all.0) all.1

cons_within : {A : Type 0} (P : A → Type 0) (o : Option A) (xs : List A) → ((a : A) → o ≡ Some a → P a) → AllByRecursion P xs → AllByRecursion P (cons_option o xs)
cons_within P None xs here all = all
cons_within P (Some a) xs here all = (here a refl, all)

-- what is seen of a source has what each place of it has
seen_within : {A : Type 0} (P : A → Type 0) (sight : Sight A) → ((column row : ℤ) (a : A) → sight column row ≡ Some a → P a) → (element : List Offset) (x y : ℕ) → AllByRecursion P (seen_under sight element x y)
seen_within P sight held [] x y = tt
seen_within P sight held (b ∷ bs) x y =
    cons_within P (sight (pos x +ℤ b.dx) (pos y +ℤ b.dy)) (seen_under sight bs x y) (held (pos x +ℤ b.dx) (pos y +ℤ b.dy)) (seen_within P sight held bs x y)

cell_within : {A : Type 0} (P : A → Type 0) (f : Raster A) → All P f.cells → (column row : ℤ) (a : A) → cell_at f column row ≡ Some a → P a
cell_within P f all (negsuc x) row a e = absurd cc
cell_within P f all (pos x) (negsuc y) a e = absurd cc
cell_within P f all (pos x) (pos y) a e = go (nat_lt x f.width && nat_lt y f.height) e
  where
    go : (b : Bool) → cond b (slice_get f.cells (y * f.width + x)) None ≡ Some a → P a
    go true e =
        let at = y * f.width + x in
        subst P (get_or_from_slice_get f.cells at a a e) (all at a (slice_get_within f.cells at a e))
    go false e = absurd cc

-- what holds of the neutral sample and of all of a window holds of all of its extremum, if the operation keeps it
pub sliding_within : {A : Type 0} (f : A → A → A) (P : A → Type 0) → ((a b : A) → P a → P b → P (f a b)) → (n : A) → P n → (w : View A) → All P w.cells → (element : List Offset) (tile : Rect) (r : Raster A)
    → IsSlidingExtremum f n (seen_at w) element tile r → All P r.cells
sliding_within f P keeps n here w all element tile r made k d lt =
    let inside : k < tile.height * tile.width = omega (arith, made.size) in
    let some : 0 < tile.width = factor-positive k tile.height tile.width inside in
    let x = k % tile.width in
    let y = k / tile.width in
    let seen = seen_under (seen_at w) element (tile.x + x) (tile.y + y) in
    let cell : slice_get r.cells k ≡ Some (fold f n seen) =
    ap (slice_get r.cells) (sym (div-add-mod' k tile.width)) ∙ made.cells x y (mod_below k tile.width some) (div_below k tile.width tile.height some inside) in
    let held = cell_within P (raster w.place.width w.place.height w.cells) all in
    let under : AllByRecursion P seen = seen_within P (seen_at w) (λ column row. held (column -ℤ pos w.place.x) (row -ℤ pos w.place.y)) element (tile.x + x) (tile.y + y) in
    subst P (sym (get_or_from_slice_get r.cells k (fold f n seen) d cell)) (fold_within f P keeps n seen here under)
