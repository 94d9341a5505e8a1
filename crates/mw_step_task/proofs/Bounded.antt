-- What a step makes of samples up to a maxval is up to the maxval of the step.
use Rattle.std.proofs.Common.{◌≡◌, ℕ, zero, suc, ◌+◌, ◌-◌, ◌*◌, ◌<◌, ◌≤◌, ℤ, pos, negsuc, ◌+ℤ◌, ◌-ℤ◌, Bool, true, false, cond, nat_lt, nat_le, ◌==◌, ◌&&◌, min, List, [], ◌∷◌, length, get_or, slice_get, Option, Some, None, unwrap_or, All, refl, sym, subst, arith}
use Rattle.std.specs.List.{AllByRecursion, cons_option}
use Rattle.std.proofs.lemmas.Grind.{get_or_default_zero}
use Rattle.std.proofs.lemmas.Option.{slice_get_within, get_or_from_slice_get, none-some}
use Rattle.mw_model.specs.declared.offsets.Offset.{Offset}
use Rattle.mw_model.specs.Rectangles.{box_offsets}
use Rattle.mw_model.specs.Flat.{greatest, in_rising_order}
use Rattle.mw_model.specs.Rasters.{Raster, raster, cell_at, Sight, seen_under}
use Rattle.mw_model.specs.Windows.{seen_at}
use Rattle.mw_model.specs.Plans.{is_sum}
use Rattle.mw_model.specs.PlanSteps.{PlanStep, Erode, Dilate, ErodeBox, DilateBox, Rank, Minus, AtLeast, Invert, Meet, Join, Blank, Mark, MarkLast, Equal, Sum, step_at, here, maxval_of_step}
use Rattle.mw_model.specs.Tasks.{cells_in}
use Rattle.mw_model.proofs.Covers.{least_at_most}
use Rattle.mw_model.proofs.ImageLaws.{index_below, sorted_below}
use Rattle.mw_tile_pieces.specs.mw_tile.Windows.{SourceWindow}
use Rattle.mw_step_task.specs.WindowTasks.{WindowTask, window_at, KindsFit, IsBounded, tile_made}
use Rattle.mw_tile_pieces.proofs.TileCells.{length-cells_in, cells_in_all}

-- nothing that is seen is over the top
abbrev pub IsBelow : ℕ → Sight ℕ → Type 0
IsBelow top f = (column row : ℤ) (v : ℕ) → f column row ≡ Some v → v ≤ top

-- the cells of a raster
raster_below : (top : ℕ) (f : Raster ℕ) → All (λ n. n ≤ top) f.cells → IsBelow top (cell_at f)
raster_below top f all (negsuc x) row v e = absurd (none-some v e)
raster_below top f all (pos x) (negsuc y) v e = absurd (none-some v e)
raster_below top f all (pos x) (pos y) v e = go (nat_lt x f.width && nat_lt y f.height) e
  where
    go : (b : Bool) → cond b (slice_get f.cells (y * f.width + x)) None ≡ Some v → v ≤ top
    go false e = absurd (none-some v e)
    go true e =
        let lt : y * f.width + x < length f.cells = slice_get_within f.cells (y * f.width + x) v e in
        subst (λ n. n ≤ top) (get_or_from_slice_get f.cells (y * f.width + x) v 0 e) (all (y * f.width + x) 0 lt)

pub window_below : (w : SourceWindow) → IsBounded w → IsBelow w.maxval (seen_at w.view)
window_below w all column row v e = raster_below w.maxval (raster w.view.place.width w.view.place.height w.view.cells) all (column -ℤ pos w.view.place.x) (row -ℤ pos w.view.place.y) v e

-- each source is bounded, also one that is not there
pub window_bounded : (ws : List SourceWindow) (k : ℕ) → AllByRecursion IsBounded ws → IsBounded (window_at ws k)
window_bounded [] k all = λ i d lt. absurd (omega arith)
window_bounded (w ∷ ws) zero all = all.0
window_bounded (w ∷ ws) (suc k) all = window_bounded ws k all.1

pub here_below : (top : ℕ) (f : Sight ℕ) (x y : ℕ) → IsBelow top f → here f x y ≤ top
here_below top f x y below = go (f (pos x) (pos y)) (λ v e. below (pos x) (pos y) v e)
  where
    go : (o : Option ℕ) → ((v : ℕ) → o ≡ Some v → v ≤ top) → unwrap_or o 0 ≤ top
    go None each = omega arith
    go (Some v) each = each v refl

abbrev pub AllUpTo : ℕ → List ℕ → Type 0
AllUpTo top ns = AllByRecursion (λ n. n ≤ top) ns

seen_below : (top : ℕ) (f : Sight ℕ) (offsets : List Offset) (x y : ℕ) → IsBelow top f → AllUpTo top (seen_under f offsets x y)
seen_below top f [] x y below = tt
seen_below top f (b ∷ bs) x y below = go (f (pos x +ℤ b.dx) (pos y +ℤ b.dy)) (λ v e. below (pos x +ℤ b.dx) (pos y +ℤ b.dy) v e) (seen_below top f bs x y below)
  where
    go : (o : Option ℕ) → ((v : ℕ) → o ≡ Some v → v ≤ top) → AllUpTo top (seen_under f bs x y) → AllUpTo top (cons_option o (seen_under f bs x y))
    go None each rest = rest
    go (Some v) each rest = (each v refl, rest)

pub greatest_below : (top : ℕ) (ns : List ℕ) → AllUpTo top ns → greatest ns ≤ top
greatest_below top [] all = omega arith
greatest_below top (n ∷ ns) all = let h = all.0 in omega (arith, greatest_below top ns all.1)

cond-below : (b : Bool) (top m n : ℕ) → m ≤ top → n ≤ top → cond b m n ≤ top
cond-below true top m n p q = p
cond-below false top m n p q = q

-- the value of a step at a place
value_below : (s : PlanStep) (ws : List SourceWindow) (x y : ℕ) → KindsFit s ws → AllByRecursion IsBounded ws → is_sum s ≡ false
    → step_at s (window_at ws 0).maxval (seen_at (window_at ws 0).view) (seen_at (window_at ws 1).view) (seen_at (window_at ws 2).view) x y ≤ maxval_of_step s (window_at ws 0).maxval
value_below s ws x y kinds all not = go s kinds not
  where
    first : IsBelow (window_at ws 0).maxval (seen_at (window_at ws 0).view)
    first = window_below (window_at ws 0) (window_bounded ws 0 all)

    second : IsBelow (window_at ws 1).maxval (seen_at (window_at ws 1).view)
    second = window_below (window_at ws 1) (window_bounded ws 1 all)

    go : (s : PlanStep) → KindsFit s ws → is_sum s ≡ false
        → step_at s (window_at ws 0).maxval (seen_at (window_at ws 0).view) (seen_at (window_at ws 1).view) (seen_at (window_at ws 2).view) x y ≤ maxval_of_step s (window_at ws 0).maxval
    go (Erode e) kinds not = least_at_most (window_at ws 0).maxval (seen_under (seen_at (window_at ws 0).view) e x y)
    go (Dilate e) kinds not = greatest_below (window_at ws 0).maxval (seen_under (seen_at (window_at ws 0).view) e x y) (seen_below (window_at ws 0).maxval (seen_at (window_at ws 0).view) e x y first)
    go (ErodeBox b) kinds not = least_at_most (window_at ws 0).maxval (seen_under (seen_at (window_at ws 0).view) (box_offsets b) x y)
    go (DilateBox b) kinds not = greatest_below (window_at ws 0).maxval (seen_under (seen_at (window_at ws 0).view) (box_offsets b) x y) (seen_below (window_at ws 0).maxval (seen_at (window_at ws 0).view) (box_offsets b) x y first)
    go (Rank e k) kinds not =
        let found = seen_under (seen_at (window_at ws 0).view) e x y in
        index_below (window_at ws 0).maxval (in_rising_order found) (min k (length found) - 1) (sorted_below (window_at ws 0).maxval found (seen_below (window_at ws 0).maxval (seen_at (window_at ws 0).view) e x y first))
    go Minus kinds not = let h = here_below (window_at ws 0).maxval (seen_at (window_at ws 0).view) x y first in omega arith
    go (AtLeast k) kinds not = cond-below (nat_le k (here (seen_at (window_at ws 0).view) x y)) 1 1 0 (omega arith) (omega arith)
    go Invert kinds not = omega arith
    go Meet kinds not = let h = here_below (window_at ws 0).maxval (seen_at (window_at ws 0).view) x y first in omega arith
    go Join kinds not =
        let h = here_below (window_at ws 0).maxval (seen_at (window_at ws 0).view) x y first in
        let k = here_below (window_at ws 1).maxval (seen_at (window_at ws 1).view) x y second in
        let same = kinds.1 in
        omega arith
    go (Blank m) kinds not = omega arith
    go (Mark v) kinds not =
        let h = here_below (window_at ws 0).maxval (seen_at (window_at ws 0).view) x y first in
        cond-below (here (seen_at (window_at ws 1).view) x y == 1 && here (seen_at (window_at ws 2).view) x y == 0) (window_at ws 0).maxval v (here (seen_at (window_at ws 0).view) x y) kinds.0 h
    go (MarkLast v) kinds not =
        let h = here_below (window_at ws 0).maxval (seen_at (window_at ws 0).view) x y first in
        cond-below (here (seen_at (window_at ws 1).view) x y == 1) (window_at ws 0).maxval v (here (seen_at (window_at ws 0).view) x y) kinds.0 h
    go (Equal v) kinds not = cond-below (here (seen_at (window_at ws 0).view) x y == v) 1 1 0 (omega arith) (omega arith)
    go Sum kinds not = absurd (true_false not)
      where
        true_false : true ≡ false → ⊥
        true_false e = cc

abbrev value_of : WindowTask → ℕ → ℕ → ℕ
value_of t = step_at t.step (window_at t.windows 0).maxval (seen_at (window_at t.windows 0).view) (seen_at (window_at t.windows 1).view) (seen_at (window_at t.windows 2).view)

-- the image that a task makes
pub made_below : (t : WindowTask) → KindsFit t.step t.windows → AllByRecursion IsBounded t.windows → is_sum t.step ≡ false → All (λ n. n ≤ (tile_made t).maxval) (tile_made t).samples
made_below t kinds all not =
    let P : List ℕ → Type 0 = λ ns. All (λ n. n ≤ (tile_made t).maxval) ns in
    subst P (sym samples) (λ k d lt. each k d lt)
  where
    samples : (tile_made t).samples ≡ cells_in t.rect (value_of t)
    samples = rw not refl

    each : (k d : ℕ) → k < length (cells_in t.rect (value_of t)) → get_or (cells_in t.rect (value_of t)) k d ≤ maxval_of_step t.step (window_at t.windows 0).maxval
    each k d lt =
        let P : ℕ → Type 0 = λ n. n ≤ maxval_of_step t.step (window_at t.windows 0).maxval in
        subst P (sym (get_or_default_zero (cells_in t.rect (value_of t)) k d lt))
        (cells_in_all P t.rect (value_of t) (λ i j across down. value_below t.step t.windows (t.rect.x + i) (t.rect.y + j) kinds all not) k (omega (arith, length-cells_in t.rect (value_of t))))
