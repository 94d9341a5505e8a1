-- The numbers of tiles add up to that of the frame.
use Rattle.std.proofs.Common.{◌≡◌, ◌⊎◌, ℕ, zero, suc, ◌+◌, ◌-◌, ◌*◌, ◌/◌, ◌%◌, ◌<◌, ◌≤◌, min, List, [], ◌∷◌, map, length, Option, Some, None, unwrap_or, get_or, slice_index, sum, IsSome, true, false, refl, sym, ap, subst, arith, ◌∙◌, inl, inr}
use Rattle.std.specs.List.{range_with_len, flat_map}
use Rattle.std.proofs.lemmas.Bool.{cases_lt}
use Rattle.std.proofs.lemmas.Nat.{div-mul-add, mod-mul-add}
use Rattle.std.proofs.Math.Nat.{lt-div-mul-add}
use Rattle.std.proofs.lemmas.List.{ext_get_or, length-map}
use Rattle.std.proofs.lemmas.List.FromFn.{length-map-range_with_len, get_or-map-range_with_len}
use Rattle.std.proofs.lemmas.List.Sums.{sum_by-cons, sum_by-append}
use Rattle.std.proofs.Math.ListN.{get_or-map}
use Rattle.mw_model.proofs.mw_facts.Finds.{option_cases}
use Rattle.mw_model.specs.declared.offsets.Rect.{Rect}
use Rattle.mw_model.specs.Rectangles.{rect}
use Rattle.mw_model.specs.Pictures.{Picture, sample, sample_at, IsPicture}
use Rattle.mw_model.specs.PlanSteps.{Sum, here}
use Rattle.mw_model.specs.Tasks.{cells_in}
use Rattle.mw_model.proofs.Covers.{sample_at_in}
use Rattle.mw_grid.specs.Grids.{Tiling, columns_of, rows_of, tile_count, tile_at}
use Rattle.mw_grid.proofs.Tiles.{HasTiles}
use Rattle.mw_grid.proofs.Counts.{total, total-add, total-next}
use Rattle.mw_step_task.proofs.mw_tile_pieces.TileCells.{cells_in_is}
use Rattle.mw_tile_planes.specs.Tiles.{Tiled, tile_cells, AreMade, AllPlaced}
use Rattle.mw_tile_planes.specs.Sums.{first_cell, number_in}

-- ---- sums over numbers that follow one another

total_same : (F G : ℕ → ℕ) (a b n : ℕ) → ((k : ℕ) → k < n → F (a + k) ≡ G (b + k)) → total F a n ≡ total G b n
total_same F G a b zero each = refl
total_same F G a b (suc n) each =
    let first : F a ≡ G b = ap F (front a) ∙ each 0 (omega arith) ∙ ap G (sym (front b)) in
    let rest : total F (a + 1) n ≡ total G (b + 1) n = total_same F G (a + 1) (b + 1) n (λ k lt. ap F (next a k) ∙ each (k + 1) (omega arith) ∙ ap G (sym (next b k))) in
    ap (λ (t : ℕ). t + total F (a + 1) n) first ∙ ap (λ (t : ℕ). G b + t) rest
  where
    front : (a : ℕ) → a ≡ a + 0
    front a = omega arith

    next : (a k : ℕ) → a + 1 + k ≡ a + (k + 1)
    next a k = omega arith

total_split : (F : ℕ → ℕ) (a m n : ℕ) → total F a (m + n) ≡ total F a m + total F (a + m) n
total_split F a zero n = ap (λ (t : ℕ). total F a t) (zero_front n) ∙ ap (λ (t : ℕ). total F t n) (back a) ∙ zero_sum (total F (a + 0) n)
  where
    zero_front : (n : ℕ) → zero + n ≡ n
    zero_front n = omega arith

    back : (a : ℕ) → a ≡ a + 0
    back a = omega arith

    zero_sum : (t : ℕ) → t ≡ 0 + t
    zero_sum t = omega arith
total_split F a (suc m) n =
    ap (λ (t : ℕ). total F a t) (out m n)
    ∙ ap (λ (t : ℕ). F a + t) (total_split F (a + 1) m n)
    ∙ ap (λ (t : ℕ). F a + (total F (a + 1) m + total F t n)) (next a m)
    ∙ group (F a) (total F (a + 1) m) (total F (a + suc m) n)
  where
    out : (m n : ℕ) → suc m + n ≡ suc (m + n)
    out m n = omega arith

    next : (a m : ℕ) → a + 1 + m ≡ a + suc m
    next a m = omega arith

    group : (a b c : ℕ) → a + (b + c) ≡ a + b + c
    group a b c = omega arith

total_zero : (a n : ℕ) → total (λ _. 0) a n ≡ 0
total_zero a zero = refl
total_zero a (suc n) = none (total (λ _. 0) (a + 1) n) (total_zero (a + 1) n)
  where
    none : (t : ℕ) → t ≡ 0 → 0 + t ≡ 0
    none t e = omega arith

-- two sums, in either order
total_turned : (F : ℕ → ℕ → ℕ) (a m b n : ℕ) → total (λ i. total (λ j. F i j) b n) a m ≡ total (λ j. total (λ i. F i j) a m) b n
total_turned F a zero b n = sym (total_zero b n)
total_turned F a (suc m) b n = ap (λ (t : ℕ). total (λ j. F a j) b n + t) (total_turned F (a + 1) m b n) ∙ sym (total-add (λ j. F a j) (λ j. total (λ i. F i j) (a + 1) m) b n)

-- the piece behind c whole ones
last_piece : (F : ℕ → ℕ) (p side n : ℕ) → total F 0 (min p n) + total F p (min side (n - p)) ≡ total F 0 (min (p + side) n)
last_piece F p side n =
    elim (cases_lt n p) [
      | inl past ↦ ap (λ (t : ℕ). total F 0 (min p n) + total F p t) (none past) ∙ nothing (total F 0 (min p n)) ∙ ap (λ (t : ℕ). total F 0 t) (both_end past)
      | inr within ↦
          ap (λ (t : ℕ). total F 0 t + total F p (min side (n - p))) (low within)
          ∙ ap (λ (t : ℕ). total F 0 p + total F t (min side (n - p))) (front p)
          ∙ sym (total_split F 0 p (min side (n - p)))
          ∙ ap (λ (t : ℕ). total F 0 t) (to_end within)
    ]
  where
    none : n < p → min side (n - p) ≡ 0
    none lt = omega arith

    nothing : (t : ℕ) → t + 0 ≡ t
    nothing t = omega arith

    both_end : n < p → min p n ≡ min (p + side) n
    both_end lt = omega arith

    low : p ≤ n → min p n ≡ p
    low le = omega arith

    front : (p : ℕ) → p ≡ 0 + p
    front p = omega arith

    to_end : p ≤ n → p + min side (n - p) ≡ min (p + side) n
    to_end le = omega arith

-- a line in pieces of one length, of which the last ends with the line
pieces : (F : ℕ → ℕ) (side n count : ℕ) → total (λ c. total F (c * side) (min side (n - c * side))) 0 count ≡ total F 0 (min (count * side) n)
pieces F side n zero = ap (λ (t : ℕ). total F 0 t) (none side n)
  where
    none : (side n : ℕ) → 0 ≡ min (zero * side) n
    none side n = omega arith
pieces F side n (suc c) =
    total-next (λ c. total F (c * side) (min side (n - c * side))) 0 c
    ∙ ap (λ (t : ℕ). total (λ c. total F (c * side) (min side (n - c * side))) 0 c + total F (t * side) (min side (n - t * side))) (front c)
    ∙ ap (λ (t : ℕ). t + total F (c * side) (min side (n - c * side))) (pieces F side n c)
    ∙ last_piece F (c * side) side n
    ∙ ap (λ (t : ℕ). total F 0 (min t n)) (next side c)
  where
    front : (c : ℕ) → 0 + c ≡ c
    front c = omega arith

    next : (side c : ℕ) → c * side + side ≡ suc c * side
    next side c = omega arith

-- the pieces of a line reach its end
pieces_all : (F : ℕ → ℕ) (side n : ℕ) → 0 < side → 0 < n → total (λ c. total F (c * side) (min side (n - c * side))) 0 ((n - 1) / side + 1) ≡ total F 0 n
pieces_all F side n some there = pieces F side n ((n - 1) / side + 1) ∙ ap (λ (t : ℕ). total F 0 t) (reach side n some there)
  where
    next : (q side : ℕ) → (q + 1) * side ≡ q * side + side
    next q side = grind arith

    reach : (side n : ℕ) → 0 < side → 0 < n → min (((n - 1) / side + 1) * side) n ≡ n
    reach side n some there =
        let last : n - 1 < (n - 1) / side * side + side = lt-div-mul-add some in
        let up : ((n - 1) / side + 1) * side ≡ (n - 1) / side * side + side = next ((n - 1) / side) side in
        omega arith

-- numbers that are counted by rows
total_by_rows : (F : ℕ → ℕ → ℕ) (columns rows : ℕ) → total (λ i. F (i % columns) (i / columns)) 0 (rows * columns) ≡ total (λ r. total (λ c. F c r) 0 columns) 0 rows
total_by_rows F columns zero = ap (λ (t : ℕ). total (λ i. F (i % columns) (i / columns)) 0 t) (none columns)
  where
    none : (columns : ℕ) → zero * columns ≡ 0
    none columns = omega arith
total_by_rows F columns (suc r) =
    ap (λ (t : ℕ). total (λ i. F (i % columns) (i / columns)) 0 t) (more r columns)
    ∙ total_split (λ i. F (i % columns) (i / columns)) 0 (r * columns) columns
    ∙ ap (λ (t : ℕ). t + total (λ i. F (i % columns) (i / columns)) (0 + r * columns) columns) (total_by_rows F columns r)
    ∙ ap (λ (t : ℕ). total (λ r. total (λ c. F c r) 0 columns) 0 r + t) (total_same (λ i. F (i % columns) (i / columns)) (λ c. F c r) (0 + r * columns) 0 columns (λ c lt. here c lt))
    ∙ ap (λ (t : ℕ). total (λ r. total (λ c. F c r) 0 columns) 0 r + total (λ c. F c t) 0 columns) (front r)
    ∙ sym (total-next (λ r. total (λ c. F c r) 0 columns) 0 r)
  where
    more : (r columns : ℕ) → suc r * columns ≡ r * columns + columns
    more r columns = omega arith

    front : (r : ℕ) → r ≡ 0 + r
    front r = omega arith

    start : (a c : ℕ) → 0 + a + c ≡ a + c
    start a c = omega arith

    here : (c : ℕ) → c < columns → F ((0 + r * columns + c) % columns) ((0 + r * columns + c) / columns) ≡ F (0 + c) r
    here c lt =
        ap (λ (t : ℕ). F (t % columns) (t / columns)) (start (r * columns) c)
        ∙ ap (λ (t : ℕ). F t ((r * columns + c) / columns)) (mod-mul-add r columns c lt ∙ front c)
        ∙ ap (F (0 + c)) (div-mul-add r columns c lt)

-- ---- sums of lists

sum-map : (F : ℕ → ℕ) (a n : ℕ) → sum (map F (range_with_len a n)) ≡ total F a n
sum-map F a zero = refl
sum-map F a (suc n) = sum_by-cons (λ x. x) (F a) (map F (range_with_len (a + 1) n)) ∙ ap (λ (t : ℕ). F a + t) (sum-map F (a + 1) n)

sum-flat_map : (row : ℕ → List ℕ) (a n : ℕ) → sum (flat_map row (range_with_len a n)) ≡ total (λ k. sum (row k)) a n
sum-flat_map row a zero = refl
sum-flat_map row a (suc n) = sum_by-append (λ x. x) (row a) (flat_map row (range_with_len (a + 1) n)) ∙ ap (λ (t : ℕ). sum (row a) + t) (sum-flat_map row (a + 1) n)

-- the sum of the values of a rectangle
abbrev area : (ℕ → ℕ → ℕ) → ℕ → ℕ → ℕ → ℕ → ℕ
area value x width y height = total (λ v. total (λ u. value u v) x width) y height

sum-cells_in : (r : Rect) (value : ℕ → ℕ → ℕ) → sum (cells_in r value) ≡ area value r.x r.width r.y r.height
sum-cells_in r value =
    sum-flat_map (λ j. map (λ i. value (r.x + i) (r.y + j)) (range_with_len 0 r.width)) 0 r.height
    ∙ total_same (λ j. sum (map (λ i. value (r.x + i) (r.y + j)) (range_with_len 0 r.width))) (λ v. total (λ u. value u v) r.x r.width) 0 r.y r.height (λ j lt. line (0 + j) (r.y + j) (ap (λ (t : ℕ). r.y + t) (front j)))
  where
    front : (j : ℕ) → 0 + j ≡ j
    front j = omega arith

    line : (j v : ℕ) → r.y + j ≡ v → sum (map (λ i. value (r.x + i) (r.y + j)) (range_with_len 0 r.width)) ≡ total (λ u. value u v) r.x r.width
    line j v v-is =
        sum-map (λ i. value (r.x + i) (r.y + j)) 0 r.width
        ∙ total_same (λ i. value (r.x + i) (r.y + j)) (λ u. value u v) 0 r.x r.width (λ k lt. ap (λ (t : ℕ). value (r.x + t) (r.y + j)) (front k) ∙ ap (value (r.x + k)) v-is)

-- the tiles of a frame add up to the frame
tiles_total : (g : Tiling) (value : ℕ → ℕ → ℕ) → HasTiles g → total (λ i. sum (cells_in (tile_at g i) value)) 0 (tile_count g) ≡ area value 0 g.width 0 g.height
tiles_total g value has =
    let some : 0 < g.side = has.some in
    let part : ℕ → ℕ → ℕ = λ c r. area value (c * g.side) (min g.side (g.width - c * g.side)) (r * g.side) (min g.side (g.height - r * g.side)) in
    let line : ℕ → ℕ = λ v. total (λ u. value u v) 0 g.width in
    total_same (λ i. sum (cells_in (tile_at g i) value)) (λ i. part (i % columns_of g) (i / columns_of g)) 0 0 (tile_count g) (λ i lt. sum-cells_in (tile_at g (0 + i)) value)
    ∙ total_by_rows part (columns_of g) (rows_of g)
    ∙ total_same (λ r. total (λ c. part c r) 0 (columns_of g)) (λ r. total line (r * g.side) (min g.side (g.height - r * g.side))) 0 0 (rows_of g) (λ r lt. row (0 + r))
    ∙ pieces_all line g.side g.height some has.high
  where
    row : (r : ℕ)
        → total (λ c. area value (c * g.side) (min g.side (g.width - c * g.side)) (r * g.side) (min g.side (g.height - r * g.side))) 0 (columns_of g)
        ≡ total (λ v. total (λ u. value u v) 0 g.width) (r * g.side) (min g.side (g.height - r * g.side))
    row r =
        total_turned (λ c v. total (λ u. value u v) (c * g.side) (min g.side (g.width - c * g.side))) 0 (columns_of g) (r * g.side) (min g.side (g.height - r * g.side))
        ∙ total_same (λ v. total (λ c. total (λ u. value u v) (c * g.side) (min g.side (g.width - c * g.side))) 0 (columns_of g)) (λ v. total (λ u. value u v) 0 g.width) (r * g.side) (r * g.side) (min g.side (g.height - r * g.side))
        (λ k lt. pieces_all (λ u. value u (r * g.side + k)) g.side g.width has.some has.wide)

-- ---- planes of numbers

abbrev level_at : Picture → ℕ → ℕ → ℕ
level_at f x y = here (sample_at f) x y

samples_total : (f : Picture) → length f.samples ≡ f.height * f.width → sum f.samples ≡ area (level_at f) 0 f.width 0 f.height
samples_total f size =
    ap sum (sym (cells_in_is (rect 0 0 f.width f.height) (level_at f) f.samples size (λ i j across down. sym (ap (λ (o : Option ℕ). unwrap_or o 0) (sample_at_in f (0 + i) (0 + j) (omega arith) (omega arith)) ∙ place i j))))
    ∙ sum-cells_in (rect 0 0 f.width f.height) (level_at f)
  where
    front : (i : ℕ) → 0 + i ≡ i
    front i = omega arith

    place : (i j : ℕ) → sample f (0 + i) (0 + j) ≡ get_or f.samples (j * f.width + i) 0
    place i j = ap (λ (t : ℕ). sample f t (0 + j)) (front i) ∙ ap (λ (t : ℕ). sample f i t) (front j)

-- the first cells of tiles that are all placed
first_cells : (p : Tiled) (f : Picture) → AllPlaced p → AreMade Sum (f ∷ []) p → map first_cell p.tiles ≡ map (λ i. sum (cells_in (tile_at p.tiling i) (level_at f))) (range_with_len 0 (tile_count p.tiling))
first_cells p f all made =
    let count = all.count in
    let F : ℕ → ℕ = λ i. sum (cells_in (tile_at p.tiling i) (level_at f)) in
    ext_get_or 0 (map first_cell p.tiles) (map F (range_with_len 0 (tile_count p.tiling))) (omega (arith, length-map p.tiles first_cell, length-map-range_with_len F 0 (tile_count p.tiling)))
    (λ i lt.
    let below : i < tile_count p.tiling = omega (arith, length-map p.tiles first_cell) in
    get_or-map first_cell p.tiles i None ∙ one i below (option_cases (tile_cells p.tiles i)) ∙ sym (get_or-map-range_with_len F 0 (tile_count p.tiling) i i 0 below (front i)))
  where
    front : (i : ℕ) → 0 + i ≡ i
    front i = omega arith

    one : (i : ℕ) → i < tile_count p.tiling → (tile_cells p.tiles i ≡ None) ⊎ ((cells : List ℕ) × (tile_cells p.tiles i ≡ Some cells)) → first_cell (tile_cells p.tiles i) ≡ sum (cells_in (tile_at p.tiling i) (level_at f))
    one i lt (inl none) = let clash : false ≡ true = subst (λ (o : Option (List ℕ)). IsSome o) none (all.each i lt) in absurd cc
    one i lt (inr (cells, found)) = ap first_cell found ∙ ap (λ (t : List ℕ). slice_index t 0) (made i cells lt found)

pub tiles_add_up : (g : Tiling) (p : Tiled) (f : Picture) → HasTiles g → p.tiling ≡ g → AllPlaced p → AreMade Sum (f ∷ []) p → IsPicture f → f.width ≡ g.width → f.height ≡ g.height → number_in p ≡ sum f.samples
tiles_add_up g p f has same all made picture width height =
    let F : Tiling → ℕ → ℕ = λ t i. sum (cells_in (tile_at t i) (level_at f)) in
    ap sum (first_cells p f all made)
    ∙ sum-map (F p.tiling) 0 (tile_count p.tiling)
    ∙ ap (λ (t : Tiling). total (F t) 0 (tile_count t)) same
    ∙ tiles_total g (level_at f) has
    ∙ ap (λ (t : ℕ). area (level_at f) 0 t 0 g.height) (sym width)
    ∙ ap (λ (t : ℕ). area (level_at f) 0 f.width 0 t) (sym height)
    ∙ sym (samples_total f picture.size)
