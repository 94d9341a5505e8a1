-- What is seen under runs.
use Rattle.std.proofs.Common.{◌≡◌, ℕ, suc, ◌+◌, ◌-◌, ◌*◌, ◌<◌, ◌≤◌, ℤ, pos, ◌+ℤ◌, ◌-ℤ◌, List, [], ◌∷◌, Option, length, get_or, flat_map, fold, refl, ap, sym, arith, ◌∙◌}
use Rattle.std.specs.Option.{unwrap_or}
use Rattle.std.specs.List.{range_with_len, filter_map, AllByRecursion}
use Rattle.std.proofs.Math.Nat.{mul-le-mul_left}
use Rattle.std.proofs.lemmas.Int.{ints}
use Rattle.std.proofs.lemmas.List.Elements.{filter_map-append}
use Rattle.std.proofs.lemmas.List.Folds.{flat_map-map}
use Rattle.mw_model.proofs.mw_facts.Alls.{all-weaker}
use Rattle.mw_model.specs.declared.offsets.Offset.{Offset}
use Rattle.mw_model.specs.declared.offsets.Rect.{Rect}
use Rattle.mw_model.specs.Rectangles.{nonnegative}
use Rattle.mw_model.specs.Rasters.{raster, cell_at, Sight, seen_under}
use Rattle.mw_model.specs.Windows.{View, seen_at}
use Rattle.mw_model.proofs.Nonnegative.{nonnegative_is}
use Rattle.mw_line.specs.mw_lane.Shifted.{merge_at}
use Rattle.mw_line.specs.Extrema.{strided, over}
use Rattle.mw_line.proofs.Folds.{IsExtremum, fold_both}
use Rattle.mw_line.proofs.Over.{over_same, over_strided, over_out, merged_or, fold_flat, those, fold_those, filter_map-flat}
use Rattle.mw_element_runs.specs.declared.runs.Run.{Run}
use Rattle.mw_element_runs.specs.declared.runs.Extent.{Extent}
use Rattle.mw_element_runs.specs.Runs.{run_offsets, start_of, RunIsInside, RunHasRoom, gather}
use Rattle.mw_offset.proofs.Rooms.{one_less}

-- The rows that the code lays out for a tile and an extent: each cell stands for what the window has there.
pub record IsLaidBy {A : Type 0} (look : Option A → A) (n : A) (w : View A) (tile : Rect) (e : Extent) (wide high : ℕ) (column row : ℤ) (cells : List A) : Type 0 where
  pub wide_is : wide ≡ tile.width + nonnegative (e.right -ℤ e.left)
  pub high_is : high ≡ tile.height + nonnegative (e.bottom -ℤ e.top)
  pub column_is : column ≡ pos tile.x +ℤ e.left -ℤ pos w.place.x
  pub row_is : row ≡ pos tile.y +ℤ e.top -ℤ pos w.place.y
  pub size : high * wide ≤ length cells
  pub cells_are : (x y : ℕ) → x < wide → y < high → get_or cells (y * wide + x) n ≡ look (cell_at (raster w.place.width w.place.height w.cells) (column +ℤ pos x) (row +ℤ pos y))

-- each cell is merged with n
abbrev pub IsLaid : {A : Type 0} → (A → A → A) → A → View A → Rect → Extent → ℕ → ℕ → ℤ → ℤ → List A → Type 0
IsLaid f n w tile e wide high column row cells = IsLaidBy (merge_at f n) n w tile e wide high column row cells

run_room : (tile_width tile_height wide high : ℕ) (e : Extent) → 0 < tile_height → wide ≡ tile_width + nonnegative (e.right -ℤ e.left) → high ≡ tile_height + nonnegative (e.bottom -ℤ e.top)
    → (r : Run) → RunIsInside e r → start_of e wide r + (r.count - 1) + ((tile_height - 1) * wide + tile_width) ≤ high * wide
run_room tile_width tile_height wide high e some wide-is high-is r inside =
    let dy = nonnegative (r.dy -ℤ e.top) in
    let dx = nonnegative (r.dx -ℤ e.left) in
    let dy-is = nonnegative_is (r.dy -ℤ e.top) in
    let dx-is = nonnegative_is (r.dx -ℤ e.left) in
    let across = nonnegative_is (e.right -ℤ e.left) in
    let down = nonnegative_is (e.bottom -ℤ e.top) in
    let rows : dy + tile_height ≤ high = omega (arith, ints, dy-is, down, high-is, inside.top, inside.bottom) in
    let columns : dx + (r.count - 1) + tile_width ≤ wide = omega (arith, ints, dx-is, across, wide-is, inside.left, inside.right, inside.run.some) in
    let most = mul-le-mul_left wide rows in
    let one : (tile_height - 1) * wide + wide ≡ tile_height * wide = one_less tile_height wide some in
    omega (arith, most, columns, one)

pub all_room : (tile_width tile_height wide high count cells : ℕ) (e : Extent) (runs : List Run) → 0 < tile_height → wide ≡ tile_width + nonnegative (e.right -ℤ e.left) → high ≡ tile_height + nonnegative (e.bottom -ℤ e.top)
    → count ≡ (tile_height - 1) * wide + tile_width → cells ≡ high * wide → AllByRecursion (RunIsInside e) runs → AllByRecursion (RunHasRoom e wide count cells) runs
all_room tile_width tile_height wide high count cells e runs some wide-is high-is count-is cells-is all =
    all-weaker (RunIsInside e) (RunHasRoom e wide count cells) runs (λ r inside. record { inside = inside; room = rw (count-is, cells-is) (run_room tile_width tile_height wide high e some wide-is high-is r inside) }) all

-- with as many cells more there is room for as many places more
pub more_room : (e : Extent) (wide count cells more : ℕ) (runs : List Run) → AllByRecursion (RunHasRoom e wide count cells) runs → AllByRecursion (RunHasRoom e wide (count + more) (cells + more)) runs
more_room e wide count cells more runs all =
    all-weaker (RunHasRoom e wide count cells) (RunHasRoom e wide (count + more) (cells + more)) runs (λ r room. record { inside = room.inside; room = let fits = room.room in omega arith }) all

-- what a run sees, place by place
seen_run : {A : Type 0} (f : A → A → A) → IsExtremum f → (n : A) (sight : Sight A) (r : Run) (x y : ℕ) → 0 < r.count
    → fold f n (seen_under sight (run_offsets r) x y) ≡ over f (λ i. merge_at f n (sight (pos x +ℤ (r.dx +ℤ pos i)) (pos y +ℤ r.dy))) 0 (r.count - 1)
seen_run f laws n sight r x y some =
    let look = λ (b : Offset). sight (pos x +ℤ b.dx) (pos y +ℤ b.dy) in
    let place = λ (i : ℕ). let b : Offset = record { dx = r.dx +ℤ pos i; dy = r.dy } in b in
    let whole : r.count ≡ suc (r.count - 1) = omega arith in
    ap (fold f n) (filter_map-flat look (run_offsets r) ∙ flat_map-map (λ (b : Offset). those (look b)) place (range_with_len 0 r.count))
    ∙ ap (λ (t : ℕ). fold f n (flat_map (λ i. those (look (place i))) (range_with_len 0 t))) whole
    ∙ fold_flat f laws n (λ i. those (look (place i))) 0 (r.count - 1)
    ∙ over_same f (λ i. fold f n (those (look (place i)))) (λ i. merge_at f n (look (place i))) 0 (r.count - 1) (λ i from to. fold_those f n (look (place i)))

-- the extremum of a run's samples, as the rows have them
run_looked : {A : Type 0} (f : A → A → A) (look : Option A → A) (n : A) (w : View A) (tile : Rect) (e : Extent) (wide high : ℕ) (column row : ℤ) (cells : List A) → IsLaidBy look n w tile e wide high column row cells
    → (r : Run) → RunIsInside e r → (x y : ℕ) → x < tile.width → y < tile.height
    → strided f cells n 1 (r.count - 1) (start_of e wide r + (y * wide + x)) ≡ over f (λ i. look (seen_at w (pos (tile.x + x) +ℤ (r.dx +ℤ pos i)) (pos (tile.y + y) +ℤ r.dy))) 0 (r.count - 1)
run_looked f look n w tile e wide high column row cells laid r inside x y less row_less =
    let dy = nonnegative (r.dy -ℤ e.top) in
    let dx = nonnegative (r.dx -ℤ e.left) in
    let dy-is = nonnegative_is (r.dy -ℤ e.top) in
    let dx-is = nonnegative_is (r.dx -ℤ e.left) in
    let across = nonnegative_is (e.right -ℤ e.left) in
    let down = nonnegative_is (e.bottom -ℤ e.top) in
    let rows : y + dy < high = omega (arith, ints, dy-is, down, laid.high_is, inside.top, inside.bottom) in
    let columns : x + dx + (r.count - 1) < wide = omega (arith, ints, dx-is, across, laid.wide_is, inside.left, inside.right, inside.run.some) in
    let start = start_of e wide r + (y * wide + x) in
    let at = λ (p q : ℤ). look (cell_at (raster w.place.width w.place.height w.cells) p q) in
    over_strided f cells n 1 start 0 (r.count - 1) start (omega arith)
    ∙ over_same f (λ i. get_or cells (start + i * 1) n) (λ i. at (pos (tile.x + x) +ℤ (r.dx +ℤ pos i) -ℤ pos w.place.x) (pos (tile.y + y) +ℤ r.dy -ℤ pos w.place.y)) 0 (r.count - 1) (λ i from to.
    let here : start + i * 1 ≡ (y + dy) * wide + (x + dx + i) = omega arith in
    let same_column : column +ℤ pos (x + dx + i) ≡ pos (tile.x + x) +ℤ (r.dx +ℤ pos i) -ℤ pos w.place.x = omega (arith, ints, laid.column_is, dx-is, inside.left) in
    let same_row : row +ℤ pos (y + dy) ≡ pos (tile.y + y) +ℤ r.dy -ℤ pos w.place.y = omega (arith, ints, laid.row_is, dy-is, inside.top) in
    ap (λ (t : ℕ). get_or cells t n) here
    ∙ laid.cells_are (x + dx + i) (y + dy) (omega arith) rows
    ∙ ap (λ (t : ℤ). at t (row +ℤ pos (y + dy))) same_column
    ∙ ap (at (pos (tile.x + x) +ℤ (r.dx +ℤ pos i) -ℤ pos w.place.x)) same_row)

-- the value of a run, where each cell is merged with n
run_value : {A : Type 0} (f : A → A → A) → IsExtremum f → (n : A) (w : View A) (tile : Rect) (e : Extent) (wide high : ℕ) (column row : ℤ) (cells : List A) → IsLaid f n w tile e wide high column row cells
    → (x y : ℕ) → x < tile.width → y < tile.height → (r : Run) → RunIsInside e r
    → strided f cells n 1 (r.count - 1) (start_of e wide r + (y * wide + x)) ≡ fold f n (seen_under (seen_at w) (run_offsets r) (tile.x + x) (tile.y + y))
run_value f laws n w tile e wide high column row cells laid x y less row_less r inside =
    run_looked f (merge_at f n) n w tile e wide high column row cells laid r inside x y less row_less ∙ sym (seen_run f laws n (seen_at w) r (tile.x + x) (tile.y + y) inside.run.some)

-- the value of a run, where each cell is a sample or n
run_spread : {A : Type 0} (f : A → A → A) → IsExtremum f → (n : A) (w : View A) (tile : Rect) (e : Extent) (wide high : ℕ) (column row : ℤ) (cells : List A) → IsLaidBy (λ o. unwrap_or o n) n w tile e wide high column row cells
    → (x y : ℕ) → x < tile.width → y < tile.height → (r : Run) → RunIsInside e r
    → f n (strided f cells n 1 (r.count - 1) (start_of e wide r + (y * wide + x))) ≡ fold f n (seen_under (seen_at w) (run_offsets r) (tile.x + x) (tile.y + y))
run_spread f laws n w tile e wide high column row cells laid x y less row_less r inside =
    let sight = λ (i : ℕ). seen_at w (pos (tile.x + x) +ℤ (r.dx +ℤ pos i)) (pos (tile.y + y) +ℤ r.dy) in
    ap (f n) (run_looked f (λ o. unwrap_or o n) n w tile e wide high column row cells laid r inside x y less row_less)
    ∙ over_out f laws n (λ i. unwrap_or (sight i) n) 0 (r.count - 1)
    ∙ over_same f (λ i. f n (unwrap_or (sight i) n)) (λ i. merge_at f n (sight i)) 0 (r.count - 1) (λ i from to. merged_or f laws n (sight i))
    ∙ sym (seen_run f laws n (seen_at w) r (tile.x + x) (tile.y + y) inside.run.some)

-- what all runs see, if each sees its part
gather_seen_by : {A : Type 0} (f : A → A → A) → IsExtremum f → (n : A) (sight : Sight A) (e : Extent) (x y : ℕ) (value : Run → A)
    → ((r : Run) → RunIsInside e r → value r ≡ fold f n (seen_under sight (run_offsets r) x y))
    → (runs : List Run) → AllByRecursion (RunIsInside e) runs → gather f n value runs ≡ fold f n (seen_under sight (flat_map run_offsets runs) x y)
gather_seen_by f laws n sight e x y value is [] all = refl
gather_seen_by f laws n sight e x y value is (r ∷ rs) all =
    let look = λ (b : Offset). sight (pos x +ℤ b.dx) (pos y +ℤ b.dy) in
    ap (λ (t : _). f t (gather f n value rs)) (is r all.0)
    ∙ ap (f (fold f n (filter_map look (run_offsets r)))) (gather_seen_by f laws n sight e x y value is rs all.1)
    ∙ fold_both f laws n (filter_map look (run_offsets r)) (filter_map look (flat_map run_offsets rs))
    ∙ ap (fold f n) (sym (filter_map-append look (run_offsets r) (flat_map run_offsets rs)))

-- n is part of all that is gathered
gather_keeps : {A : Type 0} (f : A → A → A) → IsExtremum f → (n : A) (value : Run → A) (runs : List Run) → f n (gather f n value runs) ≡ gather f n value runs
gather_keeps f laws n value [] = laws.is_idempotent n
gather_keeps f laws n value (r ∷ rs) =
    let rest = gather f n value rs in
    sym (laws.associates n (value r) rest)
    ∙ ap (λ (t : _). f t rest) (laws.commutes n (value r))
    ∙ laws.associates (value r) n rest
    ∙ ap (f (value r)) (gather_keeps f laws n value rs)

gather_merged : {A : Type 0} (f : A → A → A) → IsExtremum f → (n : A) (value : Run → A) (runs : List Run) → gather f n value runs ≡ gather f n (λ r. f n (value r)) runs
gather_merged f laws n value [] = refl
gather_merged f laws n value (r ∷ rs) =
    let rest = gather f n value rs in
    ap (f (value r)) (sym (gather_keeps f laws n value rs))
    ∙ sym (laws.associates (value r) n rest)
    ∙ ap (λ (t : _). f t rest) (laws.commutes (value r) n)
    ∙ ap (f (f n (value r))) (gather_merged f laws n value rs)

-- what all runs see, where each cell is merged with n
pub gather_seen : {A : Type 0} (f : A → A → A) → IsExtremum f → (n : A) (w : View A) (tile : Rect) (e : Extent) (wide high : ℕ) (column row : ℤ) (cells : List A) → IsLaid f n w tile e wide high column row cells
    → (runs : List Run) → AllByRecursion (RunIsInside e) runs → (x y : ℕ) → x < tile.width → y < tile.height
    → gather f n (λ r. strided f cells n 1 (r.count - 1) (start_of e wide r + (y * wide + x))) runs ≡ fold f n (seen_under (seen_at w) (flat_map run_offsets runs) (tile.x + x) (tile.y + y))
gather_seen f laws n w tile e wide high column row cells laid runs all x y less row_less =
    gather_seen_by f laws n (seen_at w) e (tile.x + x) (tile.y + y) (λ r. strided f cells n 1 (r.count - 1) (start_of e wide r + (y * wide + x))) (run_value f laws n w tile e wide high column row cells laid x y less row_less) runs all

-- what all runs see, where each cell is a sample or n
pub gather_spread : {A : Type 0} (f : A → A → A) → IsExtremum f → (n : A) (w : View A) (tile : Rect) (e : Extent) (wide high : ℕ) (column row : ℤ) (cells : List A) → IsLaidBy (λ o. unwrap_or o n) n w tile e wide high column row cells
    → (runs : List Run) → AllByRecursion (RunIsInside e) runs → (x y : ℕ) → x < tile.width → y < tile.height
    → gather f n (λ r. strided f cells n 1 (r.count - 1) (start_of e wide r + (y * wide + x))) runs ≡ fold f n (seen_under (seen_at w) (flat_map run_offsets runs) (tile.x + x) (tile.y + y))
gather_spread f laws n w tile e wide high column row cells laid runs all x y less row_less =
    let value = λ (r : Run). strided f cells n 1 (r.count - 1) (start_of e wide r + (y * wide + x)) in
    gather_merged f laws n value runs
    ∙ gather_seen_by f laws n (seen_at w) e (tile.x + x) (tile.y + y) (λ r. f n (value r)) (run_spread f laws n w tile e wide high column row cells laid x y less row_less) runs all
