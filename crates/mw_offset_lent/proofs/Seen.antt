-- What is seen under offsets, as the cells have it that are laid out.
use Rattle.std.proofs.Common.{◌≡◌, ℕ, ◌+◌, ◌*◌, ◌<◌, ◌≤◌, ℤ, pos, ◌+ℤ◌, ◌-ℤ◌, List, [], ◌∷◌, Option, Some, None, get_or, fold, map, refl, ap, arith, ◌∙◌}
use Rattle.std.specs.Option.{unwrap_or}
use Rattle.std.specs.List.{filter_map, cons_option, AllByRecursion}
use Rattle.std.proofs.lemmas.Int.{ints}
use Rattle.mw_model.specs.declared.offsets.Offset.{Offset}
use Rattle.mw_model.specs.Rectangles.{nonnegative}
use Rattle.mw_model.specs.Rasters.{raster, cell_at, seen_under}
use Rattle.mw_model.specs.Windows.{View, seen_at}
use Rattle.mw_model.proofs.Nonnegative.{nonnegative_is}
use Rattle.mw_line.specs.Cells.{spread_cell}
use Rattle.mw_line.proofs.Folds.{IsExtremum}
use Rattle.mw_offset_lent.specs.declared.places.Around.{Around}
use Rattle.mw_offset_lent.specs.Offsets.{LeadsWithin, place_among}
use Rattle.mw_offset_lent.specs.Places.{merged_at}
use Rattle.mw_offset_lent.proofs.Merges.{below_left, below_trans}

-- one offset more, which sees a cell or none
seen_more : {A : Type 0} (f : A → A → A) → IsExtremum f → (n best c : A) (o : Option A) (rest : List A) (merged : A → A) → c ≡ unwrap_or o n → f best n ≡ best → ((b : A) → f b n ≡ b → merged b ≡ fold f b rest) → merged (f best c) ≡ fold f best (cons_option o rest)
seen_more f laws n best c None rest merged c-is low is = ap (λ (t : _). merged (f best t)) c-is ∙ ap merged low ∙ is best low
seen_more f laws n best c (Some v) rest merged c-is low is =
    ap (λ (t : _). merged (f best t)) c-is ∙ is (f best v) (below_trans f laws (f best v) best n (below_left f laws best v) low)

-- rows of cells from a column and row of a view on, as far around results as offsets lead, of which some columns are the view's
pub record IsAround {A : Type 0} (n : A) (w : View A) (first top : ℕ) (a : Around) (column row : ℤ) (wide from to high y : ℕ) (cells : List A) : Type 0 where
  pub column_is : column ≡ pos first -ℤ pos a.across -ℤ pos w.place.x
  pub row_is : row ≡ pos (top + y) -ℤ pos a.down -ℤ pos w.place.y
  pub cells_are : (p q : ℕ) → from ≤ p → p < to → q < high + 2 * a.down → get_or cells (q * wide + p) n ≡ spread_cell n w column row p q

cell_seen : {A : Type 0} (n : A) (w : View A) (first top : ℕ) (a : Around) (column row : ℤ) (wide from to high y : ℕ) (cells : List A) → IsAround n w first top a column row wide from to high y cells
    → (x r : ℕ) → from ≤ x → x + 2 * a.across < to → r < high → (b : Offset) → LeadsWithin a.across a.down b → get_or cells (place_among a wide b + (r * wide + x)) n ≡ unwrap_or (seen_at w (pos (first + x) +ℤ b.dx) (pos (top + (y + r)) +ℤ b.dy)) n
cell_seen n w first top a column row wide from to high y cells laid x r late early row_less b within =
    let dy = nonnegative (b.dy +ℤ pos a.down) in
    let dx = nonnegative (b.dx +ℤ pos a.across) in
    let dy-is = nonnegative_is (b.dy +ℤ pos a.down) in
    let dx-is = nonnegative_is (b.dx +ℤ pos a.across) in
    let at = λ (p q : ℤ). unwrap_or (cell_at (raster w.place.width w.place.height w.cells) p q) n in
    let here : place_among a wide b + (r * wide + x) ≡ (r + dy) * wide + (x + dx) = omega arith in
    let same_column : column +ℤ pos (x + dx) ≡ pos (first + x) +ℤ b.dx -ℤ pos w.place.x = omega (arith, ints, laid.column_is, dx-is, within.left) in
    let same_row : row +ℤ pos (r + dy) ≡ pos (top + (y + r)) +ℤ b.dy -ℤ pos w.place.y = omega (arith, ints, laid.row_is, dy-is, within.up) in
    ap (λ (t : ℕ). get_or cells t n) here
    ∙ laid.cells_are (x + dx) (r + dy) (omega (arith, late)) (omega (arith, ints, early, dx-is, within.right, within.left)) (omega (arith, ints, dy-is, within.down, within.up))
    ∙ ap (λ (t : ℤ). at t (row +ℤ pos (r + dy))) same_column
    ∙ ap (at (pos (first + x) +ℤ b.dx -ℤ pos w.place.x)) same_row

-- what is merged at the places of offsets is what they see
pub all_seen : {A : Type 0} (f : A → A → A) → IsExtremum f → (n : A) (w : View A) (first top : ℕ) (a : Around) (column row : ℤ) (wide from to high y : ℕ) (cells : List A) → IsAround n w first top a column row wide from to high y cells
    → (x r : ℕ) → from ≤ x → x + 2 * a.across < to → r < high → (offsets : List Offset) → AllByRecursion (LeadsWithin a.across a.down) offsets → (best : A) → f best n ≡ best
    → merged_at f cells n (r * wide + x) best (map (place_among a wide) offsets) ≡ fold f best (seen_under (seen_at w) offsets (first + x) (top + (y + r)))
all_seen f laws n w first top a column row wide from to high y cells laid x r late early row_less [] all best low = refl
all_seen f laws n w first top a column row wide from to high y cells laid x r late early row_less (b ∷ bs) all best low =
    let sight = λ (o : Offset). seen_at w (pos (first + x) +ℤ o.dx) (pos (top + (y + r)) +ℤ o.dy) in
    seen_more f laws n best (get_or cells (place_among a wide b + (r * wide + x)) n) (sight b) (filter_map sight bs) (λ (t : _). merged_at f cells n (r * wide + x) t (map (place_among a wide) bs))
    (cell_seen n w first top a column row wide from to high y cells laid x r late early row_less b all.0) low (λ t low_t. all_seen f laws n w first top a column row wide from to high y cells laid x r late early row_less bs all.1 t low_t)
