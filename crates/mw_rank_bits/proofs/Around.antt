-- What the bits around a tile say of the pixels that an element sees.
use Rattle.std.proofs.Common.{◌≡◌, ℕ, ◌+◌, ◌-◌, ◌*◌, ◌/◌, ◌%◌, ◌^◌, ◌<◌, ◌≤◌, min, cond, List, [], ◌∷◌, length, map, get_or, sum_by, Option, Some, None, ℤ, pos, ◌+ℤ◌, ◌-ℤ◌, refl, ap, sym, arith, ◌∙◌, inl, inr}
use Rattle.std.specs.Prelude.{nat_lt}
use Rattle.std.specs.List.{AllByRecursion}
use Rattle.std.proofs.Math.Nat.{mul-le-mul_right}
use Rattle.std.proofs.lemmas.Bool.{cases_lt, lt-ltb, le-ltb}
use Rattle.std.proofs.lemmas.Int.{ints}
use Rattle.std.proofs.lemmas.List.Sums.{sum_by-cons}
use Rattle.std.proofs.lemmas.Nat.{div-mul-add, mod-mul-add}
use Rattle.mw_model.proofs.mw_facts.Alls.{all-get_or}
use Rattle.mw_model.specs.declared.offsets.Offset.{Offset}
use Rattle.mw_model.specs.declared.offsets.Rect.{Rect}
use Rattle.mw_model.specs.Rectangles.{nonnegative}
use Rattle.mw_model.proofs.Nonnegative.{nonnegative_is}
use Rattle.mw_model.specs.Rasters.{raster, cell_at}
use Rattle.mw_model.specs.Windows.{View, seen_at}
use Rattle.mw_bits.specs.mw_lane.Shifted.{merge_at}
use Rattle.mw_bits.specs.mw_pixel_words.Packed.{bit_of}
use Rattle.mw_bits.specs.mw_element_runs.declared.runs.Run.{Run}
use Rattle.mw_bits.specs.mw_element_runs.declared.runs.Extent.{Extent}
use Rattle.mw_bits.specs.mw_element_runs.Runs.{start_of, RunIsInside, IsRun}
use Rattle.mw_bits.specs.Layouts.{ExtentIsNear}
use Rattle.mw_rank_bits.specs.Elements.{single_run, lack_at, lacks_under}
use Rattle.mw_rank_bits.specs.Moves.{place_in}
use Rattle.mw_rank_bits.specs.Numbers.{bits_at}
use Rattle.mw_rank_bits.specs.Walks.{AreMoves, WordsHaveRoom}

pub sum_mapped : {A : Type 0} (f : ℕ → ℕ) (g : A → ℕ) (xs : List A) → sum_by f (map g xs) ≡ sum_by (λ x. f (g x)) xs
sum_mapped f g [] = refl
sum_mapped f g (x ∷ xs) = sum_by-cons f (g x) (map g xs) ∙ ap (λ (t : ℕ). f (g x) + t) (sum_mapped f g xs) ∙ sym (sum_by-cons (λ y. f (g y)) x xs)

pub sums_all : {A : Type 0} (P : A → Type 0) (f g : A → ℕ) (xs : List A) → ((x : A) → P x → f x ≡ g x) → AllByRecursion P xs → sum_by f xs ≡ sum_by g xs
sums_all P f g [] same all = refl
sums_all P f g (x ∷ xs) same all =
    sum_by-cons f x xs ∙ ap (λ (t : ℕ). t + sum_by f xs) (same x all.0) ∙ ap (λ (t : ℕ). g x + t) (sums_all P f g xs same all.1) ∙ sym (sum_by-cons g x xs)

pub all_mapped : {A : Type 0} (P : A → Type 0) (Q : ℕ → Type 0) (g : A → ℕ) (xs : List A) → ((x : A) → P x → Q (g x)) → AllByRecursion P xs → AllByRecursion Q (map g xs)
all_mapped P Q g [] each all = tt
all_mapped P Q g (x ∷ xs) each all = (each x all.0, all_mapped P Q g xs each all.1)

pub single_runs_are : (offsets : List Offset) → AllByRecursion IsRun (map single_run offsets)
single_runs_are [] = tt
single_runs_are (b ∷ bs) = (record { some = omega arith; few = omega arith }, single_runs_are bs)

-- where a run begins in rows of an extent
pub record Stands (e : Extent) (r : Run) (down across : ℕ) : Type 0 where
  pub down_is : nonnegative (r.dy -ℤ e.top) ≡ down
  pub across_is : nonnegative (r.dx -ℤ e.left) ≡ across
  pub row : down ≤ nonnegative (e.bottom -ℤ e.top)
  pub column : across ≤ nonnegative (e.right -ℤ e.left)

pub run_stands : (e : Extent) (r : Run) → RunIsInside e r → Stands e r (nonnegative (r.dy -ℤ e.top)) (nonnegative (r.dx -ℤ e.left))
run_stands e r inside =
    let dy-is = nonnegative_is (r.dy -ℤ e.top) in
    let dx-is = nonnegative_is (r.dx -ℤ e.left) in
    let across = nonnegative_is (e.right -ℤ e.left) in
    let down = nonnegative_is (e.bottom -ℤ e.top) in
    record {
      down_is = refl;
      across_is = refl;
      row = omega (arith, ints, dy-is, down, inside.top, inside.bottom);
      column = omega (arith, ints, dx-is, across, inside.left, inside.right, inside.run.some);
    }

-- a place of rows of an extent's columns is a place of wider rows
pub placed : (e : Extent) (columns wide : ℕ) (r : Run) → RunIsInside e r → columns ≡ nonnegative (e.right -ℤ e.left) + 1 → place_in columns wide (start_of e columns r) ≡ start_of e wide r
placed e columns wide r inside columns-is =
    let stands = run_stands e r inside in
    let down = nonnegative (r.dy -ℤ e.top) in
    let across = nonnegative (r.dx -ℤ e.left) in
    let lt : across < columns = omega (arith, stands.column, columns-is) in
    ap (λ (t : ℕ). t * wide + start_of e columns r % columns) (div-mul-add down columns across lt) ∙ ap (λ (t : ℕ). down * wide + t) (mod-mul-add down columns across lt)

pub start_below : (e : Extent) (wide rows columns : ℕ) (r : Run) → RunIsInside e r → rows ≡ nonnegative (e.bottom -ℤ e.top) → columns ≡ nonnegative (e.right -ℤ e.left) → start_of e wide r < rows * wide + (columns + 1)
start_below e wide rows columns r inside rows-is columns-is =
    let stands = run_stands e r inside in
    let down : nonnegative (r.dy -ℤ e.top) ≤ rows = omega (arith, stands.row, rows-is) in
    let most = mul-le-mul_right wide down in
    omega (arith, most, stands.column, columns-is)

pub near_few : (e : Extent) → ExtentIsNear e → (nonnegative (e.bottom -ℤ e.top) ≤ 1023) × (nonnegative (e.right -ℤ e.left) ≤ 1023)
near_few e near =
    let down = nonnegative_is (e.bottom -ℤ e.top) in
    let across = nonnegative_is (e.right -ℤ e.left) in
    let rows = near.rows.few in
    let columns = near.columns.few in
    let up = near.rows.ordered in
    let on = near.columns.ordered in
    (omega (arith, ints, down, rows, up), omega (arith, ints, across, columns, on))

pub start_fits : (e : Extent) (wide : ℕ) (r : Run) → RunIsInside e r → ExtentIsNear e → wide ≤ 2 ^ 40 → start_of e wide r < 2 ^ 64
start_fits e wide r inside near narrow =
    let few = near_few e near in
    let below = start_below e wide (nonnegative (e.bottom -ℤ e.top)) (nonnegative (e.right -ℤ e.left)) r inside refl refl in
    let most = mul-le-mul_right wide few.0 in
    omega (arith, below, most, few.1)

-- the places of runs are what an element sees, and change as the code has counted
pub moves_are : (e : Extent) (columns wide : ℕ) (runs : List Run) (seen places entered left : List ℕ) → AllByRecursion (RunIsInside e) runs → columns ≡ nonnegative (e.right -ℤ e.left) + 1
    → seen ≡ map (start_of e wide) runs → places ≡ map (start_of e columns) runs
    → ((f : ℕ → ℕ) → sum_by f entered + sum_by (λ t. f (place_in columns wide t)) places ≡ sum_by f left + sum_by (λ t. f (place_in columns wide t + wide)) places)
    → ((f : ℕ → ℕ) → sum_by f left ≤ sum_by (λ t. f (place_in columns wide t)) places) → AreMoves wide seen entered left
moves_are e columns wide runs seen places entered left all columns-is seen-is places-is balance part =
    let same : (f : ℕ → ℕ) → sum_by (λ t. f (place_in columns wide t)) places ≡ sum_by f seen =
    λ f.
    ap (sum_by (λ t. f (place_in columns wide t))) places-is
    ∙ sum_mapped (λ t. f (place_in columns wide t)) (start_of e columns) runs
    ∙ sums_all (RunIsInside e) (λ r. f (place_in columns wide (start_of e columns r))) (λ r. f (start_of e wide r)) runs (λ r inside. ap f (placed e columns wide r inside columns-is)) all
    ∙ sym (sum_mapped f (start_of e wide) runs)
    ∙ ap (sum_by f) (sym seen-is) in
    record {
      balance = λ f. let here = same f in let below = same (λ s. f (s + wide)) in let e = balance f in omega arith;
      part = λ f. let here = same f in let e = part f in omega arith;
    }

-- places below a limit can be read, where all below it can
pub limit_room : (cells places : List ℕ) (limit at : ℕ) → ((s : ℕ) → s < limit → s / 64 + at + 3 ≤ length cells) → AllByRecursion (λ (s : ℕ). s < limit) places → WordsHaveRoom cells places at
limit_room cells places limit at each all = λ k lt. each (get_or places k 0) (all-get_or (λ (s : ℕ). s < limit) places k 0 lt all)

-- a bit that was turned round
lack_merged : (o : Option ℕ) → 1 - merge_at min 1 o ≡ lack_at o
lack_merged None = refl
lack_merged (Some s) = omega arith

-- the bits around a tile are the pixels that are not of the set
pub record HasLacks (w : View ℕ) (tile : Rect) (e : Extent) (wide high : ℕ) (column row : ℤ) (cells : List ℕ) : Type 0 where
  pub column_is : column ≡ pos tile.x +ℤ e.left -ℤ pos w.place.x
  pub row_is : row ≡ pos tile.y +ℤ e.top -ℤ pos w.place.y
  pub high_is : high ≡ tile.height + nonnegative (e.bottom -ℤ e.top)
  pub cells_are : (x y : ℕ) → x < 64 * wide → y < high → bit_of cells (y * (64 * wide) + x) ≡ 1 - merge_at min 1 (cell_at (raster w.place.width w.place.height w.cells) (column +ℤ pos x) (row +ℤ pos y))

run_lack : (w : View ℕ) (tile : Rect) (e : Extent) (wide high : ℕ) (column row : ℤ) (cells : List ℕ) (x y : ℕ) → HasLacks w tile e wide high column row cells → x + nonnegative (e.right -ℤ e.left) < 64 * wide → y < tile.height → (r : Run) → RunIsInside e r
    → bit_of cells (start_of e (64 * wide) r + (y * (64 * wide) + x)) ≡ lack_at (seen_at w (pos (tile.x + x) +ℤ r.dx) (pos (tile.y + y) +ℤ r.dy))
run_lack w tile e wide high column row cells x y laid fits down r inside =
    let stands = run_stands e r inside in
    let dy = nonnegative (r.dy -ℤ e.top) in
    let dx = nonnegative (r.dx -ℤ e.left) in
    let dy-is = nonnegative_is (r.dy -ℤ e.top) in
    let dx-is = nonnegative_is (r.dx -ℤ e.left) in
    let at = λ (p q : ℤ). 1 - merge_at min 1 (cell_at (raster w.place.width w.place.height w.cells) p q) in
    let here : start_of e (64 * wide) r + (y * (64 * wide) + x) ≡ (y + dy) * (64 * wide) + (x + dx) = omega arith in
    let same_column : column +ℤ pos (x + dx) ≡ pos (tile.x + x) +ℤ r.dx -ℤ pos w.place.x = omega (arith, ints, laid.column_is, dx-is, inside.left) in
    let same_row : row +ℤ pos (y + dy) ≡ pos (tile.y + y) +ℤ r.dy -ℤ pos w.place.y = omega (arith, ints, laid.row_is, dy-is, inside.top) in
    ap (bit_of cells) here
    ∙ laid.cells_are (x + dx) (y + dy) (omega (arith, stands.column)) (omega (arith, stands.row, laid.high_is))
    ∙ ap (λ (t : ℤ). at t (row +ℤ pos (y + dy))) same_column
    ∙ ap (at (pos (tile.x + x) +ℤ r.dx -ℤ pos w.place.x)) same_row
    ∙ lack_merged (seen_at w (pos (tile.x + x) +ℤ r.dx) (pos (tile.y + y) +ℤ r.dy))

pub runs_lack : (w : View ℕ) (tile : Rect) (e : Extent) (wide high : ℕ) (column row : ℤ) (cells seen : List ℕ) (runs : List Run) (x y : ℕ) → HasLacks w tile e wide high column row cells → x + nonnegative (e.right -ℤ e.left) < 64 * wide → y < tile.height
    → seen ≡ map (start_of e (64 * wide)) runs → AllByRecursion (RunIsInside e) runs → bits_at cells seen (y * (64 * wide) + x) ≡ lacks_under (seen_at w) runs (tile.x + x) (tile.y + y)
runs_lack w tile e wide high column row cells seen runs x y laid fits down seen-is all =
    let q = y * (64 * wide) + x in
    ap (λ (t : List ℕ). bits_at cells t q) seen-is
    ∙ sum_mapped (λ (s : ℕ). bit_of cells (s + q)) (start_of e (64 * wide)) runs
    ∙ sums_all (RunIsInside e) (λ (r : Run). bit_of cells (start_of e (64 * wide) r + q)) (λ (r : Run). lack_at (seen_at w (pos (tile.x + x) +ℤ r.dx) (pos (tile.y + y) +ℤ r.dy))) runs (run_lack w tile e wide high column row cells x y laid fits down) all

-- fewer than a number, by a counter that started so much below its half
pub few_are : (half start number z : ℕ) → start ≡ half - number → number ≤ half → ◌≡◌ {A = ℕ} (cond (nat_lt (start + z) half) 1 0) (cond (nat_lt z number) 1 0)
few_are half start number z start-is le = elim (cases_lt z number) [
  | inl lt ↦ let less : start + z < half = omega arith in rw (lt-ltb (start + z) half less, lt-ltb z number lt) refl
  | inr ge ↦ let more : half ≤ start + z = omega arith in rw (le-ltb (start + z) half more, le-ltb z number ge) refl
]

-- places of the first rows of the bits around a tile can be read from each row of the tile from which so many rows are there
pub rows_room : (s rows y high wide pairs columns size : ℕ) → s < rows * (64 * wide) + (columns + 1) → wide ≡ 2 * pairs + columns / 64 + 1 → 0 < pairs → rows + y + 1 ≤ high → size ≡ high * wide + 1 → s / 64 + (y * wide + (2 * pairs - 2)) + 3 ≤ size
rows_room s rows y high wide pairs columns size lt wide-is some fits size-is =
    let down = mul-le-mul_right wide fits in
    let word : s / 64 ≤ rows * wide + columns / 64 = omega arith in
    omega (arith, down, word, wide-is, size-is)
