-- Cells that are read where they stand.
use Rattle.std.proofs.Common.{◌≡◌, ℕ, ◌+◌, ◌-◌, ◌*◌, ◌<◌, ◌≤◌, ℤ, pos, ◌+ℤ◌, List, Option, length, drop, get_or, ap, sym, arith, ◌∙◌, length-drop}
use Rattle.std.specs.List.{AllByRecursion}
use Rattle.std.specs.Option.{unwrap_or}
use Rattle.std.proofs.lemmas.Int.{ints}
use Rattle.std.proofs.lemmas.List.{get_or-drop}
use Rattle.mw_model.specs.declared.offsets.Rect.{Rect}
use Rattle.mw_model.specs.Rasters.{raster, cell_at}
use Rattle.mw_model.specs.Windows.{View}
use Rattle.mw_model.proofs.mw_facts.Alls.{all-weaker}
use Rattle.mw_line.specs.Cells.{spread_cell}
use Rattle.mw_offset_lent.specs.declared.work.Strip.{Strip}
use Rattle.mw_offset_lent.specs.declared.work.Work.{Work}
use Rattle.mw_offset_lent.specs.Layouts.{IsWorkFor, StandsInLines}
use Rattle.mw_offset_lent.proofs.Layouts.{cell_inside}
use Rattle.mw_offset_lent.proofs.Puts.{rows_le}

-- cells from a place on, which begin in this row of the view and as many columns before this one as offsets lead
pub record IsFrom {A : Type 0} (w : View A) (k : Work) (s : Strip) (from first ahead : ℕ) : Type 0 where
  pub row_is : pos first ≡ k.laid.row +ℤ pos s.y
  pub column_is : k.laid.column +ℤ pos k.laid.around.across ≡ pos ahead
  pub from_is : from + k.laid.around.across ≡ first * k.inner.wide + ahead
  pub inside : ahead + k.inner.width ≤ k.inner.wide
  pub few : k.laid.around.across ≤ k.inner.wide
  pub below : first + s.high + 2 * k.laid.around.down + 1 ≤ w.place.height

pub is_from : {A : Type 0} (lanes : ℕ) (w : View A) (k : Work) (s : Strip) (place : Rect) (from : ℕ) → IsWorkFor lanes w k → StandsInLines k s → place ≡ w.place
    → ((row : ℕ) → pos row ≡ k.laid.row +ℤ pos s.y → from + k.laid.around.across ≡ row * place.width + (k.laid.tile.x - place.x)) → IsFrom w k s from (k.laid.tile.y + s.y - (k.laid.around.down + w.place.y)) (k.laid.tile.x - w.place.x)
is_from lanes w k s place from work stands place-is from-is =
    let lines = work.lines stands.some in
    let first = k.laid.tile.y + s.y - (k.laid.around.down + w.place.y) in
    let row-is : pos first ≡ k.laid.row +ℤ pos s.y = omega (arith, ints, work.laid.row, stands.top) in
    let width : place.width ≡ k.inner.wide = ap (λ (t : Rect). t.width) place-is ∙ sym lines.wide in
    record {
      row_is = row-is;
      column_is = omega (arith, ints, work.laid.column, lines.left);
      from_is = from-is first row-is ∙ ap (λ (t : ℕ). first * t + (k.laid.tile.x - place.x)) width ∙ ap (λ (t : Rect). first * k.inner.wide + (k.laid.tile.x - t.x)) place-is;
      inside = omega (arith, lines.left, lines.right, lines.wide, lines.width);
      few = omega (arith, lines.across, lines.split.room, lines.split.within);
      below = omega (arith, ints, row-is, stands.bottom, lines.all);
    }

pub from_fits : {A : Type 0} (w : View A) (k : Work) (s : Strip) (from first ahead : ℕ) → IsFrom w k s from first ahead → k.inner.wide ≡ w.place.width → length w.cells ≡ w.place.height * w.place.width → from ≤ length w.cells
from_fits w k s from first ahead is wide-is size =
    let more = rows_le (first + 1) w.place.height k.inner.wide (omega (arith, is.below)) in
    omega (arith, more, next first k.inner.wide, is.from_is, is.inside, size, ap (λ (t : ℕ). w.place.height * t) wide-is)
  where
    next : (a m : ℕ) → (a + 1) * m ≡ a * m + m
    next a m = omega arith

pub from_size : {A : Type 0} (w : View A) (k : Work) (s : Strip) (from first ahead : ℕ) → IsFrom w k s from first ahead → k.inner.wide ≡ w.place.width → length w.cells ≡ w.place.height * w.place.width → from + length (drop from w.cells) ≡ w.place.height * k.inner.wide
from_size w k s from first ahead is wide-is size = omega (arith, from_fits w k s from first ahead is wide-is size, length-drop from w.cells, size, ap (λ (t : ℕ). w.place.height * t) wide-is)

-- where the last row of results ends, of cells from a place on
pub standing_end : (down across wide width ahead high row height from size : ℕ) → from + across ≡ row * wide + ahead → ahead + width ≤ wide → across ≤ wide → 0 < high → row + high + 2 * down + 1 ≤ height → from + size ≡ height * wide
    → 2 * down * wide + 2 * across + ((high - 1) * wide + width) ≤ size
standing_end down across wide width ahead high row height from size from-is inside few some below size-is =
    let k = high - 1 in
    let more = rows_le (row + k + 2 * down + 2) height wide (omega (arith, some, below)) in
    omega (arith, more, spread row k (2 * down) wide, from-is, inside, few, size-is)
  where
    spread : (a b c m : ℕ) → (a + b + c + 2) * m ≡ a * m + b * m + c * m + 2 * m
    spread a b c m = omega arith

pub standing_fit : (all : List ℕ) (down across wide width high size : ℕ) → 2 * down * wide + 2 * across + ((high - 1) * wide + width) ≤ size → AllByRecursion (λ p. p ≤ 2 * down * wide + 2 * across) all
    → AllByRecursion (λ p. p + ((high - 1) * wide + width) ≤ size) all
standing_fit all down across wide width high size ends near = all-weaker (λ p. p ≤ 2 * down * wide + 2 * across) (λ p. p + ((high - 1) * wide + width) ≤ size) all (λ p there. omega (arith, there, ends)) near

-- a cell from a place on, in a column and a row that the view has
pub standing_cell : {A : Type 0} (n : A) (w : View A) (column row : ℤ) (first ahead across from wide p q : ℕ) → length w.cells ≡ w.place.height * w.place.width → wide ≡ w.place.width → pos first ≡ row → column +ℤ pos across ≡ pos ahead → from + across ≡ first * wide + ahead
    → across ≤ p → ahead + p < wide + across → first + q < w.place.height → get_or (drop from w.cells) (q * wide + p) n ≡ spread_cell n w column row p q
standing_cell n w column row first ahead across from wide p q size wide-is row-is column-is from-is late early below =
    let c = ahead + (p - across) in
    let there : (first + q) * wide ≡ (first + q) * w.place.width = ap (λ (t : ℕ). (first + q) * t) wide-is in
    let here : from + (q * wide + p) ≡ (first + q) * w.place.width + c = omega (arith, late, from-is, spread first q wide, there) in
    let column-at : pos c ≡ column +ℤ pos p = omega (arith, ints, column-is, late) in
    let row-at : pos (first + q) ≡ row +ℤ pos q = omega (arith, ints, row-is) in
    get_or-drop from w.cells (q * wide + p) n
    ∙ ap (λ (t : ℕ). get_or w.cells t n) here
    ∙ sym (ap (λ (t : Option _). unwrap_or t n) (cell_inside w.place.width w.place.height w.cells c (first + q) n size (omega (arith, early, late, wide-is)) below))
    ∙ ap (λ (t : ℤ). unwrap_or (cell_at (raster w.place.width w.place.height w.cells) t (pos (first + q))) n) column-at
    ∙ ap (λ (t : ℤ). unwrap_or (cell_at (raster w.place.width w.place.height w.cells) (column +ℤ pos p) t) n) row-at
  where
    spread : (a b m : ℕ) → (a + b) * m ≡ a * m + b * m
    spread a b m = omega arith
