-- Cells of an edge, as what the view has there.
use Rattle.std.proofs.Common.{◌≡◌, ◌⊎◌, ℕ, ◌+◌, ◌-◌, ◌*◌, ◌<◌, ◌≤◌, ℤ, pos, ◌+ℤ◌, ◌-ℤ◌, List, Option, length, get_or, refl, ap, sym, arith, ◌∙◌, inl, inr}
use Rattle.std.specs.Option.{unwrap_or}
use Rattle.std.proofs.lemmas.Bool.{cases_lt, lt-ltb, le-ltb}
use Rattle.std.proofs.lemmas.Int.{ints}
use Rattle.mw_model.specs.Rasters.{raster, cell_at}
use Rattle.mw_model.specs.Windows.{View}
use Rattle.mw_line.specs.Cells.{spread_cell}
use Rattle.mw_line.proofs.Seen.{no_column_seen}
use Rattle.mw_offset_lent.specs.EdgeCells.{edge_cell}
use Rattle.mw_offset_lent.proofs.Layouts.{cell_inside}
use Rattle.mw_offset_lent.proofs.Puts.{rows_le}

pub edge_beside : {A : Type 0} (n : A) (samples : List A) (w from i : ℕ) → (i < w) ⊎ (3 * w ≤ i) → edge_cell n samples w from i ≡ n
edge_beside n samples w from i (inl before) = rw (lt-ltb i w before) refl
edge_beside n samples w from i (inr behind) =
    let le : w ≤ i = omega (arith, behind) in
    rw (le-ltb i w le, le-ltb i (3 * w) behind) refl

pub edge_between : {A : Type 0} (n : A) (samples : List A) (w from i : ℕ) → w ≤ i → i < 3 * w → edge_cell n samples w from i ≡ get_or samples (from + (i - w)) n
edge_between n samples w from i le lt = rw (le-ltb i w le, lt-ltb i (3 * w) lt) refl

-- where an edge's first result stands, from which column of samples on it is laid out, and how many cells come before what it sees
pub record IsEdge (lanes across stride from seen ahead : ℕ) : Type 0 where
  pub ahead_is : ahead + seen + across ≡ from + lanes
  pub side : ((from ≡ 0) × (seen ≡ 0)) ⊎ ((from + lanes ≡ stride) × (seen + 2 * lanes ≡ stride))
  pub few : across ≤ lanes
  pub wide : 4 * lanes ≤ stride

pub edge_seen : {A : Type 0} (n : A) (w : View A) (column row : ℤ) (lanes across stride from seen ahead first start p q : ℕ) → IsEdge lanes across stride from seen ahead → length w.cells ≡ w.place.height * w.place.width → stride ≡ w.place.width
    → pos first ≡ row → column ≡ pos from -ℤ pos across → start ≡ first * stride + seen → p < 2 * lanes + across → first + q < w.place.height → edge_cell n w.cells lanes (start + q * stride) (p + ahead) ≡ spread_cell n w column row p q
edge_seen n w column row lanes across stride from seen ahead first start p q edge size stride-is row-is column-is start-is early below =
    let i = p + ahead in
    let width = w.place.width in
    let height = w.place.height in
    let ahead-is = edge.ahead_is in
    let side = edge.side in
    let few = edge.few in
    let wide = edge.wide in
    elim (cases_lt (p + ahead) lanes) [
      | inl low ↦
          edge_beside n w.cells lanes (start + q * stride) (p + ahead) (inl low)
          ∙ ap (λ (t : Option _). unwrap_or t n) (sym (no_column_seen width height w.cells (column +ℤ pos p) (row +ℤ pos q) (inl (elim side [
            | inl left ↦ omega (arith, ints, low, left.0, left.1, ahead-is, column-is)
            | inr right ↦ absurd (omega (arith, low, right.0, right.1, ahead-is, few))
          ]))))
      | inr from_low ↦ elim (cases_lt (p + ahead) (3 * lanes)) [
        | inl within ↦
            let c = seen + (p + ahead - lanes) in
            let there : (first + q) * stride ≡ (first + q) * width = ap (λ (t : ℕ). (first + q) * t) stride-is in
            let here : start + q * stride + (p + ahead - lanes) ≡ (first + q) * width + c = omega (arith, start-is, spread first q stride, there) in
            let column-at : pos c ≡ column +ℤ pos p = omega (arith, ints, from_low, ahead-is, column-is) in
            let row-at : pos (first + q) ≡ row +ℤ pos q = omega (arith, ints, row-is) in
            let inside : c < width = elim side [
              | inl left ↦ omega (arith, within, from_low, left.1, wide, stride-is)
              | inr right ↦ omega (arith, within, from_low, right.1, stride-is)
            ] in
            edge_between n w.cells lanes (start + q * stride) (p + ahead) from_low within
            ∙ ap (λ (t : ℕ). get_or w.cells t n) here
            ∙ sym (ap (λ (t : Option _). unwrap_or t n) (cell_inside width height w.cells c (first + q) n size inside below))
            ∙ ap (λ (t : ℤ). unwrap_or (cell_at (raster width height w.cells) t (pos (first + q))) n) column-at
            ∙ ap (λ (t : ℤ). unwrap_or (cell_at (raster width height w.cells) (column +ℤ pos p) t) n) row-at
        | inr past ↦
            edge_beside n w.cells lanes (start + q * stride) (p + ahead) (inr past)
            ∙ ap (λ (t : Option _). unwrap_or t n) (sym (no_column_seen width height w.cells (column +ℤ pos p) (row +ℤ pos q) (inr (elim side [
              | inl left ↦ absurd (omega (arith, past, left.0, left.1, ahead-is, early, few))
              | inr right ↦ omega (arith, ints, past, right.0, right.1, ahead-is, column-is, stride-is)
            ]))))
      ]
    ]
  where
    spread : (a b m : ℕ) → (a + b) * m ≡ a * m + b * m
    spread a b m = omega arith

-- the samples of an edge's rows stand in the view
pub source_fits : (first high down stride height seen block start size : ℕ) → start ≡ first * stride + seen → seen + block ≤ stride → 0 < high → first + high + 2 * down + 1 ≤ height → size ≡ height * stride → start + (high + 2 * down - 1) * stride + block ≤ size
source_fits first high down stride height seen block start size start-is inside some below size-is =
    let k = high + 2 * down - 1 in
    let more = rows_le (first + k + 1) height stride (omega (arith, some, below)) in
    omega (arith, more, spread first k stride, start-is, inside, size-is)
  where
    spread : (a b m : ℕ) → (a + b + 1) * m ≡ a * m + b * m + m
    spread a b m = omega arith

-- where the last vector of results ends, of cells from `ahead` on
pub edge_end : (lanes across down high ahead size rest : ℕ) → across ≤ lanes → ahead + across ≤ 2 * lanes → 0 < high → (high + 2 * down) * (4 * lanes) ≤ size → size ≡ ahead + rest → 2 * down * (4 * lanes) + 2 * across + ((high - 1) * (4 * lanes) + lanes) ≤ rest
edge_end lanes across down high ahead size rest few near some room size-is =
    let k = high - 1 in
    let whole : (k + 2 * down + 1) * (4 * lanes) ≡ (high + 2 * down) * (4 * lanes) = ap (λ (t : ℕ). t * (4 * lanes)) (let e : k + 2 * down + 1 ≡ high + 2 * down = omega (arith, some) in e) in
    omega (arith, whole, spread k (2 * down) (4 * lanes), room, size-is, few, near)
  where
    spread : (a b m : ℕ) → (a + b + 1) * m ≡ a * m + b * m + m
    spread a b m = omega arith

pub row_at : (row : ℤ) (top y down place : ℕ) → row ≡ pos top -ℤ pos down -ℤ pos place → row +ℤ pos y ≡ pos (top + y) -ℤ pos down -ℤ pos place
row_at row top y down place is = omega (arith, ints)

pub column_at : (x from across place : ℕ) → x ≡ place → pos from -ℤ pos across ≡ pos (x + from) -ℤ pos across -ℤ pos place
column_at x from across place is = omega (arith, ints)
