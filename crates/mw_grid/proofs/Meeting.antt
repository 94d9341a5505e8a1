-- The tiles that a window meets stand in a block.
use Rattle.std.proofs.Common.{◌≡◌, ◌≢◌, ℕ, ◌+◌, ◌-◌, ◌*◌, ◌/◌, ◌%◌, ◌<◌, ◌≤◌, min, Bool, ◌&&◌, nat_eq, ap, sym, ◌∙◌, arith, inl, inr}
use Rattle.std.proofs.Math.Arith.{mod-mul}
use Rattle.std.proofs.Math.Bool.{and_comm, and_assoc}
use Rattle.std.proofs.Math.Nat.{mul-le-mul_left, div-div-eq-div-mul}
use Rattle.std.proofs.lemmas.Bool.{cases_lt, cases_eq, eq-eqb, ne_eqb}
use Rattle.std.proofs.lemmas.Nat.{div-mul-add, mod-mul-add, div-add-mod'}
use Rattle.mw_model.specs.declared.offsets.Reach.{Reach}
use Rattle.mw_model.specs.Tasks.{share}
use Rattle.mw_grid.specs.declared.blocks.Block.{Block}
use Rattle.mw_grid.specs.Counts.{in_range, count_below}
use Rattle.mw_grid.specs.Grids.{Tiling, columns_of, rows_of, tile_count}
use Rattle.mw_grid.specs.Blocks.{IsBlock, in_block, sees}
use Rattle.mw_grid.proofs.Lines.{row_less, piece_begins}
use Rattle.mw_grid.proofs.Tiles.{HasTiles}
use Rattle.mw_grid.proofs.Counts.{count-product, count-range, in-yes, in-low, in-high}
use Rattle.mw_grid.proofs.Pieces.{share-range, share-turned}

column_lt : (g : Tiling) (t : ℕ) → t % columns_of g < columns_of g
column_lt g t = omega arith

row_lt : (g : Tiling) (t : ℕ) → t < tile_count g → t / columns_of g < rows_of g
row_lt g t lt = row_less (rows_of g) (columns_of g) t (omega arith) lt

pub row_within : (g : Tiling) (t columns rows : ℕ) → columns ≡ columns_of g → rows ≡ rows_of g → t < tile_count g → t / columns < rows
row_within g t columns rows columns-is rows-is lt = rw (columns-is, rows-is) (row_lt g t lt)

-- the tiles that a window meets
block_is : (g : Tiling) (reach : Reach) (tile v : ℕ) → HasTiles g → tile < tile_count g → v < tile_count g
    → in_range ((tile / columns_of g * g.side - reach.up) / g.side) (min (rows_of g) ((tile / columns_of g * g.side + g.side - 1 + reach.down) / g.side + 1)) (v / columns_of g)
    && in_range ((tile % columns_of g * g.side - reach.left) / g.side) (min (columns_of g) ((tile % columns_of g * g.side + g.side - 1 + reach.right) / g.side + 1)) (v % columns_of g)
    ≡ sees g reach tile v
block_is g reach tile v has lt v-lt =
    let columns = columns_of g in
    let rows = rows_of g in
    let x = tile % columns in
    let y = tile / columns in
    let across = share-range g.width g.side x (v % columns) reach.left reach.right has.some has.wide (column_lt g tile) (column_lt g v) in
    let down = share-range g.height g.side y (v / columns) reach.up reach.down has.some has.high (row_lt g tile lt) (row_lt g v v-lt) in
    and_comm (in_range ((y * g.side - reach.up) / g.side) (min rows ((y * g.side + g.side - 1 + reach.down) / g.side + 1)) (v / columns)) (in_range ((x * g.side - reach.left) / g.side) (min columns ((x * g.side + g.side - 1 + reach.right) / g.side + 1)) (v % columns))
    ∙ ap (λ (b : Bool). b && in_range ((y * g.side - reach.up) / g.side) (min rows ((y * g.side + g.side - 1 + reach.down) / g.side + 1)) (v / columns)) across
    ∙ ap (λ (b : Bool). share (x * g.side - reach.left) (min (x * g.side + min g.side (g.width - x * g.side) + reach.right) g.width - (x * g.side - reach.left)) (v % columns * g.side) (min g.side (g.width - v % columns * g.side)) && b) down

pub block_given : (g : Tiling) (reach : Reach) (tile columns rows side left right top bottom : ℕ) → HasTiles g → tile < tile_count g → columns ≡ columns_of g → rows ≡ rows_of g → side ≡ g.side
    → left ≡ (tile % columns * side - reach.left) / side → right ≡ min columns ((tile % columns * side + side - 1 + reach.right) / side + 1)
    → top ≡ (tile / columns * side - reach.up) / side → bottom ≡ min rows ((tile / columns * side + side - 1 + reach.down) / side + 1)
    → (v : ℕ) → v < tile_count g → in_range top bottom (v / columns_of g) && in_range left right (v % columns_of g) ≡ sees g reach tile v
block_given g reach tile columns rows side left right top bottom has lt columns-is rows-is side-is left-is right-is top-is bottom-is v v-lt =
    rw (bottom-is, right-is, top-is, left-is, side-is, rows-is, columns-is) (block_is g reach tile v has lt v-lt)

-- a window meets a tile where the window of the tile with the reach turned meets the first one's
pub turned_sees : (g : Tiling) (reach : Reach) (tile v : ℕ) → HasTiles g → tile < tile_count g → v < tile_count g
    → sees g (record { left = reach.right; right = reach.left; up = reach.down; down = reach.up }) tile v ≡ sees g reach v tile
turned_sees g reach tile v has lt v-lt =
    let columns = columns_of g in
    let x = tile % columns * g.side in
    let y = tile / columns * g.side in
    let p = v % columns * g.side in
    let q = v / columns * g.side in
    let across = share-turned g.width g.side x p reach.right reach.left has.some (piece_begins g.width g.side (tile % columns) has.some has.wide (column_lt g tile)) (piece_begins g.width g.side (v % columns) has.some has.wide (column_lt g v)) in
    let down = share-turned g.height g.side y q reach.down reach.up has.some (piece_begins g.height g.side (tile / columns) has.some has.high (row_lt g tile lt)) (piece_begins g.height g.side (v / columns) has.some has.high (row_lt g v v-lt)) in
    ap (λ (b : Bool). b && share (y - reach.down) (min (y + min g.side (g.height - y) + reach.up) g.height - (y - reach.down)) q (min g.side (g.height - q))) across
    ∙ ap (λ (b : Bool). share (p - reach.left) (min (p + min g.side (g.width - p) + reach.right) g.width - (p - reach.left)) x (min g.side (g.width - x)) && b) down

-- how many tiles a block has
pub count-block : (g : Tiling) (b : Block) → IsBlock g b → (b.bottom - b.top) * (b.right - b.left) ≡ count_below (in_block g b) (tile_count g)
count-block g b is =
    ap (λ (k : ℕ). k * (b.right - b.left)) (sym (count-range b.top b.bottom (rows_of g) is.down is.bottom))
    ∙ ap (λ (k : ℕ). count_below (in_range b.top b.bottom) (rows_of g) * k) (sym (count-range b.left b.right (columns_of g) is.across is.right))
    ∙ sym (count-product (in_range b.top b.bottom) (in_range b.left b.right) (rows_of g) (columns_of g))

-- a place by its row and its column there
pub row_is : (columns row left right x : ℕ) → 0 < columns → right ≤ columns → in_range (row * columns + left) (row * columns + right) x ≡ nat_eq (x / columns) row && in_range left right (x % columns)
row_is columns row left right x some le =
    let q = x / columns in
    let m = x % columns in
    let x-is : q * columns + m ≡ x = div-add-mod' x columns in
    let m-lt : m < columns = omega arith in
    elim (cases_eq q row) [
      | inl here ↦
          let there : row * columns + m ≡ x = ap (λ (k : ℕ). k * columns + m) (sym here) ∙ x-is in
          rw (eq-eqb q row here) (shifted (row * columns) left right m x there)
      | inr other ↦ elim (cases_lt q row) [
        | inl before ↦ rw (ne_eqb q row other) (in-low (row * columns + left) (row * columns + right) x (let up : q + 1 ≤ row = omega arith in omega (arith, mul-le-mul_left columns up)))
        | inr after ↦ rw (ne_eqb q row other) (in-high (row * columns + left) (row * columns + right) x (let up : row + 1 ≤ q = past row q after other in omega (arith, mul-le-mul_left columns up)))
      ]
    ]
  where
    past : (row q : ℕ) → row ≤ q → q ≢ row → row + 1 ≤ q
    past row q le ne = omega arith

    shifted : (a left right m x : ℕ) → a + m ≡ x → in_range (a + left) (a + right) x ≡ in_range left right m
    shifted a left right m x e = elim (cases_lt m left) [
      | inl low ↦ in-low (a + left) (a + right) x (omega arith) ∙ sym (in-low left right m low)
      | inr from ↦ elim (cases_lt m right) [
        | inl lt ↦ in-yes (a + left) (a + right) x (omega arith) (omega arith) ∙ sym (in-yes left right m from lt)
        | inr high ↦ in-high (a + left) (a + right) x (omega arith) ∙ sym (in-high left right m high)
      ]
    ]

div-of_mod : (t rows columns : ℕ) → 0 < rows → 0 < columns → t % (rows * columns) / columns ≡ t / columns % rows
div-of_mod t rows columns r c = ap (λ (k : ℕ). k / columns) (mod-mul t r c) ∙ div-mul-add (t / columns % rows) columns (t % columns) (omega arith)

mod-of_mod : (t rows columns : ℕ) → 0 < rows → 0 < columns → t % (rows * columns) % columns ≡ t % columns
mod-of_mod t rows columns r c = ap (λ (k : ℕ). k % columns) (mod-mul t r c) ∙ mod-mul-add (t / columns % rows) columns (t % columns) (omega arith)

div-twice : (t rows columns : ℕ) → t / (rows * columns) ≡ t / columns / rows
div-twice t rows columns = ap (λ (k : ℕ). t / k) (swap rows columns) ∙ sym (div-div-eq-div-mul t columns rows)
  where
    swap : (a b : ℕ) → a * b ≡ b * a
    swap a b = omega arith

-- the block as the tasks of a step, where those of one step after another are numbered by tiles
pub block_at_step : (g : Tiling) (b : Block) (k n t : ℕ) → b.bottom ≤ rows_of g → n ≡ rows_of g
    → in_range (k * n + b.top) (k * n + b.bottom) (t / columns_of g) && in_range b.left b.right (t % columns_of g) ≡ nat_eq (t / tile_count g) k && in_block g b (t % tile_count g)
block_at_step g b k n t low n-is =
    let columns = columns_of g in
    let rows = rows_of g in
    let c-some : 0 < columns = omega arith in
    let r-some : 0 < rows = omega arith in
    rw n-is
    (ap (λ (v : Bool). v && in_range b.left b.right (t % columns)) (row_is rows k b.top b.bottom (t / columns) r-some low)
    ∙ and_assoc (nat_eq (t / columns / rows) k) (in_range b.top b.bottom (t / columns % rows)) (in_range b.left b.right (t % columns))
    ∙ ap (λ (q : ℕ). nat_eq q k && (in_range b.top b.bottom (t / columns % rows) && in_range b.left b.right (t % columns))) (sym (div-twice t rows columns))
    ∙ ap (λ (m : ℕ). nat_eq (t / tile_count g) k && (in_range b.top b.bottom m && in_range b.left b.right (t % columns))) (sym (div-of_mod t rows columns r-some c-some))
    ∙ ap (λ (m : ℕ). nat_eq (t / tile_count g) k && (in_range b.top b.bottom (t % tile_count g / columns) && in_range b.left b.right m)) (sym (mod-of_mod t rows columns r-some c-some)))
