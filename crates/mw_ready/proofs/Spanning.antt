-- How many tiles windows span, by columns and by rows.
use Rattle.std.proofs.Common.{◌≡◌, ℕ, ◌+◌, ◌-◌, ◌*◌, ◌/◌, ◌%◌, ◌<◌, ◌≤◌, ◌^◌, Bool, nat_eq, min, List, length, ap, sym, subst, ◌∙◌, arith, inl, inr, set, get_or}
use Rattle.std.proofs.lemmas.Bool.{cases_lt}
use Rattle.std.proofs.lemmas.List.{get_or-set_same, get_or-set_other}
use Rattle.std.proofs.lemmas.Nat.{le-div, div_below, div-mul-add, mod-mul-add, mod_below}
use Rattle.mw_model.proofs.mw_facts.Counts.{count_by-same, count_by-most}
use Rattle.mw_model.specs.declared.offsets.Reach.{Reach}
use Rattle.mw_grid.specs.declared.blocks.Block.{Block}
use Rattle.mw_grid.specs.Blocks.{IsBlock, in_block, sees}
use Rattle.mw_grid.specs.Counts.{bit, count_below, in_range}
use Rattle.mw_grid.specs.Grids.{Tiling, columns_of, rows_of, tile_count}
use Rattle.mw_grid.proofs.Counts.{in-high}
use Rattle.mw_grid.proofs.Lines.{number_of, row_less}
use Rattle.mw_grid.proofs.Meeting.{block_given, count-block, turned_sees}
use Rattle.mw_grid.proofs.Tiles.{HasTiles, some_tiles}
use Rattle.mw_ready.specs.declared.spans.Spans.{Spans}
use Rattle.mw_ready.specs.Boards.{step_on_grid}
use Rattle.mw_ready.specs.Counters.{Raises}
use Rattle.mw_ready.specs.Kept.{seen_by}
use Rattle.mw_ready.specs.Spans.{AreSpans, span_of, tiles_spanned}
use Rattle.mw_ready.proofs.Raising.{raises_join, raises_same, in_step}

-- a piece of a line is one of those that it spans itself
first_low : (side at before : ℕ) → 0 < side → (at * side - before) / side ≤ at
first_low side at before some = let lt : (at * side - before) / side < at + 1 = div_below (at * side - before) side (at + 1) some (omega arith) in omega arith

last_high : (side at after : ℕ) → 0 < side → at ≤ (at * side + side - 1 + after) / side
last_high side at after some = le-div at (at * side + side - 1 + after) side some (omega arith)

-- the columns and the rows of a window are those of the block that it meets
pub spanned-met : (g : Tiling) (reach : Reach) (s : Spans) (columns rows side tile : ℕ) → HasTiles g → columns ≡ columns_of g → rows ≡ rows_of g → side ≡ g.side
    → ((at : ℕ) → at < columns → get_or s.across at 0 ≡ span_of columns side at reach.left reach.right)
    → ((at : ℕ) → at < rows → get_or s.down at 0 ≡ span_of rows side at reach.up reach.down)
    → tile < tile_count g → tiles_spanned g s tile ≡ count_below (sees g reach tile) (tile_count g)
spanned-met g reach s columns rows side tile has columns-is rows-is side-is across down lt =
    let some : 0 < side = omega (arith, has.some) in
    let x = tile % columns_of g in
    let y = tile / columns_of g in
    let x-lt : x < columns = omega arith in
    let y-lt : y < rows = omega (arith, row_less (rows_of g) (columns_of g) tile (omega arith) lt) in
    let b : Block = record { left = (x * side - reach.left) / side; right = min columns ((x * side + side - 1 + reach.right) / side + 1); top = (y * side - reach.up) / side; bottom = min rows ((y * side + side - 1 + reach.down) / side + 1) } in
    let is : IsBlock g b = record {
      across = omega (arith, first_low side x reach.left some, last_high side x reach.right some);
      right = omega arith;
      down = omega (arith, first_low side y reach.up some, last_high side y reach.down some);
      bottom = omega arith;
    } in
    ap (λ (k : ℕ). k * get_or s.across x 0) (down y y-lt)
    ∙ ap (λ (k : ℕ). (b.bottom - b.top) * k) (across x x-lt)
    ∙ count-block g b is
    ∙ count_by-same (in_block g b) (sees g reach tile) (tile_count g) (block_given g reach tile columns rows side b.left b.right b.top b.bottom has lt columns-is rows-is side-is (ap (λ (k : ℕ). (tile % k * side - reach.left) / side) (sym columns-is)) (ap (λ (k : ℕ). min columns ((tile % k * side + side - 1 + reach.right) / side + 1)) (sym columns-is)) (ap (λ (k : ℕ). (tile / k * side - reach.up) / side) (sym columns-is)) (ap (λ (k : ℕ). min rows ((tile / k * side + side - 1 + reach.down) / side + 1)) (sym columns-is)))

-- the windows that meet a tile are those that its own meets with the reach turned
pub spanned-turned : (g : Tiling) (reach : Reach) (tile : ℕ) → HasTiles g → tile < tile_count g
    → count_below (sees g (record { left = reach.right; right = reach.left; up = reach.down; down = reach.up }) tile) (tile_count g) ≡ seen_by g reach tile
spanned-turned g reach tile has lt =
    count_by-same (sees g (record { left = reach.right; right = reach.left; up = reach.down; down = reach.up }) tile) (λ w. sees g reach w tile) (tile_count g) (λ w w-lt. turned_sees g reach tile w has lt w-lt)

-- a number more is written in its place
pub read_next : (P : ℕ → ℕ → Type 0) (xs : List ℕ) (at v : ℕ) → at < length xs → ((k : ℕ) → k < at → P k (get_or xs k 0)) → P at v → (k : ℕ) → k < at + 1 → P k (get_or (set xs at v) k 0)
read_next P xs at v within before here k lt =
    elim (cases_lt k at) [
      | inl less ↦ subst (P k) (sym (get_or-set_other xs at k v 0 (λ e. absurd (omega (arith, e, less))))) (before k less)
      | inr past ↦
          let there : at ≡ k = omega arith in
          subst (P k) (ap (λ (j : ℕ). get_or (set xs at v) j 0) there) (subst (λ (j : ℕ). P j (get_or (set xs at v) at 0)) there (subst (P at) (sym (get_or-set_same xs at v 0 within)) here))
    ]

-- ---- the rows of a step

-- what is raised in a row of tiles
row_same : (g : Tiling) (s : Spans) (step times row u : ℕ) → row < rows_of g → step * tile_count g + row * columns_of g ≤ u → u < step * tile_count g + row * columns_of g + columns_of g
    → times * tiles_spanned g s (u % tile_count g) ≡ times * get_or s.down row 0 * get_or s.across (u - (step * tile_count g + row * columns_of g)) 0
row_same g s step times row u row-lt from to =
    let n = columns_of g in
    let c = u - (step * tile_count g + row * n) in
    let c-lt : c < n = omega arith in
    let tile-lt : row * n + c < tile_count g = number_of (rows_of g) n c row c-lt row-lt in
    let u-is : step * tile_count g + (row * n + c) ≡ u = omega arith in
    ap (λ (k : ℕ). times * tiles_spanned g s (k % tile_count g)) (sym u-is)
    ∙ ap (λ (k : ℕ). times * tiles_spanned g s k) (mod-mul-add step (tile_count g) (row * n + c) tile-lt)
    ∙ ap (λ (k : ℕ). times * (get_or s.down k 0 * get_or s.across ((row * n + c) % n) 0)) (div-mul-add row n c c-lt)
    ∙ ap (λ (k : ℕ). times * (get_or s.down row 0 * get_or s.across k 0)) (mod-mul-add row n c c-lt)
    ∙ grouped times (get_or s.down row 0) (get_or s.across c 0)
  where
    grouped : (a b c : ℕ) → a * (b * c) ≡ a * b * c
    grouped a b c = omega arith

-- what is raised for the tasks of a step
abbrev pub raise_for : Tiling → Spans → ℕ → ℕ → ℕ
raise_for g s times u = times * tiles_spanned g s (u % tile_count g)

-- there is room for the numbers of the next row
pub row_fits : (g : Tiling) (s : Spans) (step times row tiles columns i : ℕ) (old now : List ℕ) → row < rows_of g → tiles ≡ tile_count g → columns ≡ columns_of g → i < columns → step * tile_count g + tile_count g ≤ length old
    → ((u : ℕ) → u < length old → get_or old u 0 + raise_for g s times u < 2 ^ 32)
    → Raises (λ u. bit (in_range (step * tile_count g) (step * tile_count g + row * columns_of g) u) * raise_for g s times u) old now
    → get_or now (step * tiles + row * columns + i) 0 + times * get_or s.down row 0 * get_or s.across i 0 < 2 ^ 32
row_fits g s step times row tiles columns i old now row-lt tiles-is columns-is lt within fits raises =
    let a = step * tile_count g in
    let b = a + row * columns_of g in
    let i-lt : i < columns_of g = omega (arith, lt, columns-is) in
    let u-lt : b + i < length old = omega (arith, number_of (rows_of g) (columns_of g) i row i-lt row-lt, within) in
    let still : bit (in_range a b (b + i)) * raise_for g s times (b + i) ≡ 0 * raise_for g s times (b + i) = ap (λ (v : Bool). bit v * raise_for g s times (b + i)) (in-high a b (b + i) (omega arith)) in
    let back : b + i - b ≡ i = omega arith in
    let same = row_same g s step times row (b + i) row-lt (omega arith) (omega arith) ∙ ap (λ (k : ℕ). times * get_or s.down row 0 * get_or s.across k 0) back in
    rw (tiles-is, columns-is) (omega (arith, raises.each (b + i) u-lt, still, same, fits (b + i) u-lt))

-- one row more
pub row_next : (g : Tiling) (s : Spans) (step times row tiles columns : ℕ) (old now out : List ℕ) → row < rows_of g → tiles ≡ tile_count g → columns ≡ columns_of g
    → Raises (λ u. bit (in_range (step * tile_count g) (step * tile_count g + row * columns_of g) u) * raise_for g s times u) old now
    → Raises (λ u. bit (in_range (step * tiles + row * columns) (step * tiles + row * columns + columns) u) * (times * get_or s.down row 0 * get_or s.across (u - (step * tiles + row * columns)) 0)) now out
    → Raises (λ u. bit (in_range (step * tile_count g) (step * tile_count g + (row + 1) * columns_of g) u) * raise_for g s times u) old out
row_next g s step times row tiles columns old now out row-lt tiles-is columns-is before more =
    let a = step * tile_count g in
    let n = columns_of g in
    let b = a + row * n in
    let here : Raises (λ u. bit (in_range b (b + n) u) * (times * get_or s.down row 0 * get_or s.across (u - b) 0)) now out = rw (tiles-is, columns-is) at more in
    raises_same (λ u. bit (in_range a (b + n) u) * raise_for g s times u) (λ u. bit (in_range a (a + (row + 1) * n) u) * raise_for g s times u) old out (λ u. ap (λ (k : ℕ). bit (in_range a k u) * raise_for g s times u) (ends a row n))
    (raises_join (raise_for g s times) (λ u. times * get_or s.down row 0 * get_or s.across (u - b) 0) a b (b + n) old now out (omega arith) (omega arith) (λ u from to. sym (row_same g s step times row u row-lt from to)) before here)
  where
    ends : (a row n : ℕ) → a + row * n + n ≡ a + (row + 1) * n
    ends a row n = omega arith

-- all rows of a step
pub rows_done : (g : Tiling) (f : ℕ → ℕ) (step row : ℕ) (old now : List ℕ) → row ≡ rows_of g → Raises (λ u. bit (in_range (step * tile_count g) (step * tile_count g + row * columns_of g) u) * f u) old now
    → Raises (λ u. bit (nat_eq step (step_on_grid g u)) * f u) old now
rows_done g f step row old now is raises =
    raises_same (λ u. bit (in_range (step * tile_count g) (step * tile_count g + row * columns_of g) u) * f u) (λ u. bit (nat_eq step (step_on_grid g u)) * f u) old now
    (λ u. ap (λ (k : ℕ). bit (in_range (step * tile_count g) (step * tile_count g + k * columns_of g) u) * f u) is ∙ ap (λ (v : Bool). bit v * f u) (in_step step (tile_count g) u (some_tiles g))) raises

-- ---- the readers of tasks

-- the numbers of the windows that meet a tile, and no more than there are tiles
pub spans-seen : (g : Tiling) (reach : Reach) (s : Spans) (u : ℕ) → AreSpans g s (seen_by g reach) → tiles_spanned g s (u % tile_count g) ≡ seen_by g reach (u % tile_count g)
spans-seen g reach s u is = is.each (u % tile_count g) (mod_below u (tile_count g) (some_tiles g))

pub spans-most : (g : Tiling) (reach : Reach) (s : Spans) (u : ℕ) → AreSpans g s (seen_by g reach) → tiles_spanned g s (u % tile_count g) ≤ tile_count g
spans-most g reach s u is = omega (arith, spans-seen g reach s u is, count_by-most (λ w. sees g reach w (u % tile_count g)) (tile_count g))
