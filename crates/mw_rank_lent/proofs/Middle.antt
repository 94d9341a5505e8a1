-- Medians under squares with their origin in the middle, by what stands in rows or in lines.
use Rattle.std.proofs.Common.{◌≡◌, ℕ, pos, ◌+ℤ◌, ◌-ℤ◌, ◌+◌, ◌-◌, ◌*◌, ◌<◌, ◌≤◌, List, get_or, length, true, refl, ap, sym, subst, arith, ◌∙◌, inl, inr}
use Rattle.std.proofs.lemmas.Int.{ints}
use Rattle.mw_model.specs.declared.offsets.Offset.{Offset}
use Rattle.mw_model.specs.declared.offsets.Rect.{Rect}
use Rattle.mw_model.specs.PlanSteps.{ranked}
use Rattle.mw_model.specs.Rasters.{raster}
use Rattle.mw_model.specs.Windows.{View, seen_at}
use Rattle.mw_rank_medians.specs.mw_rank.Ranks.{HasRows, IsRank, levels_at, levels_under}
use Rattle.mw_rank_medians.specs.mw_rank.Tallies.{count_under}
use Rattle.mw_rank_medians.specs.Columns.{block_below}
use Rattle.mw_rank_medians.specs.Filled.{filled_at}
use Rattle.mw_rank_medians.specs.Numbered.{IsNthLevel}
use Rattle.mw_rank_medians.specs.Squares.{IsMedian, ShowsSquare}
use Rattle.mw_rank_medians.proofs.Beyond.{median_filled}
use Rattle.mw_rank_medians.proofs.Medians.{median_is, median_some}
use Rattle.mw_rank_medians.proofs.Squares.{square_shown}
use Rattle.mw_rank_medians.proofs.mw_rank.Rows.{is_rank}
use Rattle.mw_rank_lent.specs.declared.squares.Square.{Square}
use Rattle.mw_rank_lent.specs.Lines.{AreSeen, IsOne}
use Rattle.mw_rank_lent.specs.Middles.{AreInner, HasTile, IsMiddle, median_at, square_offsets}
use Rattle.mw_rank_lent.proofs.Seen.{rank_enough, rows_seen}

-- a square that is cut by a side alone still has as many offsets in the frame as the number of its median
more_than_half : (s : Square) → IsMiddle s → s.k ≤ s.side * (s.reach + 1)
more_than_half s middle = go s.side s.k s.reach middle.median middle.side
  where
    go : (side k reach : ℕ) → IsMedian side k → side ≡ 2 * reach + 1 → k ≤ side * (reach + 1)
    go side k reach (inl (a, b)) is = omega (arith, b, a, is, ap (λ (t : ℕ). t * (reach + 1)) a)
    go side k reach (inr (a, b)) is = omega (arith, b, a, is, ap (λ (t : ℕ). t * (reach + 1)) a)

pub side_enough : {A : Type 0} (level : A → ℕ) (top : ℕ) (w : View A) (s : Square) (x y long count e i : ℕ) → IsMiddle s → AreSeen level top w s.first x y long count → e < s.reach → count ≡ s.side - 1 + s.reach → i + s.side ≤ long
    → w.place.x ≤ x → x + s.reach ≤ w.place.x + w.place.width → 2 * s.reach < w.place.width → s.k ≤ count_under (top + 1) (levels_under level (seen_at w) (square_offsets s) (x + e) (y + i))
side_enough level top w s x y long count e i middle seen lt count-is tall left right wide =
    let side = middle.side in
    let all = rows_seen level top (seen_at w) s.first (x + e) (y + i) unseen (s.reach + 1) s.side s.side (omega (arith, side)) one in
    omega (arith, more_than_half s middle, all)
  where
    unseen : ℕ
    unseen = s.reach - (x + e - w.place.x)

    column : (c : ℕ) → unseen ≤ c → pos (x + (e + c)) +ℤ s.first.dx -ℤ pos w.place.x ≡ pos (x + e + c - w.place.x - s.reach)
    column c low = let zero_is = middle.left in omega (arith, ints, zero_is, low, left)

    one : (c r : ℕ) → unseen ≤ c → c < unseen + (s.reach + 1) → r < s.side → IsOne top (levels_at level (seen_at w) s.first (x + e + c) (y + i + r))
    one c r low less row =
        subst (λ (p : ℕ). IsOne top (levels_at level (seen_at w) s.first p (y + i + r))) (let p : x + (e + c) ≡ x + e + c = omega arith in p)
        (subst (λ (p : ℕ). IsOne top (levels_at level (seen_at w) s.first (x + (e + c)) p)) (let p : y + (i + r) ≡ y + i + r = omega arith in p)
        (seen (e + c) (i + r) (x + e + c - w.place.x - s.reach) (omega (arith, lt, count-is, less, low, left, middle.side)) (omega (arith, tall, row)) (column c low) (omega (arith, less, right, lt, wide, left))))

-- a level that is known by the lines
pub side_median : {A : Type 0} (level : A → ℕ) (d : A) (top : ℕ) (w : View A) (s : Square) (x y rows e i v : ℕ) (lines : List A) → IsMiddle s
    → HasRows level (λ p q. filled_at level top (seen_at w) s.first (x + q) (y + p)) (rows + s.side - 1) (s.side - 1 + s.reach) lines → AreSeen level top w s.first x y (rows + s.side - 1) (s.side - 1 + s.reach)
    → e < s.reach → i < rows → w.place.x ≤ x → x + s.reach ≤ w.place.x + w.place.width → 2 * s.reach < w.place.width
    → IsNthLevel (block_below level d lines (e * (rows + s.side - 1)) (rows + s.side - 1) s.side i) s.k v → v ≡ median_at level w s (x + e) (y + i)
side_median level d top w s x y rows e i v lines middle has seen lt less left right wide number =
    let some = median_some s.side s.k middle.median in
    median_filled level d top (seen_at w) s.first true x y (rows + s.side - 1) (s.side - 1 + s.reach) s.side s.k i e v lines has (omega (arith, less, some.0)) (omega (arith, lt, some.0)) some.1 number
    ∙ rank_enough level top (seen_at w) (square_offsets s) (x + e) (y + i) s.k some.1
    (side_enough level top w s x y (rows + s.side - 1) (s.side - 1 + s.reach) e i middle seen lt refl (omega (arith, less, some.0)) left right wide)

-- what the view shows of a row's squares
inner_shown : {A : Type 0} (level : A → ℕ) (d : A) (w : View A) (s : Square) (y row count from stride : ℕ) → IsMiddle s → length w.cells ≡ w.place.height * w.place.width → AreInner w s y 1 → row ≡ y - s.reach - w.place.y
    → count + 2 * s.reach ≡ w.place.width → stride ≡ w.place.width → from ≡ row * stride → ShowsSquare level d (seen_at w) w.cells (square_offsets s) (w.place.x + s.reach) y count from w.place.width s.side
inner_shown level d w s y row count from stride middle size inner row-is count-is stride-is from-is =
    square_shown level d w s.first (w.place.x + s.reach) y count 0 row from s.side size (omega (arith, inner.above, inner.below, row-is, middle.side)) (omega (arith, count-is, middle.side))
    (let l = middle.left in omega (arith, ints, l))
    (let a = middle.above in omega (arith, ints, a, row-is, inner.above))
    (omega (arith, from-is, ap (λ (t : ℕ). row * t) stride-is))

-- there are so many samples
pub inner_inside : {A : Type 0} (level : A → ℕ) (d : A) (w : View A) (s : Square) (y row count from stride : ℕ) (samples : List A) → IsMiddle s → length w.cells ≡ w.place.height * w.place.width → AreInner w s y 1 → row ≡ y - s.reach - w.place.y
    → count + 2 * s.reach ≡ w.place.width → samples ≡ w.cells → stride ≡ w.place.width → from ≡ row * stride → (n : ℕ) → n ≡ count → from + s.side * stride + n + s.side ≤ length samples + stride + 1
inner_inside level d w s y row count from stride samples middle size inner row-is count-is samples-is stride-is from-is n n-is =
    let shown = (inner_shown level d w s y row count from stride middle size inner row-is count-is stride-is from-is).inside in
    omega (arith, shown, n-is, stride-is, ap (λ (t : ℕ). s.side * t) stride-is, ap length samples-is)

-- a level that is known by rows
pub inner_median : {A : Type 0} (level : A → ℕ) (d : A) (w : View A) (s : Square) (y row count from stride i v : ℕ) (samples : List A) → IsMiddle s → length w.cells ≡ w.place.height * w.place.width → AreInner w s y 1
    → row ≡ y - s.reach - w.place.y → count + 2 * s.reach ≡ w.place.width → samples ≡ w.cells → stride ≡ w.place.width → from ≡ row * stride → i < count → IsNthLevel (block_below level d samples from stride s.side i) s.k v
    → v ≡ median_at level w s (w.place.x + s.reach + i) y
inner_median level d w s y row count from stride i v samples middle size inner row-is count-is samples-is stride-is from-is lt number =
    median_is level d (seen_at w) w.cells samples (square_offsets s) (square_offsets s) (w.place.x + s.reach) y count from stride w.place.width s.side i s.k v samples-is stride-is refl
    (inner_shown level d w s y row count from stride middle size inner row-is count-is stride-is from-is) lt (median_some s.side s.k middle.median).1 number

-- the medians of a tile are its ranks
pub medians_rank : {A : Type 0} (level : A → ℕ) (w : View A) (s : Square) (k : ℕ) (offsets : List Offset) (tile : Rect) (cells : List A) → HasTile level w s tile cells → offsets ≡ square_offsets s → s.k ≡ k
    → IsRank level k (seen_at w) offsets tile (raster tile.width tile.height cells)
medians_rank {A} level w s k offsets tile cells has offsets-is k-is = is_rank level k (seen_at w) offsets tile cells (raster tile.width tile.height cells) refl rows
  where
    rows : HasRows level (λ x y. ranked k (levels_under level (seen_at w) offsets (tile.x + x) (tile.y + y))) tile.width tile.height cells
    rows = record {
      size = has.medians.size ∙ ap (λ (t : ℕ). tile.height * t) (sym has.wide);
      made = λ x j d across lt.
          ap (λ (t : ℕ). level (get_or cells (j * t + x) d)) has.wide
          ∙ has.medians.made x j d (omega (arith, across, has.wide)) lt
          ∙ ap (λ (t : ℕ). ranked t (levels_under level (seen_at w) (square_offsets s) (w.place.x + x) (tile.y + j))) k-is
          ∙ ap (λ (l : List Offset). ranked k (levels_under level (seen_at w) l (w.place.x + x) (tile.y + j))) (sym offsets-is)
          ∙ ap (λ (t : ℕ). ranked k (levels_under level (seen_at w) offsets (t + x) (tile.y + j))) (sym has.left);
    }
