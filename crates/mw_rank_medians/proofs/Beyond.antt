-- Levels that are filled where nothing is seen, and what their numbers say.
use Rattle.std.proofs.Common.{◌≡◌, ℕ, ℤ, pos, ◌+ℤ◌, zero, suc, ◌+◌, ◌-◌, ◌*◌, ◌<◌, ◌≤◌, Bool, true, false, List, [], ◌∷◌, ◌++◌, length, map, get_or, min, max, refl, ap, sym, arith, ◌∙◌}
use Rattle.std.specs.Option.{option_to_list}
use Rattle.std.proofs.lemmas.Int.{ints}
use Rattle.std.proofs.Math.Nat.{mul-le-mul_right}
use Rattle.mw_model.specs.declared.offsets.Offset.{Offset}
use Rattle.mw_model.specs.PlanSteps.{ranked}
use Rattle.mw_model.specs.Rasters.{Sight}
use Rattle.mw_model.proofs.Ranks.{nth_is, nth_from}
use Rattle.mw_rank.specs.Ranks.{levels_under, levels_at, HasRows}
use Rattle.mw_rank.specs.Runs.{offsets_from}
use Rattle.mw_rank.specs.Tallies.{count_under}
use Rattle.mw_rank.proofs.Counts.{count-append, count-cons, count_within, one-le}
use Rattle.mw_rank.proofs.Sights.{levels-cons, levels_at-on, length-levels, length-levels_at, offset_on, offsets-snoc}
use Rattle.mw_rank_medians.specs.Numbered.{below, IsNthLevel}
use Rattle.mw_rank_medians.specs.Columns.{sum_to, cell_from, block_below}
use Rattle.mw_rank_medians.specs.Squares.{offset_rows, row_down}
use Rattle.mw_rank_medians.specs.Filled.{or_top, filled_at, filled_under, filled_rank, line_x, line_y}
use Rattle.mw_rank_medians.proofs.Medians.{number_ranked}
use Rattle.mw_rank_medians.proofs.Sums.{sum_to-same, sum_to-turned}

-- what is seen is there once more, and the others are not below a limit up to the greatest level
seen_counted : (top t : ℕ) (here rest full : List ℕ) → length here ≤ 1 → t ≤ top → count_under t rest ≡ count_under t full → count_under t (here ++ rest) ≡ count_under t (or_top top here ∷ full)
seen_counted top t [] rest full few low same = omega (arith, count-cons t top full, one-le top t low, same)
seen_counted top t (v ∷ []) rest full few low same = omega (arith, count-cons t v rest, count-cons t v full, same)
seen_counted top t (v ∷ w ∷ vs) rest full few low same = absurd (omega arith)

pub filled_counted : {A : Type 0} (level : A → ℕ) (top : ℕ) (sight : Sight A) (bs : List Offset) (x y t : ℕ) → t ≤ top → count_under t (levels_under level sight bs x y) ≡ count_under t (filled_under level top sight bs x y)
filled_counted level top sight [] x y t low = refl
filled_counted level top sight (b ∷ bs) x y t low =
    ap (count_under t) (levels-cons level sight b bs x y)
    ∙ seen_counted top t (levels_at level sight b x y) (levels_under level sight bs x y) (filled_under level top sight bs x y) (length-levels_at level sight b x y) low (filled_counted level top sight bs x y t low)

length-filled : {A : Type 0} (level : A → ℕ) (top : ℕ) (sight : Sight A) (bs : List Offset) (x y : ℕ) → length (filled_under level top sight bs x y) ≡ length bs
length-filled level top sight [] x y = refl
length-filled level top sight (b ∷ bs) x y = ap suc (length-filled level top sight bs x y)

-- a number below the greatest level is the same without what was filled
pub rank_filled : {A : Type 0} (level : A → ℕ) (top : ℕ) (sight : Sight A) (bs : List Offset) (x y k : ℕ) → ranked k (filled_under level top sight bs x y) < top
    → ranked k (filled_under level top sight bs x y) ≡ ranked k (levels_under level sight bs x y)
rank_filled level top sight [] x y k low = refl
rank_filled level top sight (b ∷ bs) x y k low =
    let full = filled_under level top sight (b ∷ bs) x y in
    let seen = levels_under level sight (b ∷ bs) x y in
    let v = ranked k full in
    let n = max 1 (min k (length full)) in
    let long = length-filled level top sight (b ∷ bs) x y in
    let short = length-levels level sight (b ∷ bs) x y in
    let nth = nth_is full k n refl (omega arith) in
    let few = filled_counted level top sight (b ∷ bs) x y v (omega arith) in
    let enough = filled_counted level top sight (b ∷ bs) x y (v + 1) (omega arith) in
    nth_from seen k n v (omega (arith, nth.1, enough, count_within (v + 1) seen, long, short)) (omega (arith, nth.0, few), omega (arith, nth.1, enough))

filled-append : {A : Type 0} (level : A → ℕ) (top : ℕ) (sight : Sight A) (bs cs : List Offset) (x y : ℕ) → filled_under level top sight (bs ++ cs) x y ≡ filled_under level top sight bs x y ++ filled_under level top sight cs x y
filled-append level top sight [] cs x y = refl
filled-append level top sight (b ∷ bs) cs x y = ap (λ (l : List ℕ). filled_at level top sight b x y ∷ l) (filled-append level top sight bs cs x y)

filled-down : {A : Type 0} (level : A → ℕ) (top : ℕ) (sight : Sight A) (b : Offset) (x y q : ℕ) → filled_at level top sight (row_down b q) x y ≡ filled_at level top sight b x (y + q)
filled-down level top sight b x y q = ap (λ (t : ℤ). or_top top (map level (option_to_list (sight (pos x +ℤ b.dx) t)))) (let e : pos y +ℤ (b.dy +ℤ pos q) ≡ pos (y + q) +ℤ b.dy = omega (arith, ints) in e)

row_filled : {A : Type 0} (level : A → ℕ) (top : ℕ) (sight : Sight A) (b : Offset) (t x y m : ℕ) → count_under t (filled_under level top sight (offsets_from b m) x y) ≡ sum_to (λ c. below (filled_at level top sight b (x + c) y) t) m
row_filled level top sight b t x y zero = refl
row_filled level top sight b t x y (suc m) =
    ap (λ (l : List Offset). count_under t (filled_under level top sight l x y)) (offsets-snoc b m)
    ∙ ap (count_under t) (filled-append level top sight (offsets_from b m) (offset_on b m ∷ []) x y)
    ∙ count-append t (filled_under level top sight (offsets_from b m) x y) (filled_at level top sight (offset_on b m) x y ∷ [])
    ∙ (let before = row_filled level top sight b t x y m in
    let last = count-cons t (filled_at level top sight (offset_on b m) x y) [] in
    let on = ap (λ (l : List ℕ). below (or_top top l) t) (levels_at-on level sight b m x y) in
    omega (arith, before, last, on))

rows_filled : {A : Type 0} (level : A → ℕ) (top : ℕ) (sight : Sight A) (b : Offset) (t x y side n : ℕ)
    → count_under t (filled_under level top sight (offset_rows b side n) x y) ≡ sum_to (λ q. sum_to (λ c. below (filled_at level top sight b (x + c) (y + q)) t) side) n
rows_filled level top sight b t x y side zero = refl
rows_filled level top sight b t x y side (suc n) =
    ap (count_under t) (filled-append level top sight (offset_rows b side n) (offsets_from (row_down b n) side) x y)
    ∙ count-append t (filled_under level top sight (offset_rows b side n) x y) (filled_under level top sight (offsets_from (row_down b n) side) x y)
    ∙ (let before = rows_filled level top sight b t x y side n in
    let last = row_filled level top sight (row_down b n) t x y side in
    let on = sum_to-same _ (λ c. below (filled_at level top sight b (x + c) (y + n)) t) side (λ c lt. ap (λ (v : ℕ). below v t) (filled-down level top sight b (x + c) y n)) in
    omega (arith, before, last, on))

-- the cells of lines, which are rows or columns of the frame, as a square's
pub square_filled : {A : Type 0} (level : A → ℕ) (d : A) (top : ℕ) (sight : Sight A) (b : Offset) (down : Bool) (x y stride rows side i r t : ℕ) (cells : List A)
    → HasRows level (λ p q. filled_at level top sight b (line_x down x p q) (line_y down y p q)) stride rows cells → i + side ≤ stride → r + side ≤ rows
    → count_under t (filled_under level top sight (offset_rows b side side) (line_x down x i r) (line_y down y i r)) ≡ block_below level d cells (r * stride) stride side i t
square_filled level d top sight b false x y stride rows side i r t cells has across below_rows =
    rows_filled level top sight b t (x + i) (y + r) side side
    ∙ sum_to-same _ (λ q. sum_to (λ c. below (cell_from level d cells (r * stride) stride q (i + c)) t) side) side
    (λ q less. sum_to-same _ _ side (λ c few. ap (λ (v : ℕ). below v t) (cell q c less few)))
    ∙ sum_to-turned (λ q c. below (cell_from level d cells (r * stride) stride q (i + c)) t) side side
  where
    place : (r q c stride i : ℕ) → r * stride + q * stride + (i + c) ≡ (r + q) * stride + (i + c)
    place r q c stride i = grind arith

    cell : (q c : ℕ) → q < side → c < side → filled_at level top sight b (x + i + c) (y + r + q) ≡ cell_from level d cells (r * stride) stride q (i + c)
    cell q c less few =
        ap (λ (p : ℕ). filled_at level top sight b p (y + r + q)) (let e : x + i + c ≡ x + (i + c) = omega arith in e)
        ∙ ap (λ (p : ℕ). filled_at level top sight b (x + (i + c)) p) (let e : y + r + q ≡ y + (r + q) = omega arith in e)
        ∙ sym (has.made (i + c) (r + q) d (omega arith) (omega arith))
        ∙ ap (λ (p : ℕ). level (get_or cells p d)) (sym (place r q c stride i))
square_filled level d top sight b true x y stride rows side i r t cells has across below_rows =
    rows_filled level top sight b t (x + r) (y + i) side side
    ∙ sum_to-same _ (λ q. sum_to (λ c. below (cell_from level d cells (r * stride) stride c (i + q)) t) side) side
    (λ q less. sum_to-same _ _ side (λ c few. ap (λ (v : ℕ). below v t) (cell q c less few)))
  where
    place : (r q c stride i : ℕ) → r * stride + c * stride + (i + q) ≡ (r + c) * stride + (i + q)
    place r q c stride i = grind arith

    cell : (q c : ℕ) → q < side → c < side → filled_at level top sight b (x + r + c) (y + i + q) ≡ cell_from level d cells (r * stride) stride c (i + q)
    cell q c less few =
        ap (λ (p : ℕ). filled_at level top sight b p (y + i + q)) (let e : x + r + c ≡ x + (r + c) = omega arith in e)
        ∙ ap (λ (p : ℕ). filled_at level top sight b (x + (r + c)) p) (let e : y + i + q ≡ y + (i + q) = omega arith in e)
        ∙ sym (has.made (i + q) (r + c) d (omega arith) (omega arith))
        ∙ ap (λ (p : ℕ). level (get_or cells p d)) (sym (place r q c stride i))

-- a level that is known by the block's levels below each limit
pub median_filled : {A : Type 0} (level : A → ℕ) (d : A) (top : ℕ) (sight : Sight A) (b : Offset) (down : Bool) (x y stride rows side k i r v : ℕ) (cells : List A)
    → HasRows level (λ p q. filled_at level top sight b (line_x down x p q) (line_y down y p q)) stride rows cells → i + side ≤ stride → r + side ≤ rows → 1 ≤ k → IsNthLevel (block_below level d cells (r * stride) stride side i) k v
    → v ≡ filled_rank level top sight b side k (line_x down x i r) (line_y down y i r)
median_filled level d top sight b down x y stride rows side k i r v cells has across below_rows some number =
    number_ranked k v (block_below level d cells (r * stride) stride side i) (filled_under level top sight (offset_rows b side side) (line_x down x i r) (line_y down y i r))
    (λ t. square_filled level d top sight b down x y stride rows side i r t cells has across below_rows) some number

-- the rows of a line's squares are within the lines about it
pub lines_fit : (line side count long stride cells wide : ℕ) → cells ≡ (count + side - 1) * stride → line < count → 1 ≤ side → stride ≡ long + side - 1 → wide ≡ long → line * stride + side * stride + wide + side ≤ cells + stride + 1
lines_fit line side count long stride cells wide cells-is lt some stride-is wide-is = omega (arith, cells-is, rows line side (count + side - 1) stride (omega arith))
  where
    rows : (line side n stride : ℕ) → line + side ≤ n → line * stride + side * stride ≤ n * stride
    rows line side n stride le = omega (arith, mul-le-mul_right stride le, (let e : (line + side) * stride ≡ line * stride + side * stride = grind arith in e))
