-- What a window shows under a square of offsets.
use Rattle.std.proofs.Common.{◌≡◌, ℕ, ℤ, pos, ◌+ℤ◌, ◌-ℤ◌, zero, suc, ◌+◌, ◌*◌, ◌<◌, ◌≤◌, List, [], ◌∷◌, ◌++◌, length, get_or, take, refl, ap, sym, arith, ◌∙◌, append-nil, append_assoc}
use Rattle.std.proofs.lemmas.Int.{ints}
use Rattle.std.proofs.lemmas.List.{get_or_default, take_more}
use Rattle.std.proofs.lemmas.Nat.{mul-add-lt}
use Rattle.std.proofs.Math.Nat.{mul-le-mul_right}
use Rattle.mw_model.specs.declared.offsets.Offset.{Offset}
use Rattle.mw_model.specs.Windows.{View, seen_at}
use Rattle.mw_rank.specs.Ranks.{levels_under, levels_at}
use Rattle.mw_rank.specs.Runs.{offsets_from}
use Rattle.mw_rank.specs.Tallies.{count_under}
use Rattle.mw_rank.proofs.Counts.{count-append, count-cons}
use Rattle.mw_rank.proofs.Sights.{levels-append, levels-cons, offset_on, offsets-snoc, seen_inside}
use Rattle.mw_rank_medians.specs.Numbered.{below}
use Rattle.mw_rank_medians.specs.Columns.{sum_to, cell_from}
use Rattle.mw_rank_medians.specs.Squares.{row_down, offset_rows, ShowsSquare}
use Rattle.mw_rank_medians.proofs.Sums.{sum_to-same, sum_to-turned}

-- one offset in a column and row of the window
one_shown : {A : Type 0} (level : A → ℕ) (d : A) (w : View A) (b : Offset) (t x y column row : ℕ) → length w.cells ≡ w.place.height * w.place.width → row < w.place.height → column < w.place.width
    → pos x +ℤ b.dx -ℤ pos w.place.x ≡ pos column → pos y +ℤ b.dy -ℤ pos w.place.y ≡ pos row → count_under t (levels_under level (seen_at w) (b ∷ []) x y) ≡ below (level (get_or w.cells (row * w.place.width + column) d)) t
one_shown level d w b t x y column row size down across column-is row-is =
    let s = get_or w.cells (row * w.place.width + column) d in
    ap (count_under t)
    (levels-cons level (seen_at w) b [] x y
    ∙ append-nil (levels_at level (seen_at w) b x y)
    ∙ sym (seen_inside level w.place.width w.place.height w.cells (pos x +ℤ b.dx -ℤ pos w.place.x) (pos y +ℤ b.dy -ℤ pos w.place.y) column row (level s) s column-is row-is across down size
    (get_or_default w.cells (row * w.place.width + column) d s (omega (arith, size, mul-add-lt row w.place.width column w.place.height down across))) refl))
    ∙ count-cons t (level s) []
    ∙ (let e : below (level s) t + 0 ≡ below (level s) t = omega arith in e)

-- a row of offsets
row_shown : {A : Type 0} (level : A → ℕ) (d : A) (w : View A) (b : Offset) (t x y column row m : ℕ) → length w.cells ≡ w.place.height * w.place.width → row < w.place.height → column + m ≤ w.place.width
    → pos x +ℤ b.dx -ℤ pos w.place.x ≡ pos column → pos y +ℤ b.dy -ℤ pos w.place.y ≡ pos row
    → count_under t (levels_under level (seen_at w) (offsets_from b m) x y) ≡ sum_to (λ c. below (level (get_or w.cells (row * w.place.width + (column + c)) d)) t) m
row_shown level d w b t x y column row zero size down across column-is row-is = refl
row_shown level d w b t x y column row (suc m) size down across column-is row-is =
    ap (λ (l : List Offset). count_under t (levels_under level (seen_at w) l x y)) (offsets-snoc b m)
    ∙ ap (count_under t) (levels-append level (seen_at w) (offsets_from b m) (offset_on b m ∷ []) x y)
    ∙ count-append t (levels_under level (seen_at w) (offsets_from b m) x y) (levels_under level (seen_at w) (offset_on b m ∷ []) x y)
    ∙ (let before = row_shown level d w b t x y column row m size down (omega arith) column-is row-is in
    let last = one_shown level d w (offset_on b m) t x y (column + m) row size down (omega arith) (omega (arith, ints)) row-is in
    omega (arith, before, last))

-- rows of offsets, row after row
rows_shown : {A : Type 0} (level : A → ℕ) (d : A) (w : View A) (b : Offset) (t x y column row side n : ℕ) → length w.cells ≡ w.place.height * w.place.width → row + n ≤ w.place.height → column + side ≤ w.place.width
    → pos x +ℤ b.dx -ℤ pos w.place.x ≡ pos column → pos y +ℤ b.dy -ℤ pos w.place.y ≡ pos row
    → count_under t (levels_under level (seen_at w) (offset_rows b side n) x y) ≡ sum_to (λ r. sum_to (λ c. below (level (get_or w.cells ((row + r) * w.place.width + (column + c)) d)) t) side) n
rows_shown level d w b t x y column row side zero size down across column-is row-is = refl
rows_shown level d w b t x y column row side (suc n) size down across column-is row-is =
    ap (count_under t) (levels-append level (seen_at w) (offset_rows b side n) (offsets_from (row_down b n) side) x y)
    ∙ count-append t (levels_under level (seen_at w) (offset_rows b side n) x y) (levels_under level (seen_at w) (offsets_from (row_down b n) side) x y)
    ∙ (let before = rows_shown level d w b t x y column row side n size (omega arith) across column-is row-is in
    let last = row_shown level d w (row_down b n) t x y column (row + n) side size (omega arith) across column-is (omega (arith, ints)) in
    omega (arith, before, last))

pub square_shown : {A : Type 0} (level : A → ℕ) (d : A) (w : View A) (b : Offset) (x y n column row from side : ℕ) → length w.cells ≡ w.place.height * w.place.width → row + side ≤ w.place.height → column + n + side ≤ w.place.width + 1
    → pos x +ℤ b.dx -ℤ pos w.place.x ≡ pos column → pos y +ℤ b.dy -ℤ pos w.place.y ≡ pos row → from ≡ row * w.place.width + column
    → ShowsSquare level d (seen_at w) w.cells (offset_rows b side side) x y n from w.place.width side
square_shown level d w b x y n column row from side size down across column-is row-is from-is = record {
  inside = fits row side column n w.place.width w.place.height from (length w.cells) size down across from-is;
  seen = λ i t lt.
      rows_shown level d w b t (x + i) y (column + i) row side side size down (omega arith) (omega (arith, ints)) row-is
      ∙ sum_to-same _ (λ r. sum_to (λ c. below (cell_from level d w.cells from w.place.width r (i + c)) t) side) side
      (λ r less. sum_to-same _ _ side (λ c few. ap (λ (p : ℕ). below (level (get_or w.cells p d)) t) (place row r column i c w.place.width from from-is)))
      ∙ sum_to-turned (λ r c. below (cell_from level d w.cells from w.place.width r (i + c)) t) side side;
}
  where
    place : (row r column i c width from : ℕ) → from ≡ row * width + column → (row + r) * width + (column + i + c) ≡ from + r * width + (i + c)
    place row r column i c width from is = grind arith

    apart : (row side width : ℕ) → (row + side) * width ≡ row * width + side * width
    apart row side width = grind arith

    rows : (row side width height : ℕ) → row + side ≤ height → row * width + side * width ≤ height * width
    rows row side width height le = omega (arith, mul-le-mul_right width le, apart row side width)

    fits : (row side column n width height from cells : ℕ) → cells ≡ height * width → row + side ≤ height → column + n + side ≤ width + 1 → from ≡ row * width + column → from + side * width + n + side ≤ cells + width + 1
    fits row side column n width height from cells size down across is = omega (arith, rows row side width height down)

-- one offset more of a row
pub row_more : (offsets rows : List Offset) (b o : Offset) (side row column : ℕ) → row * side + column < length offsets → get_or offsets (row * side + column) o ≡ o → o.dx ≡ b.dx +ℤ pos column → o.dy ≡ b.dy +ℤ pos row
    → take (row * side + column) offsets ≡ rows ++ offsets_from (row_down b row) column → take (row * side + (column + 1)) offsets ≡ rows ++ offsets_from (row_down b row) (column + 1)
row_more offsets rows b o side row column lt is dx dy before =
    ap (λ (n : ℕ). take n offsets) (let e : row * side + (column + 1) ≡ row * side + column + 1 = omega arith in e)
    ∙ take_more offsets (row * side + column) o lt
    ∙ ap (λ (t : Offset). take (row * side + column) offsets ++ t ∷ []) (is ∙ stands o b row column dx dy)
    ∙ ap (λ (l : List Offset). l ++ offset_on (row_down b row) column ∷ []) before
    ∙ append_assoc rows (offsets_from (row_down b row) column) (offset_on (row_down b row) column ∷ [])
    ∙ ap (λ (l : List Offset). rows ++ l) (sym (offsets-snoc (row_down b row) column) ∙ ap (offsets_from (row_down b row)) (let e : suc column ≡ column + 1 = omega arith in e))
  where
    two : (a c p q : ℤ) → a ≡ p → c ≡ q → let s : Offset = record { dx = a; dy = c } in let t : Offset = record { dx = p; dy = q } in s ≡ t
    two a c p q first second = cc

    stands : (o b : Offset) (row column : ℕ) → o.dx ≡ b.dx +ℤ pos column → o.dy ≡ b.dy +ℤ pos row → o ≡ offset_on (row_down b row) column
    stands o b row column dx dy = two o.dx o.dy (b.dx +ℤ pos column) (b.dy +ℤ pos row) dx dy
