-- What a window shows of the columns under a rectangle.
use Rattle.std.proofs.Common.{◌≡◌, ℕ, ℤ, pos, negsuc, ◌+ℤ◌, ◌-ℤ◌, ◌+◌, ◌-◌, ◌*◌, ◌<◌, ◌≤◌, ◌&&◌, inl, inr, cond, List, [], map, length, get_or, take, drop, Option, None, refl, ap, sym, arith, ◌∙◌, length-take, length-drop, subst}
use Rattle.std.specs.Option.{option_to_list}
use Rattle.std.specs.Prelude.{nat_lt, nat_le}
use Rattle.std.proofs.lemmas.Bool.{cases_lt}
use Rattle.std.proofs.lemmas.Bool.Decides.{nat_tests}
use Rattle.std.proofs.lemmas.Int.{ints}
use Rattle.std.proofs.lemmas.List.{get_or-take, get_or-drop, get_or_default, get_or_past}
use Rattle.std.proofs.lemmas.Nat.{mul-add-lt}
use Rattle.std.proofs.Math.Nat.{mul-le-mul_right}
use Rattle.mw_model.proofs.mw_facts.Numbers.{one_if, one_if-le}
use Rattle.mw_model.specs.declared.offsets.Rect.{Rect}
use Rattle.mw_model.specs.Rasters.{Sight, raster, cell_at}
use Rattle.mw_model.specs.Windows.{View, seen_at}
use Rattle.mw_rank_counts.proofs.mw_pixel.Cells.{cell_at-right, cell_at-below}
use Rattle.mw_rank_counts.specs.Counting.{AllUnder}
use Rattle.mw_rank_counts.specs.mw_rank.Ranks.{levels_at}
use Rattle.mw_rank_counts.specs.mw_rank.Tallies.{count_under}
use Rattle.mw_rank_counts.proofs.mw_rank.Counts.{count-cons}
use Rattle.mw_rank_counts.proofs.mw_rank.Sights.{seen_inside}
use Rattle.mw_rank_rows.specs.declared.group.Shown.{Shown}
use Rattle.mw_rank_rows.specs.declared.rectangle.Rectangle.{Rectangle}
use Rattle.mw_rank_rows.specs.declared.slide.Strip.{Strip}
use Rattle.mw_rank_rows.specs.Columns.{total, column_count}
use Rattle.mw_rank_rows.specs.Rectangles.{row_start, AreLaneMarks, AreRowsShown}
use Rattle.mw_rank_rows.specs.Tables.{ShowsColumns}
use Rattle.mw_rank_rows.proofs.Rectangular.{column_below}
use Rattle.mw_rank_rows.proofs.Sums.{total-same, total-none, total-part}

pub add-mul : (a b w : ℕ) → (a + b) * w ≡ a * w + b * w
add-mul a b w = grind arith

-- a raster has nothing in a row, or a column, that it lacks
pub unseen_row : {A : Type 0} (width height : ℕ) (cells : List A) (column row : ℤ) → ((r : ℕ) → r < height → row ≡ pos r → ⊥) → cell_at (raster width height cells) column row ≡ None
unseen_row width height cells (negsuc n) row none = refl
unseen_row width height cells (pos x) (negsuc n) none = refl
unseen_row width height cells (pos x) (pos r) none = elim (cases_lt r height) [
  | inl inside ↦ absurd (none r inside refl)
  | inr below ↦ elim (cases_lt x width) [
    | inl across ↦ cell_at-below (raster width height cells) x r across below
    | inr right ↦ cell_at-right (raster width height cells) x r right
  ]
]

pub unseen_column : {A : Type 0} (width height : ℕ) (cells : List A) (column row : ℤ) → ((at : ℕ) → at < width → column ≡ pos at → ⊥) → cell_at (raster width height cells) column row ≡ None
unseen_column width height cells (negsuc n) row none = refl
unseen_column width height cells (pos x) (negsuc n) none = refl
unseen_column width height cells (pos x) (pos r) none = elim (cases_lt x width) [
  | inl across ↦ absurd (none x across refl)
  | inr right ↦ cell_at-right (raster width height cells) x r right
]

-- nothing is counted where nothing is seen
none_counted : {A : Type 0} (level : A → ℕ) (v : ℕ) (o : Option A) → o ≡ None → count_under v (map level (option_to_list o)) ≡ 0
none_counted level v o none = ap (λ (p : Option _). count_under v (map level (option_to_list p))) none

mark_inside : (rows : ℕ) (marks : List ℕ) (p : ℕ) → AreLaneMarks rows marks → 7 ≤ p → p < rows + 7 → get_or marks p 0 ≡ 1
mark_inside rows marks p are low high = are.each p (omega arith) ∙ inside rows p low high
  where
    inside : (rows p : ℕ) → 7 ≤ p → p < rows + 7 → ◌≡◌ {A = ℕ} (cond (nat_le 7 p && nat_lt p (rows + 7)) 1 0) 1
    inside rows p low high = grind (arith, nat_tests)

mark_before : (rows : ℕ) (marks : List ℕ) (p : ℕ) → AreLaneMarks rows marks → p < 7 → get_or marks p 0 ≡ 0
mark_before rows marks p are low = are.each p (omega arith) ∙ before rows p low
  where
    before : (rows p : ℕ) → p < 7 → ◌≡◌ {A = ℕ} (cond (nat_le 7 p && nat_lt p (rows + 7)) 1 0) 0
    before rows p low = grind (arith, nat_tests)

mark_after : (rows : ℕ) (marks : List ℕ) (p : ℕ) → AreLaneMarks rows marks → rows + 7 ≤ p → p < rows + 14 → get_or marks p 0 ≡ 0
mark_after rows marks p are high within = are.each p within ∙ after rows p high
  where
    after : (rows p : ℕ) → rows + 7 ≤ p → ◌≡◌ {A = ℕ} (cond (nat_le 7 p && nat_lt p (rows + 7)) 1 0) 0
    after rows p high = grind (arith, nat_tests)

-- so many samples below v are seen in row q of those that eight rows of results look at
abbrev seen_in : {A : Type 0} → (A → ℕ) → Sight A → Rectangle → ℕ → ℕ → ℕ → ℕ → ℕ
seen_in level sight t x y v q = count_under v (levels_at level sight (row_start t q) x y)

row_moved : {A : Type 0} (level : A → ℕ) (sight : Sight A) (t : Rectangle) (x y v n r : ℕ) → count_under v (levels_at level sight (row_start t r) x (y + n)) ≡ seen_in level sight t x y v (n + r)
row_moved level sight t x y v n r = ap (λ (p : ℤ). count_under v (map level (option_to_list (sight (pos x +ℤ t.dx) p)))) (let e : pos (y + n) +ℤ (t.dy +ℤ pos r) ≡ pos y +ℤ (t.dy +ℤ pos (n + r)) = omega (arith, ints) in e)

-- what a lane sees, by the marks of all rows
column_marked : {A : Type 0} (level : A → ℕ) (sight : Sight A) (t : Rectangle) (x y v j : ℕ) (marks : List ℕ) → j < 8 → AreLaneMarks t.rows marks
    → column_below level sight t y v x j ≡ total (λ q. get_or marks (q + j) 0 * seen_in level sight t x y v q) (t.rows + 7)
column_marked level sight t x y v j marks lt are =
    let n = 7 - j in
    let δ = seen_in level sight t x y v in
    let f = λ (q : ℕ). get_or marks (q + j) 0 * δ q in
    total-same (λ r. count_under v (levels_at level sight (row_start t r) x (y + n))) (λ r. f (n + r)) t.rows
    (λ r less. row_moved level sight t x y v n r ∙ sym (ap (λ (m : ℕ). m * δ (n + r)) (mark_inside t.rows marks (n + r + j) are (omega arith) (omega arith)) ∙ once (δ (n + r))))
    ∙ sym (total-part f n t.rows j (λ i less. ap (λ (m : ℕ). m * δ i) (mark_before t.rows marks (i + j) are (omega arith)) ∙ never (δ i))
    (λ i less. ap (λ (m : ℕ). m * δ (n + t.rows + i)) (mark_after t.rows marks (n + t.rows + i + j) are (omega arith) (omega arith)) ∙ never (δ (n + t.rows + i))))
    ∙ ap (total f) (let e : n + t.rows + j ≡ t.rows + 7 = omega arith in e)
  where
    once : (a : ℕ) → 1 * a ≡ a
    once a = omega arith

    never : (a : ℕ) → 0 * a ≡ 0
    never a = omega arith

-- the samples of the rows that the window shows
pub record AreRows {A : Type 0} (w : View A) (s : Shown) (samples : List A) : Type 0 where
  pub size : length samples ≡ s.rows * w.place.width
  pub cells : (p : ℕ) (d : A) → p < s.rows * w.place.width → get_or samples p d ≡ get_or w.cells (s.first * w.place.width + p) d
  pub fits : s.first * w.place.width + s.rows * w.place.width ≤ length w.cells

pub are_rows : {A : Type 0} (w : View A) (s : Shown) (wide from : ℕ) (samples : List A) → length w.cells ≡ w.place.height * w.place.width → s.first + s.rows ≤ w.place.height → wide ≡ w.place.width → from ≡ s.first * wide
    → samples ≡ take (from + s.rows * wide - from) (drop from w.cells) → AreRows w s samples
are_rows w s wide from samples size inside wide-is from-is is =
    let width = w.place.width in
    let start : from ≡ s.first * width = from-is ∙ ap (λ (n : ℕ). s.first * n) wide-is in
    let many : s.rows * wide ≡ s.rows * width = ap (λ (n : ℕ). s.rows * n) wide-is in
    let room : s.first * width + s.rows * width ≤ w.place.height * width = within s.first s.rows w.place.height width inside in
    record {
      size = ap length is ∙ omega (arith, length-take (from + s.rows * wide - from) (drop from w.cells), length-drop from w.cells, start, many, room, size);
      cells = λ p d lt.
          ap (λ (l : List _). get_or l p d) is
          ∙ get_or-take (from + s.rows * wide - from) (drop from w.cells) p d (omega (arith, many))
          ∙ get_or-drop from w.cells p d
          ∙ ap (λ (n : ℕ). get_or w.cells (n + p) d) start;
      fits = omega (arith, room, size);
    }
  where
    within : (a b h w : ℕ) → a + b ≤ h → a * w + b * w ≤ h * w
    within a b h w le = omega (arith, mul-le-mul_right w le, add-mul a b w)

-- the sample in a row and a column that the window shows
row_seen : {A : Type 0} (level : A → ℕ) (d : A) (w : View A) (t : Rectangle) (s : Shown) (samples : List A) (x y v at i : ℕ) → length w.cells ≡ w.place.height * w.place.width → AreRows w s samples
    → AreRowsShown (pos y +ℤ t.dy -ℤ pos w.place.y) (t.rows + 7) w.place.height s → at < w.place.width → pos x +ℤ t.dx -ℤ pos w.place.x ≡ pos at → i < s.rows
    → seen_in level (seen_at w) t x y v (s.skip + i) ≡ cond (nat_lt (level (get_or samples (i * w.place.width + at) d)) v) 1 0
row_seen level d w t s samples x y v at i size are shown across column lt =
    let width = w.place.width in
    let row : pos y +ℤ (t.dy +ℤ pos (s.skip + i)) -ℤ pos w.place.y ≡ pos (s.first + i) = omega (arith, ints, shown.at i lt) in
    let down : s.first + i < w.place.height = omega (arith, shown.inside) in
    let p = (s.first + i) * width + at in
    let here : p ≡ s.first * width + (i * width + at) = place s.first i width at in
    let cell : get_or samples (i * width + at) d ≡ get_or w.cells p d = are.cells (i * width + at) d (omega (arith, mul-add-lt i width at s.rows lt across)) ∙ ap (λ (n : ℕ). get_or w.cells n d) (sym here) in
    ap (count_under v)
    (sym (seen_inside level width w.place.height w.cells (pos x +ℤ t.dx -ℤ pos w.place.x) (pos y +ℤ (t.dy +ℤ pos (s.skip + i)) -ℤ pos w.place.y) at (s.first + i) _ (get_or w.cells p d) column row across down size
    (get_or_default w.cells p d _ (omega (arith, size, mul-add-lt (s.first + i) width at w.place.height down across))) refl))
    ∙ count-cons v (level (get_or w.cells p d)) []
    ∙ (let e : one_if (nat_lt (level (get_or w.cells p d)) v) + 0 ≡ one_if (nat_lt (level (get_or w.cells p d)) v) = omega arith in e)
    ∙ ap (λ (a : _). one_if (nat_lt (level a) v)) (sym cell)
  where
    place : (a i w at : ℕ) → (a + i) * w + at ≡ a * w + (i * w + at)
    place a i w at = grind arith

-- a column that the window has
column_seen : {A : Type 0} (level : A → ℕ) (d : A) (w : View A) (t : Rectangle) (s : Shown) (samples : List A) (marks rest : List ℕ) (x y v at j : ℕ) → length w.cells ≡ w.place.height * w.place.width → AreRows w s samples → AreLaneMarks t.rows marks → rest ≡ drop s.skip marks
    → AreRowsShown (pos y +ℤ t.dy -ℤ pos w.place.y) (t.rows + 7) w.place.height s → j < 8 → at < w.place.width → pos x +ℤ t.dx -ℤ pos w.place.x ≡ pos at
    → column_below level (seen_at w) t y v x j ≡ column_count level d samples w.place.width at rest v j s.rows
column_seen level d w t s samples marks rest x y v at j size are marked rest-is shown lt across column =
    let δ = seen_in level (seen_at w) t x y v in
    let f = λ (q : ℕ). get_or marks (q + j) 0 * δ q in
    let late = t.rows + 7 - (s.skip + s.rows) in
    column_marked level (seen_at w) t x y v j marks lt marked
    ∙ ap (total f) (let e : t.rows + 7 ≡ s.skip + s.rows + late = omega (arith, shown.within) in e)
    ∙ total-part f s.skip s.rows late
    (λ q less. ap (λ (n : ℕ). get_or marks (q + j) 0 * n) (unseen q (λ r inside is. shown.early q r less inside (omega (arith, ints, is)))) ∙ never (get_or marks (q + j) 0))
    (λ i less.
    let q = s.skip + s.rows + i in
    ap (λ (n : ℕ). get_or marks (q + j) 0 * n) (unseen q (λ r inside is. shown.late q r (omega arith) (omega (arith, shown.within)) inside (omega (arith, ints, is)))) ∙ never (get_or marks (q + j) 0))
    ∙ total-same (λ i. f (s.skip + i)) (λ i. get_or rest (i + j) 0 * cond (nat_lt (level (get_or samples (i * w.place.width + at) d)) v) 1 0) s.rows
    (λ i less.
    ap (λ (n : ℕ). get_or marks (s.skip + i + j) 0 * n) (row_seen level d w t s samples x y v at i size are shown across column less)
    ∙ ap (λ (m : ℕ). m * one_if (nat_lt (level (get_or samples (i * w.place.width + at) d)) v))
    (ap (λ (p : ℕ). get_or marks p 0) (let e : s.skip + i + j ≡ s.skip + (i + j) = omega arith in e) ∙ sym (ap (λ (l : List ℕ). get_or l (i + j) 0) rest-is ∙ get_or-drop s.skip marks (i + j) 0)))
  where
    never : (a : ℕ) → a * 0 ≡ 0
    never a = omega arith

    unseen : (q : ℕ) → ((r : ℕ) → r < w.place.height → pos y +ℤ (t.dy +ℤ pos q) -ℤ pos w.place.y ≡ pos r → ⊥) → seen_in level (seen_at w) t x y v q ≡ 0
    unseen q none = none_counted level v _ (unseen_row w.place.width w.place.height w.cells (pos x +ℤ t.dx -ℤ pos w.place.x) (pos y +ℤ (t.dy +ℤ pos q) -ℤ pos w.place.y) none)

-- the rows of samples, which begin at a column of the frame, show each column that is dx from a place: below v, lane j
-- counts `column v x j` samples of the one at x
pub record ShowsSheet {A : Type 0} (level : A → ℕ) (d : A) (levels : ℕ) (column : ℕ → ℕ → ℕ → ℕ) (samples : List A) (width rows : ℕ) (marks : List ℕ) (first : ℕ) (dx : ℤ) (all : List ℕ) : Type 0 where
  pub inside : (i at : ℕ) → i < rows → at < width → i * width + at < length samples
  pub marked : rows + 7 ≤ length marks
  pub under : AllUnder level d samples levels
  pub lanes : length all ≡ 8
  pub every : (j : ℕ) → j < 8 → get_or all j 0 ≡ total (λ i. get_or marks (i + j) 0) rows
  pub seen : (x at v j : ℕ) → j < 8 → at < width → pos x +ℤ dx -ℤ pos first ≡ pos at → column v x j ≡ column_count level d samples width at marks v j rows
  pub unseen : (x v j : ℕ) → j < 8 → ((at : ℕ) → at < width → pos x +ℤ dx -ℤ pos first ≡ pos at → ⊥) → column v x j ≡ 0

pub shows_columns : {A : Type 0} (level : A → ℕ) (d : A) (w : View A) (t : Rectangle) (s : Shown) (y levels : ℕ) (samples : List A) (marks rest all : List ℕ) → length w.cells ≡ w.place.height * w.place.width → AllUnder level d w.cells levels → AreRows w s samples → AreLaneMarks t.rows marks
    → rest ≡ drop s.skip marks → AreRowsShown (pos y +ℤ t.dy -ℤ pos w.place.y) (t.rows + 7) w.place.height s → length all ≡ 8 → ((j : ℕ) → j < 8 → get_or all j 0 ≡ total (λ i. get_or rest (i + j) 0) s.rows)
    → ShowsSheet level d levels (column_below level (seen_at w) t y) samples w.place.width s.rows rest w.place.x t.dx all
shows_columns level d w t s y levels samples marks rest all size under are marked rest-is shown all-long all-is = record {
  inside = λ i at lt across. omega (arith, are.size, mul-add-lt i w.place.width at s.rows lt across);
  marked = omega (arith, ap length rest-is, length-drop s.skip marks, marked.size, shown.within);
  under = λ i lt. let p = s.first * w.place.width + i in omega (arith, ap level (are.cells i d (omega (arith, are.size))), under p (omega (arith, are.size, are.fits)));
  lanes = all-long;
  every = all-is;
  seen = λ x at v j lt across column. column_seen level d w t s samples marks rest x y v at j size are marked rest-is shown lt across column;
  unseen = λ x v j lt none.
      total-none (λ r. count_under v (levels_at level (seen_at w) (row_start t r) x (y + (7 - j)))) t.rows
      (λ r less. none_counted level v _ (unseen_column w.place.width w.place.height w.cells (pos x +ℤ t.dx -ℤ pos w.place.x) (pos (y + (7 - j)) +ℤ (t.dy +ℤ pos r) -ℤ pos w.place.y) none));
}

-- no mark is greater than one
pub marks_small : (rows skip : ℕ) (marks rest : List ℕ) → AreLaneMarks rows marks → rest ≡ drop skip marks → (p : ℕ) → get_or rest p 0 ≤ 1
marks_small rows skip marks rest are rest-is p =
    let here : get_or rest p 0 ≡ get_or marks (skip + p) 0 = ap (λ (l : List ℕ). get_or l p 0) rest-is ∙ get_or-drop skip marks p 0 in
    elim (cases_lt (skip + p) (rows + 14)) [
      | inl inside ↦ omega (arith, here, are.each (skip + p) inside, one_if-le (nat_le 7 (skip + p) && nat_lt (skip + p) (rows + 7)))
      | inr past ↦ omega (arith, here, get_or_past marks (skip + p) 0 (omega (arith, are.size)))
    ]

-- a group shows, said of what the code has at hand
pub group_shows : {A : Type 0} (level : A → ℕ) (d : A) (w : View A) (place : Rect) (t : Rectangle) (s : Shown) (top dx : ℤ) (y count levels : ℕ) (cells samples : List A) (marks rest all : List ℕ) → place ≡ w.place → length w.cells ≡ w.place.height * w.place.width → cells ≡ w.cells
    → top ≡ pos y +ℤ t.dy -ℤ pos w.place.y → dx ≡ t.dx → count ≡ t.rows + 7 → AreRowsShown top count place.height s → samples ≡ take (s.first * place.width + s.rows * place.width - s.first * place.width) (drop (s.first * place.width) cells) → AreLaneMarks t.rows marks → rest ≡ drop s.skip marks
    → length all ≡ 8 → ((j : ℕ) → j < 8 → get_or all j 0 ≡ total (λ i. get_or rest (i + j) 0) s.rows) → AllUnder level d w.cells levels → ShowsSheet level d levels (column_below level (seen_at w) t y) samples place.width s.rows rest place.x dx all
group_shows level d w place t s top dx y count levels cells samples marks rest all place-is size cells-is top-is dx-is count-is shown samples-is marked rest-is all-long all-is under =
    let height : place.height ≡ w.place.height = ap (λ (p : Rect). p.height) place-is in
    let width : place.width ≡ w.place.width = ap (λ (p : Rect). p.width) place-is in
    let shown-here : AreRowsShown (pos y +ℤ t.dy -ℤ pos w.place.y) (t.rows + 7) w.place.height s =
    subst (λ (n : ℕ). AreRowsShown (pos y +ℤ t.dy -ℤ pos w.place.y) (t.rows + 7) n s) height
    (subst (λ (n : ℕ). AreRowsShown (pos y +ℤ t.dy -ℤ pos w.place.y) n place.height s) count-is (subst (λ (z : ℤ). AreRowsShown z count place.height s) top-is shown)) in
    let rows = are_rows w s place.width (s.first * place.width) samples size shown-here.inside width refl
    (samples-is ∙ ap (λ (l : List _). take (s.first * place.width + s.rows * place.width - s.first * place.width) (drop (s.first * place.width) l)) cells-is) in
    subst (λ (z : ℤ). ShowsSheet level d levels (column_below level (seen_at w) t y) samples place.width s.rows rest place.x z all) (sym dx-is)
    (subst (λ (p : Rect). ShowsSheet level d levels (column_below level (seen_at w) t y) samples p.width s.rows rest p.x t.dx all) (sym place-is)
    (shows_columns level d w t s y levels samples marks rest all size under rows marked rest-is shown-here all-long all-is))

-- the rows that the window shows are in it
pub rows_fit : (first rows height width place cells : ℕ) → first + rows ≤ height → width ≡ place → cells ≡ height * place → first * width + rows * width ≤ cells
rows_fit first rows height width place cells inside width-is cells-is = go first rows height place width cells inside width-is cells-is
  where
    go : (a b h p w c : ℕ) → a + b ≤ h → w ≡ p → c ≡ h * p → a * w + b * w ≤ c
    go a b h p w c le same is = omega (arith, mul-le-mul_right w le, add-mul a b w, is, ap (λ (n : ℕ). h * n) same)

-- a strip of what the code has at hand
pub strip_shows : {A : Type 0} (level : A → ℕ) (d : A) (levels : ℕ) (column : ℕ → ℕ → ℕ → ℕ) (s : Strip A) (all : List ℕ) → ShowsSheet level d levels column s.sheet.samples.now s.sheet.width s.sheet.rows s.sheet.marks.now s.first s.dx all → ShowsColumns level d levels column s all
strip_shows level d levels column s all t = record { inside = t.inside; marked = t.marked; under = t.under; lanes = t.lanes; every = t.every; seen = t.seen; unseen = t.unseen }
