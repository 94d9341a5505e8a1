-- Ranks of a block of results by numbers of what it sees.
use Rattle.std.proofs.Common.{◌≡◌, ℕ, zero, suc, ℤ, pos, ◌+ℤ◌, ◌-ℤ◌, ◌+◌, ◌-◌, ◌*◌, ◌<◌, ◌≤◌, ◌⊎◌, inl, inr, List, [], ◌∷◌, ◌++◌, map, length, get_or, Option, None, refl, ap, sym, arith, subst, ◌∙◌}
use Rattle.std.specs.Option.{option_to_list}
use Rattle.std.proofs.lemmas.Bool.{cases_eq, cases_lt}
use Rattle.std.proofs.lemmas.Int.{ints}
use Rattle.std.proofs.lemmas.List.{get_or_default, get_or-map, length-map}
use Rattle.std.proofs.lemmas.Nat.{mul-add-lt}
use Rattle.std.proofs.Math.Nat.{mul-le-mul_right}
use Rattle.mw_model.specs.declared.offsets.Offset.{Offset}
use Rattle.mw_model.specs.declared.offsets.Rect.{Rect}
use Rattle.mw_model.specs.PlanSteps.{ranked}
use Rattle.mw_model.specs.Rasters.{Sight}
use Rattle.mw_model.specs.Windows.{View, seen_at}
use Rattle.mw_rank_counts.specs.mw_rank.Ranks.{levels_under, HasRows}
use Rattle.mw_rank_counts.specs.mw_rank.Runs.{offsets_from}
use Rattle.mw_rank_counts.proofs.mw_rank.Sights.{levels-append, seen_inside}
use Rattle.mw_rank_numbers.specs.declared.numbering.Part.{Part}
use Rattle.mw_rank_numbers.specs.Numbers.{level_in_part, IsNumbering}
use Rattle.mw_rank_numbers.proofs.Ranked.{AreNumbers, SeesNumbers, no_numbers, numbers_append, row_numbers, rank_back}
use Rattle.mw_rank_rows.specs.declared.rectangle.Rectangle.{Rectangle}
use Rattle.mw_rank_rows.specs.declared.group.Shown.{Shown}
use Rattle.mw_rank_rows.specs.Blocks.{ShowsPart, IsPart, HasColumns, shown_of_parts}
use Rattle.mw_rank_rows.specs.Rectangles.{row_start, offsets_of_rows, IsRectangle, AreRowsShown}
use Rattle.mw_rank_rows.proofs.Views.{unseen_row, unseen_column}

-- the numbers under all offsets of a rectangle
rectangle_numbers : {A : Type 0} (level : A → ℕ) (number : ℕ → ℕ) (levels : List A) (sight : Sight A) (seen : Sight ℕ) (t : Rectangle) (n x y : ℕ) → ((r i : ℕ) → r < n → i < t.columns → SeesNumbers level number levels sight seen (pos x +ℤ (t.dx +ℤ pos i)) (pos y +ℤ (t.dy +ℤ pos r)))
    → AreNumbers level number levels (levels_under (λ (s : ℕ). s) seen (offsets_of_rows t n) x y) (levels_under level sight (offsets_of_rows t n) x y)
rectangle_numbers level number levels sight seen t zero x y sees = no_numbers level number levels
rectangle_numbers level number levels sight seen t (suc n) x y sees =
    let row = offsets_from (row_start t n) t.columns in
    let before = rectangle_numbers level number levels sight seen t n x y (λ r i less lt. sees r i (omega arith) lt) in
    let more = row_numbers level number levels sight seen (row_start t n) t.columns x y (λ i lt. sees n i (omega arith) lt) in
    let both = numbers_append level number levels (levels_under (λ (s : ℕ). s) seen (offsets_of_rows t n) x y) (levels_under level sight (offsets_of_rows t n) x y) (levels_under (λ (s : ℕ). s) seen row x y) (levels_under level sight row x y) before more in
    subst (λ (l : List ℕ). AreNumbers level number levels l (levels_under level sight (offsets_of_rows t (suc n)) x y)) (sym (levels-append (λ (s : ℕ). s) seen (offsets_of_rows t n) row x y))
    (subst (λ (l : List ℕ). AreNumbers level number levels (levels_under (λ (s : ℕ). s) seen (offsets_of_rows t n) x y ++ levels_under (λ (s : ℕ). s) seen row x y) l) (sym (levels-append level sight (offsets_of_rows t n) row x y)) both)

-- a column that results look at is one of the part, or one that the window lacks
shown_or : (top : ℤ) (count height : ℕ) (s : Shown) (m : ℕ) (c : ℤ) → AreRowsShown top count height s → m < count → c ≡ top +ℤ pos m → ((i : ℕ) × (i < s.rows) × (c ≡ pos (s.first + i))) ⊎ ((r : ℕ) → r < height → c ≡ pos r → ⊥)
shown_or top count height s m c is lt c-is =
    elim (cases_lt m s.skip) [
      | inl early ↦ inr (λ r inside here. is.early m r early inside (sym c-is ∙ here))
      | inr late ↦ elim (cases_lt m (s.skip + s.rows)) [
        | inl within ↦ inl (m - s.skip, omega arith, c-is ∙ ap (λ (n : ℕ). top +ℤ pos n) (let e : m ≡ s.skip + (m - s.skip) = omega arith in e) ∙ is.at (m - s.skip) (omega arith))
        | inr past ↦ inr (λ r inside here. is.late m r past lt inside (sym c-is ∙ here))
      ]
    ]

none_seen : {A : Type 0} (level : A → ℕ) (number : ℕ → ℕ) (levels : List A) (o : Option A) (p : Option ℕ) → o ≡ None → p ≡ None → AreNumbers level number levels (map (λ (s : ℕ). s) (option_to_list p)) (map level (option_to_list o))
none_seen level number levels o p o-is p-is = rw (o-is, p-is) (no_numbers level number levels)

-- a window, and that of the numbers of a part
record HasNumbers {A : Type 0} (level : A → ℕ) (d : A) (number : ℕ → ℕ) (levels : List A) (w : View A) (n : View ℕ) (part : Part) : Type 0 where
  pub size : length w.cells ≡ w.place.height * w.place.width
  pub place : IsPart w.place part n.place
  pub across : part.column + part.width ≤ w.place.width
  pub down : part.row + part.height ≤ w.place.height
  pub numbering : IsNumbering level d number levels w part n.cells

seen_both : {A : Type 0} (level : A → ℕ) (d : A) (number : ℕ → ℕ) (levels : List A) (w : View A) (n : View ℕ) (part : Part) (c r : ℤ) (i j : ℕ) → HasNumbers level d number levels w n part → i < part.width → j < part.height → c -ℤ pos w.place.x ≡ pos (part.column + i) → r -ℤ pos w.place.y ≡ pos (part.row + j)
    → SeesNumbers level number levels (seen_at w) (seen_at n) c r
seen_both level d number levels w n part c r i j has across down c-is r-is =
    let p = (part.row + j) * w.place.width + (part.column + i) in
    let q = j * n.place.width + i in
    let v = level_in_part level d w part i j in
    let place = has.place in
    let numbered = has.numbering in
    let size : length n.cells ≡ n.place.height * n.place.width = numbered.size ∙ (let wide = place.width in let high = place.height in sym (ap (λ (h : ℕ). h * n.place.width) high ∙ ap (λ (m : ℕ). part.height * m) wide)) in
    let right : part.column + i < w.place.width = omega (arith, has.across) in
    let low : part.row + j < w.place.height = omega (arith, has.down) in
    let inside : p < length w.cells = omega (arith, has.size, mul-add-lt (part.row + j) w.place.width (part.column + i) w.place.height low right) in
    let right-there : i < n.place.width = omega (arith, place.width) in
    let low-there : j < n.place.height = omega (arith, place.height) in
    let inside-there : q < length n.cells = omega (arith, size, mul-add-lt j n.place.width i n.place.height low-there right-there) in
    let here : v ∷ [] ≡ map level (option_to_list (seen_at w c r)) =
    seen_inside level w.place.width w.place.height w.cells (c -ℤ pos w.place.x) (r -ℤ pos w.place.y) (part.column + i) (part.row + j) v (get_or w.cells p d) c-is r-is right low has.size (get_or_default w.cells p d (get_or w.cells p d) inside) refl in
    let number-is : number v ≡ get_or n.cells q 0 = sym (ap (λ (m : ℕ). get_or n.cells (j * m + i) 0) place.width ∙ numbered.each i j across down) in
    let there : number v ∷ [] ≡ map (λ (s : ℕ). s) (option_to_list (seen_at n c r)) =
    seen_inside (λ (s : ℕ). s) n.place.width n.place.height n.cells (c -ℤ pos n.place.x) (r -ℤ pos n.place.y) i j (number v) (get_or n.cells q 0) (omega (arith, ints, place.x, c-is)) (omega (arith, ints, place.y, r-is)) right-there low-there size (get_or_default n.cells q 0 (get_or n.cells q 0) inside-there) number-is in
    subst (λ (l : List ℕ). AreNumbers level number levels l (map level (option_to_list (seen_at w c r)))) there
    (subst (λ (l : List ℕ). AreNumbers level number levels (number v ∷ []) l) here (record { is = refl; all = (numbered.numbered i j across down, tt) }))

-- what a block of results sees of the numbers are those of what it sees of the levels
block_numbers : {A : Type 0} (level : A → ℕ) (d : A) (number : ℕ → ℕ) (levels : List A) (w : View A) (n : View ℕ) (t : Rectangle) (place : Rect) (part : Part) (x y : ℕ) → HasNumbers level d number levels w n part → ShowsPart w.place t place part → x < place.width → y < place.height
    → AreNumbers level number levels (levels_under (λ (s : ℕ). s) (seen_at n) (offsets_of_rows t t.rows) (place.x + x) (place.y + y)) (levels_under level (seen_at w) (offsets_of_rows t t.rows) (place.x + x) (place.y + y))
block_numbers level d number levels w n t place part x y has shows lt less =
    rectangle_numbers level number levels (seen_at w) (seen_at n) t t.rows (place.x + x) (place.y + y)
    (λ r i down across.
    let c = pos (place.x + x) +ℤ (t.dx +ℤ pos i) in
    let b = pos (place.y + y) +ℤ (t.dy +ℤ pos r) in
    elim (shown_or (pos place.x +ℤ t.dx -ℤ pos w.place.x) (place.width + t.columns - 1) w.place.width (shown_of_parts shows.left part.column part.width) (x + i) (c -ℤ pos w.place.x) shows.columns (omega arith) (omega (arith, ints))) [
      | inr none ↦ none_seen level number levels (seen_at w c b) (seen_at n c b) (unseen_column w.place.width w.place.height w.cells (c -ℤ pos w.place.x) (b -ℤ pos w.place.y) none) (lacks_column c b none)
      | inl seen ↦ elim (shown_or (pos place.y +ℤ t.dy -ℤ pos w.place.y) (place.height + t.rows - 1) w.place.height (shown_of_parts shows.above part.row part.height) (y + r) (b -ℤ pos w.place.y) shows.rows (omega arith) (omega (arith, ints))) [
        | inr none ↦ none_seen level number levels (seen_at w c b) (seen_at n c b) (unseen_row w.place.width w.place.height w.cells (c -ℤ pos w.place.x) (b -ℤ pos w.place.y) none) (lacks_row c b none)
        | inl also ↦ seen_both level d number levels w n part c b seen.0 also.0 has seen.1 also.1 seen.2 also.2
      ]
    ])
  where
    lacks_column : (c b : ℤ) → ((at : ℕ) → at < w.place.width → c -ℤ pos w.place.x ≡ pos at → ⊥) → seen_at n c b ≡ None
    lacks_column c b none =
        let place = has.place in
        unseen_column n.place.width n.place.height n.cells (c -ℤ pos n.place.x) (b -ℤ pos n.place.y) (λ at inside is. none (part.column + at) (omega (arith, place.width, has.across)) (omega (arith, ints, place.x, is)))

    lacks_row : (c b : ℤ) → ((at : ℕ) → at < w.place.height → b -ℤ pos w.place.y ≡ pos at → ⊥) → seen_at n c b ≡ None
    lacks_row c b none =
        let place = has.place in
        unseen_row n.place.width n.place.height n.cells (c -ℤ pos n.place.x) (b -ℤ pos n.place.y) (λ at inside is. none (part.row + at) (omega (arith, place.height, has.down)) (omega (arith, ints, place.y, is)))

-- the levels of the ranks of a block's numbers are the ranks of its levels
pub block_ranked : {A : Type 0} (level : A → ℕ) (d : A) (number : ℕ → ℕ) (levels : List A) (w : View A) (n : View ℕ) (t : Rectangle) (place : Rect) (part : Part) (offsets : List Offset) (k : ℕ) (ranks : List ℕ) (none made : List A) → length w.cells ≡ w.place.height * w.place.width → IsPart w.place part n.place
    → ShowsPart w.place t place part → IsNumbering level d number levels w part n.cells → IsRectangle t offsets → HasRows (λ (s : ℕ). s) (λ x y. ranked k (levels_under (λ (s : ℕ). s) (seen_at n) offsets (place.x + x) (place.y + y))) place.width place.height ranks
    → none ≡ [] → made ≡ none ++ map (λ (r : ℕ). get_or levels r d) ranks → HasRows level (λ x y. ranked k (levels_under level (seen_at w) offsets (place.x + x) (place.y + y))) place.width place.height made
block_ranked level d number levels w n t place part offsets k ranks none made size part-place shows numbering rectangle rows none-is made-is =
    let back = λ (r : ℕ). get_or levels r d in
    let is : made ≡ map back ranks = made-is ∙ ap (λ (l : List _). l ++ map back ranks) none-is in
    let has : HasNumbers level d number levels w n part = record { size = size; place = part-place; across = shows.columns.inside; down = shows.rows.inside; numbering = numbering } in
    record {
      size = ap length is ∙ length-map ranks back ∙ rows.size;
      made = λ x y e lt less.
          let p = y * place.width + x in
          let inside : p < length ranks = omega (arith, rows.size, mul-add-lt y place.width x place.height less lt) in
          let rank-is : get_or ranks p 0 ≡ ranked k (levels_under (λ (s : ℕ). s) (seen_at n) (offsets_of_rows t t.rows) (place.x + x) (place.y + y)) =
          rows.made x y 0 lt less ∙ ap (λ (l : List Offset). ranked k (levels_under (λ (s : ℕ). s) (seen_at n) l (place.x + x) (place.y + y))) (sym rectangle.is) in
          ap (λ (l : List _). level (get_or l p e)) is
          ∙ ap level (get_or-map back ranks p 0 e inside)
          ∙ rank_back level number levels (levels_under (λ (s : ℕ). s) (seen_at n) (offsets_of_rows t t.rows) (place.x + x) (place.y + y)) (levels_under level (seen_at w) (offsets_of_rows t t.rows) (place.x + x) (place.y + y)) k (get_or ranks p 0) d numbering.lowest numbering.zero (block_numbers level d number levels w n t place part x y has shows lt less) rank-is
          ∙ ap (λ (l : List Offset). ranked k (levels_under level (seen_at w) l (place.x + x) (place.y + y))) rectangle.is;
    }

-- all numbers of a part are below their count
pub all_under : (levels : ℕ) (numbers cells : List ℕ) → cells ≡ numbers → ((p : ℕ) → p < length numbers → get_or numbers p 0 < levels) → (p : ℕ) → p < length cells → get_or cells p 65535 < levels
all_under levels numbers cells is under p lt =
    let same : get_or cells p 65535 ≡ get_or numbers p 0 = get_or_default cells p 65535 0 lt ∙ ap (λ (l : List ℕ). get_or l p 0) is in
    omega (arith, same, under p (omega (arith, ap length is)))

-- a rectangle of fewer than 65,536 offsets has no more columns
pub columns_few : (columns rows offsets : ℕ) → rows * columns ≡ offsets → 1 ≤ rows → offsets < 65536 → columns < 65536
columns_few columns zero offsets is some few = absurd (omega arith)
columns_few columns (suc rows) offsets is some few = let e : suc rows * columns ≡ rows * columns + columns = grind arith in omega (arith, e)

-- some columns more, of which some were there
pub columns_more : {A : Type 0} (level : A → ℕ) (value : ℕ → ℕ → ℕ) (w n done from c : ℕ) (out made new : List A) → from ≤ done → done ≤ from + c → length new ≡ length out → ((x j : ℕ) (d : A) → x < c → j < n → get_or new (j * w + (from + x)) d ≡ get_or made (j * c + x) d)
    → ((x j : ℕ) (d : A) → x < from → get_or new (j * w + x) d ≡ get_or out (j * w + x) d) → ((x j : ℕ) (d : A) → x < c → j < n → level (get_or made (j * c + x) d) ≡ value (from + x) j) → HasColumns level value w n done out → HasColumns level value w n (from + c) new
columns_more level value w n done from c out made new low high size put others found before = record {
  size = size ∙ before.size;
  made = λ x j d lt down. elim (cases_lt x from) [
    | inl early ↦ ap level (others x j d early) ∙ before.made x j d (omega arith) down
    | inr late ↦
        let on = x - from in
        let here : from + on ≡ x = omega arith in
        ap (λ (m : ℕ). level (get_or new (j * w + m) d)) (sym here) ∙ ap level (put on j d (omega arith) down) ∙ found on j d (omega arith) down ∙ ap (λ (m : ℕ). value m j) here
  ];
}

pub no_columns : {A : Type 0} (level : A → ℕ) (value : ℕ → ℕ → ℕ) (w n : ℕ) (cells : List A) → length cells ≡ n * w → HasColumns level value w n 0 cells
no_columns level value w n cells size = record { size = size; made = λ x j d lt down. absurd (omega arith) }

pub all_columns : {A : Type 0} (level : A → ℕ) (value : ℕ → ℕ → ℕ) (w n done : ℕ) (cells : List A) → done ≡ w → HasColumns level value w n done cells → HasRows level value w n cells
all_columns level value w n done cells done-is columns = record { size = columns.size; made = λ x j d lt down. columns.made x j d (omega arith) down }

-- a row of a strip lies before the next row, and behind the one before
pub row_within : (j k width from columns x : ℕ) → from + columns ≤ width → x < width → (k ≡ j → ⊥) → (k * width + x < j * width + from) ⊎ (j * width + from + columns ≤ k * width + x)
row_within j k width from columns x across lt other =
    elim (cases_lt k j) [
      | inl less ↦ let e : (k + 1) * width ≤ j * width = mul-le-mul_right width (let e : k + 1 ≤ j = omega arith in e) in inl (omega (arith, e, next k width))
      | inr le ↦ let e : (j + 1) * width ≤ k * width = mul-le-mul_right width (let e : j + 1 ≤ k = omega (arith, other) in e) in inr (omega (arith, e, next j width))
    ]
  where
    next : (n w : ℕ) → (n + 1) * w ≡ n * w + w
    next n w = grind arith

-- one row of a strip more
pub rows_put : {A : Type 0} (out new strip : List A) (width from columns j : ℕ) → from + columns ≤ width → ((i : ℕ) (d : A) → i < columns → get_or new (j * width + from + i) d ≡ get_or strip (j * columns + i) d) → ((p : ℕ) (d : A) → (p < j * width + from) ⊎ (j * width + from + columns ≤ p) → get_or new p d ≡ get_or out p d)
    → ((x k : ℕ) (d : A) → x < columns → k < j → get_or out (k * width + (from + x)) d ≡ get_or strip (k * columns + x) d) → (x k : ℕ) (d : A) → x < columns → k < j + 1 → get_or new (k * width + (from + x)) d ≡ get_or strip (k * columns + x) d
rows_put out new strip width from columns j across put others before x k d lt down =
    elim (cases_lt k j) [
      | inl early ↦ others (k * width + (from + x)) d (row_within j k width from columns (from + x) across (omega arith) (λ same. omega (arith, same))) ∙ before x k d lt early
      | inr late ↦
          let here : k ≡ j = omega arith in
          ap (λ (n : ℕ). get_or new (n * width + (from + x)) d) here
          ∙ ap (λ (p : ℕ). get_or new p d) (let e : j * width + (from + x) ≡ j * width + from + x = omega arith in e)
          ∙ put x d lt
          ∙ ap (λ (n : ℕ). get_or strip (n * columns + x) d) (sym here)
    ]

-- what lies before a strip stays
pub rows_left : {A : Type 0} (out new : List A) (width from columns j : ℕ) → from + columns ≤ width → ((p : ℕ) (d : A) → (p < j * width + from) ⊎ (j * width + from + columns ≤ p) → get_or new p d ≡ get_or out p d) → (x k : ℕ) (d : A) → x < from → get_or new (k * width + x) d ≡ get_or out (k * width + x) d
rows_left out new width from columns j across others x k d lt =
    elim (cases_eq k j) [
      | inl same ↦ others (k * width + x) d (inl (let e = ap (λ (n : ℕ). n * width) same in omega (arith, e)))
      | inr other ↦ others (k * width + x) d (row_within j k width from columns x across (omega arith) other)
    ]

-- what is shown, by the numbers that the code has at hand
pub shown_here : (top here : ℤ) (count many height high : ℕ) (s : Shown) → here ≡ top → many ≡ count → high ≡ height → AreRowsShown here many high s → AreRowsShown top count height (shown_of_parts s.skip s.first s.rows)
shown_here top here count many height high s top-is count-is height-is is =
    subst (λ (n : ℕ). AreRowsShown top count n s) height-is (subst (λ (n : ℕ). AreRowsShown top n high s) count-is (subst (λ (z : ℤ). AreRowsShown z many high s) top-is is))
