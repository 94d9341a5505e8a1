-- Cells that begin with those of an image from some row on, and more of them.
use Rattle.std.proofs.Common.{◌≡◌, ℕ, ◌+◌, ◌-◌, ◌*◌, ◌<◌, ◌≤◌, List, map, length, drop, get_or, ap, sym, arith, ◌∙◌, inl, inr, get_or-set_other, get_or-set_same, get_or-take, get_or-drop, ext_get_or}
use Rattle.std.specs.Prelude.{slice_set}
use Rattle.std.proofs.lemmas.Bool.{cases_lt}
use Rattle.std.proofs.lemmas.List.{get_or-map, length-map}
use borrow.Rule.Slice.PartMut.{put_mid}
use Rattle.mw_model.specs.declared.offsets.Rect.{Rect}
use Rattle.mw_model.specs.Pictures.{Picture, sample}
use Rattle.mw_model.specs.Tasks.{cells_in}
use Rattle.mw_model.proofs.mw_facts.Parts.{get_or-put_mid_below, get_or-put_mid_within}
use Rattle.mw_tile_pieces.proofs.TileCells.{length-cells_in}
use Rattle.mw_c_lent.proofs.Rows.{get_or-range, length-rows_from, level_there, rows_are}
use Rattle.mw_c_lent.specs.Rows.{EndAt, HasCells, HasImageRows, IsStrip, rows_from}

-- a strip's rows that are written behind those that are done
pub rows_put : {A : Type 0} (level : A → ℕ) (f : Picture) (r : Rect) (first done : ℕ) (old part new : List A) → IsStrip r f → length f.samples ≡ f.height * f.width → r.y ≡ first + done → done * r.width + r.height * r.width ≤ length old
    → map level part ≡ cells_in r (sample f) → new ≡ put_mid (done * r.width) (r.height * r.width) old part → HasImageRows level f first r.y old → HasImageRows level f first (r.y + r.height) new
rows_put {A} level f r first done old part new strip size row room is put before i d lt =
    elim (cases_lt i a) [
      | inl below ↦ ap (λ (xs : List A). level (get_or xs i d)) put ∙ ap level (get_or-put_mid_below a k old part i d (omega (arith, room)) below) ∙ before i d (omega (arith, below, same, start))
      | inr above ↦
          let within : i < a + k = omega (arith, lt, all, start) in
          let inner : i - a < k = omega (arith, above, within) in
          let cells : get_or (map level part) (i - a) 0 ≡ get_or f.samples (b + (i - a)) 0 = ap (λ (xs : List ℕ). get_or xs (i - a) 0) (is ∙ sym (rows_are f r strip size)) ∙ get_or-range f.samples b k (i - a) 0 inner in
          let back : b + (i - a) ≡ first * f.width + i = omega (arith, above, start) in
          ap (λ (xs : List A). level (get_or xs i d)) put
          ∙ ap level (get_or-put_mid_within a k old part i d (omega (arith, room)) above (omega (arith, within, count)))
          ∙ sym (get_or-map level part (i - a) d 0 (omega (arith, inner, count)))
          ∙ cells
          ∙ ap (λ (t : ℕ). get_or f.samples t 0) back
    ]
  where
    a : ℕ
    a = done * r.width

    b : ℕ
    b = r.y * r.width

    k : ℕ
    k = r.height * r.width

    count : length part ≡ r.height * r.width
    count = sym (length-map part level) ∙ ap (λ (xs : List ℕ). length xs) is ∙ length-cells_in r (sample f)

    split : (x y n : ℕ) → (x + y) * n ≡ x * n + y * n
    split x y n = omega arith

    start : r.y * r.width ≡ first * f.width + done * r.width
    start = ap (λ (t : ℕ). t * r.width) row ∙ split first done r.width ∙ ap (λ (t : ℕ). first * t + done * r.width) strip.wide

    same : r.y * f.width ≡ r.y * r.width
    same = ap (λ (t : ℕ). r.y * t) (sym strip.wide)

    all : (r.y + r.height) * f.width ≡ r.y * r.width + r.height * r.width
    all = ap (λ (t : ℕ). (r.y + r.height) * t) (sym strip.wide) ∙ split r.y r.height r.width

-- one cell more
cell_put : {A : Type 0} (level : A → ℕ) (f : Picture) (base q : ℕ) (old : List A) (s : A) → q < length old → level s ≡ get_or f.samples (base + q) 0 → HasCells level f base (base + q) old → HasCells level f base (base + q + 1) (slice_set old q s)
cell_put {A} level f base q old s within is before i d lt =
    elim (cases_lt i q) [
      | inl below ↦ ap level (get_or-set_other old q i s d (omega (arith, below))) ∙ before i d (omega (arith, below))
      | inr above ↦
          let here : i ≡ q = omega (arith, above, lt) in
          ap (λ (t : ℕ). level (get_or (slice_set old q s) t d)) here ∙ ap level (get_or-set_same old q s d within) ∙ is ∙ ap (λ (t : ℕ). get_or f.samples (base + t) 0) (sym here)
    ]

-- one cell more of row y, before which the array has k rows
pub row_more : {A : Type 0} (level : A → ℕ) (f : Picture) (first k y w x : ℕ) (old : List A) (s : A) → y ≡ first + k → w ≡ f.width → k * w + x < length old → level s ≡ get_or f.samples (y * w + x) 0
    → HasCells level f (first * f.width) (y * w + x) old → HasCells level f (first * f.width) (y * w + x + 1) (slice_set old (k * w + x) s)
row_more {A} level f first k y w x old s row wide within is before i d lt =
    cell_put level f (first * f.width) (k * w + x) old s within (is ∙ ap (λ (t : ℕ). get_or f.samples t 0) (sym there)) (λ j e less. before j e (omega (arith, less, there))) i d (omega (arith, lt, there))
  where
    join : (a b w x : ℕ) → a * w + (b * w + x) ≡ (a + b) * w + x
    join a b w x = omega arith

    there : first * f.width + (k * w + x) ≡ y * w + x
    there = ap (λ (t : ℕ). first * t + (k * w + x)) (sym wide) ∙ join first k w x ∙ ap (λ (t : ℕ). t * w + x) (sym row)

-- a row is full
pub row_full : {A : Type 0} (level : A → ℕ) (f : Picture) (first y n : ℕ) (cells : List A) → n ≡ y * f.width + f.width → HasCells level f (first * f.width) n cells → HasImageRows level f first (y + 1) cells
row_full level f first y n cells is before i d lt = before i d (omega (arith, lt, is, next y f.width))
  where
    next : (y w : ℕ) → (y + 1) * w ≡ y * w + w
    next y w = omega arith

-- all rows that the array has
pub all_cells : {A : Type 0} (level : A → ℕ) (f : Picture) (first end : ℕ) (cells : List A) → length f.samples ≡ f.height * f.width → EndAt first end (length cells) f → HasImageRows level f first end cells → map level cells ≡ rows_from first (length cells) f
all_cells {A} level f first end cells size ends rows =
    ext_get_or 0 (map level cells) (rows_from first (length cells) f) (length-map cells level ∙ sym (length-rows_from first end (length cells) f size ends)) (λ i p. each i (omega (arith, p, length-map cells level)))
  where
    each : (i : ℕ) → i < length cells → get_or (map level cells) i 0 ≡ get_or (rows_from first (length cells) f) i 0
    each i lt =
        level_there level cells i (get_or f.samples (first * f.width + i) 0) lt (λ d. rows i d (omega (arith, lt, ends.samples)))
        ∙ sym (get_or-take (length cells) (drop (first * f.width) f.samples) i 0 lt ∙ get_or-drop (first * f.width) f.samples i 0)

-- no row at first
pub no_rows : {A : Type 0} (level : A → ℕ) (f : Picture) (first n : ℕ) (cells : List A) → n ≡ first → HasImageRows level f first n cells
no_rows {A} level f first n cells none i d lt =
    let nothing : n * f.width ≡ first * f.width = ap (λ (t : ℕ). t * f.width) none in
    absurd (omega (arith, lt, nothing))

-- all rows
pub whole_cells : {A : Type 0} (level : A → ℕ) (f : Picture) (n : ℕ) (cells : List A) → n ≡ f.height → length f.samples ≡ f.height * f.width → length cells ≡ f.height * f.width → HasImageRows level f 0 n cells → map level cells ≡ f.samples
whole_cells {A} level f n cells end size count rows = ext_get_or 0 (map level cells) f.samples (length-map cells level ∙ count ∙ sym size) (λ i lt. each i (omega (arith, lt, length-map cells level)))
  where
    all : n * f.width ≡ f.height * f.width
    all = ap (λ (t : ℕ). t * f.width) end

    each : (i : ℕ) → i < length cells → get_or (map level cells) i 0 ≡ get_or f.samples i 0
    each i lt =
        let here : 0 * f.width + i ≡ i = omega arith in
        level_there level cells i (get_or f.samples i 0) lt (λ d. rows i d (omega (arith, lt, count, all)) ∙ ap (λ (t : ℕ). get_or f.samples t 0) here)
