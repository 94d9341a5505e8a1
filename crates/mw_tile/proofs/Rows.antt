-- Rows that are copied one after another.
use Rattle.std.proofs.Common.{◌≡◌, ℕ, ◌+◌, ◌-◌, ◌*◌, ◌/◌, ◌%◌, ◌<◌, ◌≤◌, List, ◌++◌, length, take, drop, Option, slice_get, slice_range, refl, ap, sym, subst, arith, ◌∙◌, inl, inr, length-take, length-drop, length-append, add_assoc}
use Rattle.std.proofs.lemmas.Bool.{cases_lt}
use Rattle.std.proofs.Math.Nat.{mul-le-mul_left}
use Rattle.std.proofs.lemmas.Nat.{mul-add-lt, div-mul-add, mod-mul-add}
use Rattle.mw_model.proofs.mw_facts.Elements.{slice_get-drop, slice_get-take, slice_get-put_below, slice_get-put_within, slice_get-put_above}
use Rattle.mw_model.specs.declared.offsets.Rect.{Rect}
use Rattle.mw_model.specs.Rectangles.{Holds, IsWithin}
use Rattle.mw_model.specs.Rasters.{Raster, raster}
use Rattle.mw_pixel.specs.mw_pixel_words.Runs.{put_at, HasFront}
use Rattle.mw_pixel.proofs.mw_pixel_words.Fronts.{front_more}
use Rattle.mw_tile.specs.Windows.{IsCut}
use Rattle.mw_tile.specs.Cuts.{stood_at, Pastes}

-- an element of a part of a row
get_part : {A : Type 0} (xs : List A) (a n i : ℕ) → i < n → slice_get (slice_range xs a (a + n)) i ≡ slice_get xs (a + i)
get_part xs a n i lt = slice_get-take (a + n - a) (drop a xs) i (omega arith) ∙ slice_get-drop a xs i

-- a run of a row of cells has its length, and its elements
pub length-run : {A : Type 0} (xs : List A) (a n : ℕ) → a + n ≤ length xs → length (slice_range xs a (a + n)) ≡ n
length-run xs a n le = omega (arith, length-take (a + n - a) (drop a xs), length-drop a xs)

-- an element of a part of a row, from a column on
pub get_from_column : {A : Type 0} (xs row : List A) (a x n i : ℕ) → row ≡ slice_range xs (a + x) (a + x + n) → i < n → slice_get row i ≡ slice_get xs (a + (x + i))
get_from_column xs row a x n i row-is lt = ap (λ (t : List _). slice_get t i) row-is ∙ get_part xs (a + x) n i lt ∙ ap (slice_get xs) (add_assoc a x i)

pub run_fits : (y h w x n : ℕ) → y < h → x + n ≤ w → y * w + x + n ≤ h * w
run_fits y h w x n lt across = let le : y + 1 ≤ h = omega arith in omega (arith, mul-le-mul_left w le)

-- what stands at a place of a rectangle of the frame, counted by rows
abbrev pub cut_value : {A : Type 0} → Raster A → Rect → ℕ → Option A
cut_value f r k = slice_get f.cells ((r.y + k / r.width) * f.width + (r.x + k % r.width))

cut_value_at : {A : Type 0} (f : Raster A) (r : Rect) (i j : ℕ) → i < r.width → cut_value f r (j * r.width + i) ≡ slice_get f.cells ((r.y + j) * f.width + (r.x + i))
cut_value_at f r i j lt =
    ap (λ (t : ℕ). slice_get f.cells ((r.y + t) * f.width + (r.x + (j * r.width + i) % r.width))) (div-mul-add j r.width i lt)
    ∙ ap (λ (t : ℕ). slice_get f.cells ((r.y + j) * f.width + (r.x + t))) (mod-mul-add j r.width i lt)

-- the first y rows of the part are cut from the frame
pub record HasCut {A : Type 0} (f p : Raster A) (r : Rect) (y : ℕ) : Type 0 where
  pub width : p.width ≡ r.width
  pub height : p.height ≡ r.height
  pub front : HasFront (cut_value f r) (y * r.width) (r.height * r.width) p.cells

pub cut_none : {A : Type 0} (f p : Raster A) (r : Rect) → p.width ≡ r.width → p.height ≡ r.height → length p.cells ≡ p.height * p.width → HasCut f p r 0
cut_none f p r width-is height-is size = record {
  width = width-is;
  height = height-is;
  front = record {
    size = size ∙ ap (λ (t : ℕ). t * p.width) height-is ∙ ap (λ (t : ℕ). r.height * t) width-is;
    same = λ k lt. absurd (omega arith);
  };
}

pub cut_next : {A : Type 0} (f now out : Raster A) (r : Rect) (y : ℕ)
    → out ≡ raster now.width now.height (put_at (y * now.width + 0) (slice_range f.cells ((r.y + y) * f.width + r.x) ((r.y + y) * f.width + r.x + r.width)) now.cells)
    → length f.cells ≡ f.height * f.width → IsWithin r f.width f.height → y < r.height → HasCut f now r y → HasCut f out r (y + 1)
cut_next f now out r y out-is size within lt before =
    let a = (r.y + y) * f.width + r.x in
    let row = slice_range f.cells a (a + r.width) in
    let across = within.across in
    let down = within.down in
    let fits : a + r.width ≤ length f.cells = omega (arith, size, run_fits (r.y + y) f.height f.width r.x r.width (omega arith) across) in
    let place : y * now.width + 0 ≡ y * r.width = ap (λ (t : ℕ). y * t + 0) before.width ∙ omega arith in
    let le : y + 1 ≤ r.height = omega arith in
    let more : y * r.width + r.width ≡ (y + 1) * r.width = omega arith in
    let front : HasFront (cut_value f r) (y * r.width + r.width) (r.height * r.width) out.cells =
    front_more (cut_value f r) (y * r.width) r.width (r.height * r.width) now.cells out.cells row (ap (λ (t : Raster _). t.cells) out-is ∙ ap (λ (t : ℕ). put_at t row now.cells) place)
    (length-run f.cells a r.width fits) (omega (arith, mul-le-mul_left r.width le))
    (λ i less. get_part f.cells a r.width i less ∙ ap (slice_get f.cells) (group ((r.y + y) * f.width) r.x i) ∙ sym (cut_value_at f r i y less))
    before.front in
    record {
      width = ap (λ (t : Raster _). t.width) out-is ∙ before.width;
      height = ap (λ (t : Raster _). t.height) out-is ∙ before.height;
      front = subst (λ (t : ℕ). HasFront (cut_value f r) t (r.height * r.width) out.cells) more front;
    }
  where
    group : (b c i : ℕ) → b + c + i ≡ b + (c + i)
    group b c i = omega arith

pub cut_done : {A : Type 0} (f p : Raster A) (r : Rect) (y : ℕ) → IsWithin r f.width f.height → r.height ≤ y → HasCut f p r y → IsCut (stood_at f r p) f
cut_done f p r y within all is = record {
  frame_width = refl;
  frame_height = refl;
  within = within;
  size = is.front.size;
  same = λ i j across down.
      let le : j + 1 ≤ y = omega arith in
      is.front.same (j * r.width + i) (omega (arith, mul-le-mul_left r.width le)) ∙ cut_value_at f r i j across;
}

row_below : (q r w p x : ℕ) → q < r → p < w → q * w + p < r * w + x
row_below q r w p x lt across = omega (arith, mul-add-lt q w p r lt across)

row_above : (q r w p x n : ℕ) → r < q → x + n ≤ w → r * w + x + n ≤ q * w + p
row_above q r w p x n lt fits = let le : r + 1 ≤ q = omega arith in omega (arith, mul-le-mul_left w le)

-- the new cells, by rows of this width, have the part in the rectangle and are the old elsewhere
record PastesRows {A : Type 0} (width : ℕ) (old new part : List A) (r : Rect) : Type 0 where
  pub size : length new ≡ length old
  pub inside : (i j : ℕ) → i < r.width → j < r.height → slice_get new ((r.y + j) * width + (r.x + i)) ≡ slice_get part (j * r.width + i)
  pub outside : (x y : ℕ) → x < width → ¬ Holds r x y → slice_get new (y * width + x) ≡ slice_get old (y * width + x)

-- the first rows of a rectangle
abbrev pub upper : Rect → ℕ → Rect
upper r y = record { x = r.x; y = r.y; width = r.width; height = y }

-- one more row is written
pasted_more : {A : Type 0} (w h y : ℕ) (old now part row : List A) (r : Rect) → length old ≡ h * w → r.x + r.width ≤ w → r.y + r.height ≤ h → y < r.height
    → length row ≡ r.width → ((i : ℕ) → i < r.width → slice_get row i ≡ slice_get part (y * r.width + i))
    → PastesRows w old now part (upper r y) → PastesRows w old (put_at ((r.y + y) * w + r.x) row now) part (upper r (y + 1))
pasted_more w h y old now part row r whole across down lt len row-is before =
    let a = (r.y + y) * w + r.x in
    let before-size = before.size in
    let fits : a + r.width ≤ length now = omega (arith, row_above h (r.y + y) w 0 r.x r.width (omega arith) across) in
    record {
      size = omega (arith, length-append (take a now) (row ++ drop (length row) (drop a now)), length-append row (drop (length row) (drop a now)), length-take a now, length-drop (length row) (drop a now), length-drop a now);
      inside = λ i j i-lt j-lt. elim (cases_lt j y) [
        | inl earlier ↦ slice_get-put_below a row now (drop (length row) (drop a now)) ((r.y + j) * w + (r.x + i)) (omega arith) (row_below (r.y + j) (r.y + y) w (r.x + i) r.x (omega arith) (omega arith)) ∙ before.inside i j i-lt earlier
        | inr this ↦
            let j-is : j ≡ y = omega arith in
            rw j-is (ap (slice_get (put_at a row now)) (group ((r.y + y) * w) r.x i) ∙ slice_get-put_within a row now (drop (length row) (drop a now)) i (omega arith) (omega arith) ∙ row-is i i-lt)
      ];
      outside = λ p q p-lt none.
          let rest : slice_get now (q * w + p) ≡ slice_get old (q * w + p) = before.outside p q p-lt (λ holds. none (wider p q holds)) in
          elim (cases_lt q (r.y + y)) [
            | inl up ↦ slice_get-put_below a row now (drop (length row) (drop a now)) (q * w + p) (omega arith) (row_below q (r.y + y) w p r.x up p-lt) ∙ rest
            | inr from ↦ elim (cases_lt (r.y + y) q) [
              | inl under ↦ slice_get-put_above a (length row) row now (q * w + p) (omega arith) refl (omega (arith, row_above q (r.y + y) w p r.x r.width under across)) ∙ rest
              | inr to ↦
                  let q-is : r.y + y ≡ q = omega arith in
                  elim (cases_lt p r.x) [
                    | inl left ↦ slice_get-put_below a row now (drop (length row) (drop a now)) (q * w + p) (omega arith) (omega (arith, ap (λ (t : ℕ). t * w) q-is)) ∙ rest
                    | inr past ↦ elim (cases_lt p (r.x + r.width)) [
                      | inl here ↦ absurd (none (record { left = past; right = here; top = omega arith; bottom = omega arith }))
                      | inr right ↦ slice_get-put_above a (length row) row now (q * w + p) (omega arith) refl (omega (arith, ap (λ (t : ℕ). t * w) q-is)) ∙ rest
                    ]
                  ]
            ]
          ];
    }
  where
    group : (a b c : ℕ) → a + (b + c) ≡ a + b + c
    group a b c = omega arith

    wider : (p q : ℕ) → Holds (upper r y) p q → Holds (upper r (y + 1)) p q
    wider p q holds = let b = holds.bottom in record { left = holds.left; right = holds.right; top = holds.top; bottom = omega arith }

pasted_more_given : {A : Type 0} (w h y v : ℕ) (old now part row out : List A) (r : Rect) → v ≡ w → out ≡ put_at ((r.y + y) * v + r.x) row now → length old ≡ h * w → r.x + r.width ≤ w → r.y + r.height ≤ h → y < r.height
    → length row ≡ r.width → ((i : ℕ) → i < r.width → slice_get row i ≡ slice_get part (y * r.width + i))
    → PastesRows w old now part (upper r y) → PastesRows w old out part (upper r (y + 1))
pasted_more_given w h y v old now part row out r v-is e whole across down lt len row-is before =
    subst (λ (t : List _). PastesRows w old t part (upper r (y + 1))) (sym (e ∙ ap (λ (t : ℕ). put_at ((r.y + y) * t + r.x) row now) v-is)) (pasted_more w h y old now part row r whole across down lt len row-is before)

-- a step of a loop that writes one row after another
pub pasted_next : {A : Type 0} (y : ℕ) (old now part out : Raster A) (row : List A) (r : Rect) → out ≡ raster now.width now.height (put_at ((r.y + y) * now.width + r.x) row now.cells)
    → length old.cells ≡ old.height * old.width → IsWithin r old.width old.height → y < r.height → length row ≡ r.width → ((i : ℕ) → i < r.width → slice_get row i ≡ slice_get part.cells (y * r.width + i))
    → Pastes old now part (upper r y) → Pastes old out part (upper r (y + 1))
pasted_next y old now part out row r out-is size within lt len row-is before =
    let rows-before : PastesRows old.width old.cells now.cells part.cells (upper r y) = record { size = before.size; inside = before.inside; outside = before.outside } in
    let rows : PastesRows old.width old.cells out.cells part.cells (upper r (y + 1)) =
    pasted_more_given old.width old.height y now.width old.cells now.cells part.cells row out.cells r before.width (ap (λ (t : Raster _). t.cells) out-is) size within.across within.down lt len row-is rows-before
    in
    record {
      width = ap (λ (t : Raster _). t.width) out-is ∙ before.width;
      height = ap (λ (t : Raster _). t.height) out-is ∙ before.height;
      size = rows.size;
      inside = rows.inside;
      outside = rows.outside;
    }

-- one more row is pasted, where it is a run of the part
pub pasted_run : {A : Type 0} (y : ℕ) (old now part out : Raster A) (r : Rect)
    → out ≡ raster now.width now.height (put_at ((r.y + y) * now.width + r.x) (slice_range part.cells (y * part.width + 0) (y * part.width + 0 + r.width)) now.cells)
    → length old.cells ≡ old.height * old.width → length part.cells ≡ part.height * part.width → part.width ≡ r.width → part.height ≡ r.height → IsWithin r old.width old.height → y < r.height
    → Pastes old now part (upper r y) → Pastes old out part (upper r (y + 1))
pasted_run y old now part out r out-is size part_size width-is height-is within lt before =
    let a = y * part.width + 0 in
    let row = slice_range part.cells a (a + r.width) in
    let fits : a + r.width ≤ length part.cells = omega (arith, part_size, run_fits y part.height part.width 0 r.width (omega arith) (omega arith)) in
    pasted_next y old now part out row r out-is size within lt (length-run part.cells a r.width fits)
    (λ i less. get_part part.cells a r.width i less ∙ ap (λ (t : ℕ). slice_get part.cells (t + i)) (place y part.width r.width width-is)) before
  where
    place : (b c d : ℕ) → c ≡ d → b * c + 0 ≡ b * d
    place b c d e = ap (λ (t : ℕ). b * t + 0) e ∙ omega arith
