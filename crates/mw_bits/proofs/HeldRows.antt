-- Rows of a set, copied as its window has them.
use Rattle.std.proofs.Common.{◌≡◌, ℕ, ◌+◌, ◌-◌, ◌*◌, ◌/◌, ◌%◌, ◌<◌, ◌≤◌, pos, List, ◌++◌, length, take, drop, cond, nat_lt, refl, ap, subst, sym, arith, ◌∙◌, inl, inr, length-take, length-drop}
use Rattle.std.proofs.lemmas.Bool.{cases_lt, lt-ltb, le-ltb}
use Rattle.std.specs.Int.{bit_at}
use Rattle.std.proofs.lemmas.Int.{ints}
use Rattle.std.proofs.lemmas.List.{get_or_append_left}
use Rattle.std.proofs.Math.Nat.{mul-le-mul_left}
use Rattle.mw_model.specs.Rasters.{raster, cell_at}
use Rattle.mw_offset.specs.mw_lane.Shifted.{merge_at}
use Rattle.mw_offset.specs.mw_pixel_words.Packed.{bit_of, stride_of, samples_of, IsPacked}
use Rattle.mw_offset.proofs.mw_pixel_words.Bits.{bit_of_its_word, bit_of_part, row_sample, length-samples_of, rows_fit}
use Rattle.mw_bits_rows.proofs.Paddings.{IsNeutral, padded_inside, padded_outside, row_shows}

-- a place of a row of the set, or beside it
pub held_cell : (f : ℕ → ℕ → ℕ) (n : ℕ) → IsNeutral f n → (w h : ℕ) (words cells : List ℕ) → cells ≡ samples_of w h words → (x y : ℕ) → y < h
    → merge_at f n (cell_at (raster w h cells) (pos x) (pos y)) ≡ cond (nat_lt x w) (bit_of words (y * (64 * stride_of w) + x)) n
held_cell f n laws w h words cells cells-is x y row_less =
    let s = stride_of w in
    let row = take s (drop (y * s) words) in
    let shown = row_shows w h y row cells (ap length cells-is ∙ length-samples_of w h words) row_less (λ q less. row_sample w h s s words cells y q refl refl cells-is less row_less) (pos x) in
    ap (merge_at f n) (sym shown)
    ∙ elim (cases_lt x w) [
      | inl inside ↦
          padded_inside f n laws row w x (pos x) refl inside
          ∙ bit_of_part words (y * s) s x (y * (64 * s) + x) (omega arith) (omega arith)
          ∙ sym (rw (lt-ltb x w inside) refl)
      | inr past ↦ padded_outside f n row w (pos x) (inr (omega (arith, ints))) ∙ sym (rw (le-ltb x w past) refl)
    ]

-- some rows of packed ones
pub rows_packed : (w h row high m : ℕ) (words : List ℕ) → row + high ≤ h → m ≡ high * stride_of w → IsPacked w h words → IsPacked w high (take m (drop (row * stride_of w) words))
rows_packed w h row high m words room m-is packed =
    let s = stride_of w in
    let part = take m (drop (row * s) words) in
    let most = mul-le-mul_left s room in
    record {
      size = omega (arith, length-take m (drop (row * s) words), length-drop (row * s) words, packed.size, most);
      clean = λ x y row_less past less.
          let fits = rows_fit y high s row_less in
          let place : (row + y) * (64 * s) + x ≡ 64 * (row * s) + (y * (64 * s) + x) = omega arith in
          bit_of_part words (row * s) m (y * (64 * s) + x) ((row + y) * (64 * s) + x) (omega (arith, fits)) place ∙ packed.clean x (row + y) (omega arith) past less;
    }

-- the rows from one on, place by place
pub held_rows : (f : ℕ → ℕ → ℕ) (n : ℕ) → IsNeutral f n → (w h row high m : ℕ) (words cells : List ℕ) → cells ≡ samples_of w h words → row + high ≤ h → m ≡ high * stride_of w
    → (x y : ℕ) → x < 64 * stride_of w → y < high
    → cond (nat_lt x w) (bit_of (take m (drop (row * stride_of w) words)) (y * (64 * stride_of w) + x)) n ≡ merge_at f n (cell_at (raster w h cells) (pos x) (pos (row + y)))
held_rows f n laws w h row high m words cells cells-is room m-is x y less row_less =
    let s = stride_of w in
    let fits = rows_fit y high s row_less in
    let place : (row + y) * (64 * s) + x ≡ 64 * (row * s) + (y * (64 * s) + x) = omega arith in
    ap (λ (t : ℕ). cond (nat_lt x w) t n) (bit_of_part words (row * s) m (y * (64 * s) + x) ((row + y) * (64 * s) + x) (omega (arith, fits)) place)
    ∙ sym (held_cell f n laws w h words cells cells-is x (row + y) (omega arith))

bit_of_front : (words rest : List ℕ) (q : ℕ) → q < 64 * length words → bit_of (words ++ rest) q ≡ bit_of words q
bit_of_front words rest q lt =
    bit_of_its_word (words ++ rest) q ∙ ap (λ (t : ℕ). bit_at t (q % 64)) (get_or_append_left words rest 0 (q / 64) (omega arith)) ∙ sym (bit_of_its_word words q)

-- rows that were copied to the front of others
pub copied_rows : (f : ℕ → ℕ → ℕ) (n : ℕ) → IsNeutral f n → (width w h row high s m : ℕ) (words cells made rest : List ℕ) → width ≡ w → s ≡ stride_of width → m ≡ (row + high) * s - row * s
    → cells ≡ samples_of w h words → row + high ≤ h → length made ≡ high * s
    → ((x y : ℕ) → x < 64 * stride_of width → y < high → bit_of made (y * (64 * stride_of width) + x) ≡ cond (nat_lt x width) (bit_of (take m (drop (row * s) words)) (y * (64 * stride_of width) + x)) n)
    → (x y : ℕ) → x < 64 * stride_of w → y < high → bit_of (made ++ rest) (y * (64 * stride_of w) + x) ≡ merge_at f n (cell_at (raster w h cells) (pos x) (pos (row + y)))
copied_rows f n laws width w h row high s m words cells made rest width-is s-is m-is cells-is room size made-is x y less row_less =
    let same : s ≡ stride_of w = s-is ∙ ap stride_of width-is in
    let sizes = ap (λ (t : ℕ). high * t) same in
    let fits = rows_fit y high (64 * stride_of w) row_less in
    let wider : 64 * stride_of width ≡ 64 * stride_of w = ap (λ (t : ℕ). 64 * stride_of t) width-is in
    bit_of_front made rest (y * (64 * stride_of w) + x) (omega (arith, fits, sizes))
    ∙ ap (λ (t : ℕ). bit_of made (y * (64 * stride_of t) + x)) (sym width-is)
    ∙ made-is x y (omega arith) row_less
    ∙ ap (λ (t : ℕ). cond (nat_lt x t) (bit_of (take m (drop (row * s) words)) (y * (64 * stride_of t) + x)) n) width-is
    ∙ ap (λ (t : ℕ). cond (nat_lt x w) (bit_of (take m (drop (row * t) words)) (y * (64 * stride_of w) + x)) n) same
    ∙ held_rows f n laws w h row high m words cells cells-is room (omega (arith, sizes)) x y less row_less

pub rows_still_packed : (width w h row high s m : ℕ) (words : List ℕ) → width ≡ w → s ≡ stride_of width → m ≡ (row + high) * s - row * s → row + high ≤ h → IsPacked w h words → IsPacked width high (take m (drop (row * s) words))
rows_still_packed width w h row high s m words width-is s-is m-is room packed =
    let same : s ≡ stride_of w = s-is ∙ ap stride_of width-is in
    let sizes = ap (λ (t : ℕ). high * t) same in
    subst (λ (t : ℕ). IsPacked t high (take m (drop (row * s) words))) (sym width-is)
    (subst (λ (t : ℕ). IsPacked w high (take m (drop (row * t) words))) (sym same) (rows_packed w h row high m words room (omega (arith, sizes)) packed))
