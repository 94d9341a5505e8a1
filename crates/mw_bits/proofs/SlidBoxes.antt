-- Bits of rows that are merged over a box.
use Rattle.std.proofs.Common.{◌≡◌, ◌⊎◌, ℕ, ◌+◌, ◌-◌, ◌*◌, ◌<◌, ◌≤◌, ℤ, List, [], length, get_or, ap, sym, arith, ◌∙◌, inl, inr}
use Rattle.std.proofs.Math.Nat.{mul-le-mul_left}
use Rattle.mw_model.specs.declared.offsets.OffsetBox.{OffsetBox}
use Rattle.mw_model.specs.declared.offsets.Rect.{Rect}
use Rattle.mw_model.specs.Rectangles.{box_offsets}
use Rattle.mw_model.specs.Rasters.{seen_under}
use Rattle.mw_model.specs.Windows.{View, seen_at}
use Rattle.mw_offset.specs.mw_line.Extrema.{strided, over}
use Rattle.mw_offset.proofs.mw_line.Over.{over_same, over_strided}
use Rattle.mw_offset.proofs.mw_line.Rows.{rows_fit}
use Rattle.mw_offset.proofs.mw_line.Tiles.{IsLooked, tile_sees_nothing}
use Rattle.mw_offset.specs.mw_pixel_words.Packed.{bit_of}
use Rattle.mw_bits_rows.specs.Rows.{laid_bits}
use Rattle.mw_bits_rows.proofs.Laid.{laid_bit}

-- how far the columns of a box reach from a place of a row
pub columns_room : (wide high across y x : ℕ) → x + across ≤ 64 * wide → y < high → y * (64 * wide) + x + across ≤ 64 * (high * wide)
columns_room wide high across y x room lt = let fits = rows_fit y high (64 * wide) lt in omega (arith, fits)

-- how far the rows of a box reach from a place of a row
pub rows_room : (wide high down y x : ℕ) → x < 64 * wide → y + down ≤ high → y * (64 * wide) + x + down * (64 * wide) < 64 * (high * wide) + 64 * wide
rows_room wide high down y x lt room = let fits = mul-le-mul_left (64 * wide) room in omega (arith, fits)

-- rows that were slid by columns, and then by rows
pub box_slid : (f : ℕ → ℕ → ℕ) (cells rows made : List ℕ) (wide high across down : ℕ) → 0 < across → 0 < down → length cells ≡ high * wide + 1 → length rows ≡ length cells → length made ≡ length rows
    → ((p d : ℕ) → p + across * 1 < 64 * (length cells - 1) + 1 → get_or (laid_bits rows) p d ≡ strided f (laid_bits cells) d 1 (across - 1) p)
    → ((p d : ℕ) → p + down * (64 * wide) < 64 * (length rows - 1) + 64 * wide → get_or (laid_bits made) p d ≡ strided f (laid_bits rows) d (64 * wide) (down - 1) p)
    → (x y : ℕ) → x + across ≤ 64 * wide → y + down ≤ high
    → bit_of made (y * (64 * wide) + x) ≡ over f (λ j. over f (λ i. bit_of cells ((y + j) * (64 * wide) + (x + i))) 0 (across - 1)) 0 (down - 1)
box_slid f cells rows made wide high across down some_across some_down size rows_size made_size rows-is made-is x y room_across room_down =
    let at = y * (64 * wide) + x in
    let inside = columns_room wide high across y x room_across (omega arith) in
    let below = rows_room wide high down y x (omega arith) room_down in
    sym (laid_bit made at 0 (omega (arith, inside)))
    ∙ made-is at 0 (omega (arith, below))
    ∙ over_strided f (laid_bits rows) 0 (64 * wide) at 0 (down - 1) at (omega arith)
    ∙ over_same f (λ j. get_or (laid_bits rows) (at + j * (64 * wide)) 0) (λ j. over f (λ i. bit_of cells ((y + j) * (64 * wide) + (x + i))) 0 (across - 1)) 0 (down - 1)
    (λ j from to.
    let q = at + j * (64 * wide) in
    let q-is : q ≡ (y + j) * (64 * wide) + x = omega arith in
    let fits = columns_room wide high across (y + j) x room_across (omega arith) in
    rows-is q 0 (omega (arith, fits, q-is))
    ∙ over_strided f (laid_bits cells) 0 1 q 0 (across - 1) q (omega arith)
    ∙ over_same f (λ i. get_or (laid_bits cells) (q + i * 1) 0) (λ i. bit_of cells ((y + j) * (64 * wide) + (x + i))) 0 (across - 1)
    (λ i after before.
    let place : q + i * 1 ≡ (y + j) * (64 * wide) + (x + i) = omega (arith, q-is) in
    ap (λ (t : ℕ). get_or (laid_bits cells) t 0) place ∙ laid_bit cells ((y + j) * (64 * wide) + (x + i)) 0 (omega (arith, fits))))

-- nothing is seen where the code looks nowhere
pub seen_nowhere : {A : Type 0} (w : View A) (box : OffsetBox) (tile place : Rect) (x0 x1 y0 y1 : ℤ) (a k c l : ℕ) → IsLooked w box tile place x0 x1 y0 y1 a k c l
    → (k ≡ 0) ⊎ ((l ≡ 0) ⊎ ((tile.width ≡ 0) ⊎ (tile.height ≡ 0))) → (x y : ℕ) → x < tile.width → y < tile.height → seen_under (seen_at w) (box_offsets box) (tile.x + x) (tile.y + y) ≡ []
seen_nowhere w box tile place x0 x1 y0 y1 a k c l b (inl none) = tile_sees_nothing w box tile place x0 x1 y0 y1 a k c l b (inl none)
seen_nowhere w box tile place x0 x1 y0 y1 a k c l b (inr (inl none)) = tile_sees_nothing w box tile place x0 x1 y0 y1 a k c l b (inr none)
seen_nowhere w box tile place x0 x1 y0 y1 a k c l b (inr (inr (inl none))) = λ x y less row_less. absurd (omega arith)
seen_nowhere w box tile place x0 x1 y0 y1 a k c l b (inr (inr (inr none))) = λ x y less row_less. absurd (omega arith)
