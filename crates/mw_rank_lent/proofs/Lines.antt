-- Columns as lines.
use Rattle.std.proofs.Common.{◌≡◌, ℕ, ℤ, pos, negsuc, ◌+ℤ◌, ◌-ℤ◌, ◌+◌, ◌*◌, ◌<◌, ◌≤◌, List, [], ◌∷◌, length, map, get_or, refl, ap, sym, subst, arith, ◌∙◌, inl, inr}
use Rattle.std.specs.Option.{option_to_list}
use Rattle.std.proofs.lemmas.Bool.{cases_lt}
use Rattle.std.proofs.lemmas.List.{get_or_default}
use Rattle.std.proofs.lemmas.Nat.{mul-add-lt}
use Rattle.mw_model.specs.declared.offsets.Offset.{Offset}
use Rattle.mw_model.specs.Rasters.{raster}
use Rattle.mw_model.specs.Windows.{View, seen_at}
use Rattle.mw_rank_medians.specs.mw_rank.Ranks.{levels_at}
use Rattle.mw_rank_medians.specs.mw_rank.Tallies.{count_under}
use Rattle.mw_rank_medians.specs.Filled.{or_top}
use Rattle.mw_rank_medians.proofs.mw_rank.Counts.{count-cons, one-lt}
use Rattle.mw_rank_medians.proofs.mw_rank.Sights.{seen_inside}
use Rattle.mw_rank_medians.proofs.mw_rank.mw_pixel.Cells.{cell_at-right}
use Rattle.mw_rank_lent.specs.Lines.{AreSeen, IsOne, levels_in}

-- a sample that was copied is what is seen there
seen_here : {A : Type 0} (level : A → ℕ) (w : View A) (c r : ℕ) (s : A) → length w.cells ≡ w.place.height * w.place.width → c < w.place.width → r < w.place.height → s ≡ get_or w.cells (r * w.place.width + c) s → level s ∷ [] ≡ levels_in level w (pos c) (pos r)
seen_here level w c r s size across down is = seen_inside level w.place.width w.place.height w.cells (pos c) (pos r) c r (level s) s refl refl across down size is refl

level_copied : {A : Type 0} (level : A → ℕ) (top : ℕ) (w : View A) (c r : ℕ) (s : A) → length w.cells ≡ w.place.height * w.place.width → c < w.place.width → r < w.place.height → s ≡ get_or w.cells (r * w.place.width + c) s
    → level s ≡ or_top top (levels_in level w (pos c) (pos r))
level_copied level top w c r s size across down is = ap (or_top top) (seen_here level w c r s size across down is)

one_copied : {A : Type 0} (level : A → ℕ) (top : ℕ) (w : View A) (c r : ℕ) (s : A) → length w.cells ≡ w.place.height * w.place.width → c < w.place.width → r < w.place.height → s ≡ get_or w.cells (r * w.place.width + c) s
    → level s ≤ top → IsOne top (levels_in level w (pos c) (pos r))
one_copied level top w c r s size across down is low =
    let here = ap (count_under (top + 1)) (seen_here level w c r s size across down is) in
    omega (arith, here, count-cons (top + 1) (level s) [], one-lt (level s) (top + 1) (omega (arith, low)))

-- nothing is seen beside the place
pub none_beside : {A : Type 0} (level : A → ℕ) (w : View A) (column : ℤ) (r : ℕ) → ((c : ℕ) → column ≡ pos c → w.place.width ≤ c) → levels_in level w column (pos r) ≡ []
none_beside level w (negsuc n) r beside = refl
none_beside level w (pos c) r beside = ap (λ (o : _). map level (option_to_list o)) (cell_at-right (raster w.place.width w.place.height w.cells) c r (beside c refl))

-- a sample that was copied of a column
pub copied_at : {A : Type 0} (level : A → ℕ) (top : ℕ) (d : A) (w : View A) (c row i from stride : ℕ) (samples : List A) (s : A) → length w.cells ≡ w.place.height * w.place.width → c < w.place.width → row + i < w.place.height → samples ≡ w.cells
    → stride ≡ w.place.width → from ≡ row * stride + c → s ≡ get_or samples (from + i * stride) d → level s ≤ top → (level s ≡ or_top top (levels_in level w (pos c) (pos (row + i)))) × IsOne top (levels_in level w (pos c) (pos (row + i)))
copied_at {A} level top d w c row i from stride samples s size across down samples-is stride-is from-is is low =
    let place : from + i * stride ≡ (row + i) * w.place.width + c = omega (arith, from-is, ap (λ (t : ℕ). row * t) stride-is, ap (λ (t : ℕ). i * t) stride-is, split row i w.place.width) in
    let within : (row + i) * w.place.width + c < length w.cells = omega (arith, size, mul-add-lt (row + i) w.place.width c w.place.height down across) in
    let here : s ≡ get_or w.cells ((row + i) * w.place.width + c) s =
    is ∙ ap (λ (l : List A). get_or l (from + i * stride) d) samples-is ∙ ap (λ (p : ℕ). get_or w.cells p d) place ∙ get_or_default w.cells ((row + i) * w.place.width + c) d s within in
    (level_copied level top w c (row + i) s size across down here, one_copied level top w c (row + i) s size across down here low)
  where
    split : (a b w : ℕ) → (a + b) * w ≡ a * w + b * w
    split a b w = omega arith

-- what is seen at an offset is what the place has in a column and row
pub at_offset : {A : Type 0} (level : A → ℕ) (w : View A) (b : Offset) (x y : ℕ) (column row : ℤ) → column ≡ pos x +ℤ b.dx -ℤ pos w.place.x → row ≡ pos y +ℤ b.dy -ℤ pos w.place.y → levels_in level w column row ≡ levels_at level (seen_at w) b x y
at_offset level w b x y column row column-is row-is = ap (λ (t : ℤ). levels_in level w t row) column-is ∙ ap (λ (t : ℤ). levels_in level w (pos x +ℤ b.dx -ℤ pos w.place.x) t) row-is

-- one line more in which levels are seen
pub seen_more : {A : Type 0} (level : A → ℕ) (top : ℕ) (w : View A) (b : Offset) (x y n q : ℕ) → ((i c : ℕ) → i < n → pos (x + q) +ℤ b.dx -ℤ pos w.place.x ≡ pos c → c < w.place.width → IsOne top (levels_at level (seen_at w) b (x + q) (y + i)))
    → AreSeen level top w b x y n q → AreSeen level top w b x y n (q + 1)
seen_more level top w b x y n q one before p i c lt less at across = elim (cases_lt p q) [
  | inl low ↦ before p i c low less at across
  | inr high ↦
      let here : p ≡ q = omega (arith, high, lt) in
      let there : pos (x + q) +ℤ b.dx -ℤ pos w.place.x ≡ pos c = ap (λ (t : ℕ). pos (x + t) +ℤ b.dx -ℤ pos w.place.x) (sym here) ∙ at in
      subst (λ (t : ℕ). IsOne top (levels_at level (seen_at w) b (x + t) (y + i))) (sym here) (one i c less there across)
]
