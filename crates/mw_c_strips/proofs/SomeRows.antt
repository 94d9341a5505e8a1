-- Arrays that take some rows of an image: what is asked of them, where the rows end, and that there is room for each.
use Rattle.std.proofs.Common.{◌≡◌, ℕ, ◌+◌, ◌-◌, ◌*◌, ◌/◌, ◌%◌, ◌<◌, ◌≤◌, true, ◌&&◌, length, take, drop, ap, sym, subst, arith, ◌∙◌, inl, inr}
use Rattle.std.specs.Prelude.{nat_le, ◌==◌}
use Rattle.std.proofs.lemmas.Bool.{and_parts, cases_lt, eqb-true, le-leb, leb-true, lt-leb}
use Rattle.std.proofs.lemmas.List.{take_all}
use Rattle.std.proofs.lemmas.Nat.{div-add-mod', mod-mul-add, mul-le}
use Rattle.mw_model.specs.declared.offsets.Rect.{Rect}
use Rattle.mw_model.specs.Pictures.{Picture}
use Rattle.mw_c_arrays.specs.declared.sources.ArrayImage.{ArrayImage}
use Rattle.mw_c_arrays.specs.Sources.{IsArrayImage, array_sample_count, picture_in}
use Rattle.mw_c_forms.specs.declared.forms.Form.{Form}
use Rattle.mw_c_forms.specs.declared.forms.Form.TheVariants as form
use Rattle.mw_c_forms.specs.declared.forms.Rest.TheVariants as rest
use Rattle.mw_c_forms.specs.Forms.{form_picture}
use Rattle.mw_c_layers.specs.Parts.{IsStrip}
use Rattle.mw_c_strips.specs.Rows.{AreRows, EndAt, are_rows, fill_rows, rows_from}
use Rattle.mw_c_strips.proofs.Filtered.{fills}
use Rattle.mw_c_layers.proofs.Formulas.{HasSides}

no_product : (w : ℕ) → 0 * w ≡ 0
no_product w = omega arith

-- of two products the lesser has the lesser factor
lesser_factor : (a b w : ℕ) → 1 ≤ w → a * w ≤ b * w → a ≤ b
lesser_factor a b w some le =
    elim (cases_lt b a) [
      | inl over ↦ absurd (omega (arith, mul-le (b + 1) w a w (omega (arith, over)) (omega arith), next b w, le, some))
      | inr within ↦ within
    ]
  where
    next : (b w : ℕ) → (b + 1) * w ≡ b * w + w
    next b w = omega arith

-- where so many samples end, by the number of rows that they are
pub rows_end : (first count m : ℕ) (f : Picture) → 1 ≤ f.width → m ≡ f.width → AreRows first count f → EndAt first (first + count / m) count f
rows_end first count m f some wide rows = subst (λ (w : ℕ). EndAt first (first + count / w) count f) (sym wide) own
  where
    n : ℕ
    n = count / f.width

    exact : n * f.width ≡ count
    exact = omega (arith, div-add-mod' count f.width, rows.whole)

    one : 1 ≤ n
    one =
        elim (cases_lt 0 n) [
          | inl over ↦ omega (arith, over)
          | inr none ↦
              let zero_is : n ≡ 0 = omega (arith, none) in
              let nothing : n * f.width ≡ 0 * f.width = ap (λ (t : ℕ). t * f.width) zero_is in
              absurd (omega (arith, nothing, exact, rows.some, no_product f.width))
        ]

    split : (a b w : ℕ) → (a + b) * w ≡ a * w + b * w
    split a b w = omega arith

    all : (first + n) * f.width ≡ first * f.width + count
    all = split first n f.width ∙ ap (λ (t : ℕ). first * f.width + t) exact

    own : EndAt first (first + count / f.width) count f
    own = record { some = omega (arith, one); within = lesser_factor (first + n) f.height f.width some (omega (arith, all, rows.within)); samples = all }

-- all samples are whole rows from the first on
pub all_rows : (count : ℕ) (f : Picture) → HasSides f → count ≡ f.height * f.width → AreRows 0 count f
all_rows count f sides is =
    let one : 1 * 1 ≤ f.height * f.width = mul-le 1 1 f.height f.width sides.high.0 sides.wide.0 in
    let padded : count ≡ f.height * f.width + 0 = omega (arith, is) in
    record {
      some = omega (arith, one, is);
      whole = ap (λ (t : ℕ). t % f.width) padded ∙ mod-mul-add f.height f.width 0 (omega (arith, sides.wide.0));
      within = omega (arith, is, no_product f.width);
    }

-- and these are the image
pub all_from_first : (count : ℕ) (f : Picture) → length f.samples ≡ f.height * f.width → count ≡ f.height * f.width → rows_from 0 count f ≡ f.samples
all_from_first count f size is = ap (λ (n : ℕ). take count (drop n f.samples)) (no_product f.width) ∙ take_all count f.samples (omega (arith, size, is))

-- rows of an image are as many of what a form makes of it
pub form_rows : (s : Form) (f : Picture) (first count : ℕ) → AreRows first count f → AreRows first count (form_picture s f)
form_rows (form.One r) f first count rows = record { some = rows.some; whole = rows.whole; within = rows.within }
form_rows (form.InTurn r s) f first count rows = record { some = rows.some; whole = rows.whole; within = rows.within }
form_rows (form.Residue rest.Taken r s) f first count rows = record { some = rows.some; whole = rows.whole; within = rows.within }
form_rows (form.Residue rest.Added r s) f first count rows = record { some = rows.some; whole = rows.whole; within = rows.within }
form_rows (form.Less r s) f first count rows = record { some = rows.some; whole = rows.whole; within = rows.within }

-- ---- room in an array that begins with row `first`

-- for a strip that ends before the array does
pub strip_room : (first end count : ℕ) (f : Picture) (r : Rect) → IsStrip r f → EndAt first end count f → r.y + r.height ≤ end → (r.y + r.height) * r.width ≤ first * r.width + count
strip_room first end count f r strip ends before =
    let all : (r.y + r.height) * r.width ≤ end * f.width = mul-le (r.y + r.height) r.width end f.width before (omega (arith, strip.wide)) in
    let same : first * r.width ≡ first * f.width = ap (λ (t : ℕ). first * t) strip.wide in
    omega (arith, all, same, ends.samples)

-- for h rows behind the k that it begins with
pub room_behind : (first k y h w count : ℕ) → y ≡ first + k → (y + h) * w ≤ first * w + count → k * w + h * w ≤ count
room_behind first k y h w count row room =
    let all : (y + h) * w ≡ (first + k + h) * w = ap (λ (t : ℕ). (t + h) * w) row in
    omega (arith, room, all, split first k h w)
  where
    split : (a b c w : ℕ) → (a + b + c) * w ≡ a * w + (b * w + c * w)
    split a b c w = omega arith

-- for one of the rows before row n
pub room_for_row : (y n w most : ℕ) → y < n → n * w ≤ most → (y + 1) * w ≤ most
room_for_row y n w most less room = omega (arith, mul-le (y + 1) w n w (omega (arith, less)) (omega arith), room)

-- for column x of the row behind the k that it begins with
pub room_for_cell : (first k y w x count : ℕ) → y ≡ first + k → x < w → (y + 1) * w ≤ first * w + count → k * w + x < count
room_for_cell first k y w x count row across room =
    let all : (y + 1) * w ≡ (first + k + 1) * w = ap (λ (t : ℕ). (t + 1) * w) row in
    omega (arith, room, all, split first k w, across)
  where
    split : (a b w : ℕ) → (a + b + 1) * w ≡ a * w + (b * w + w)
    split a b w = omega arith

-- ---- what is asked of it

-- whether so many samples stand behind so many others
pub stand_behind : (above room count : ℕ) → room ≤ count → nat_le above (count - room) ≡ nat_le (above + room) count
stand_behind above room count le =
    elim (cases_lt count (above + room)) [
      | inl over ↦ lt-leb above (count - room) (omega (arith, over, le)) ∙ sym (lt-leb (above + room) count over)
      | inr within ↦ le-leb above (count - room) (omega (arith, within)) ∙ sym (le-leb (above + room) count within)
    ]

-- the image has these rows
pub rows_there : (f : ArrayImage) (first room : ℕ) → IsArrayImage f → are_rows first room (picture_in f).width (array_sample_count f) ≡ true → AreRows first room (picture_in f)
rows_there f first room is all =
    let w = (picture_in f).width in
    let outer = and_parts (nat_le 1 room && fill_rows room w) (nat_le (first * w + room) (array_sample_count f)) all in
    let inner = and_parts (nat_le 1 room) (fill_rows room w) outer.0 in
    let filled = and_parts (nat_le 1 w) (room % w == 0) inner.1 in
    record { some = leb-true 1 room inner.0; whole = eqb-true (room % w) 0 filled.1; within = omega (arith, leb-true (first * w + room) (array_sample_count f) outer.1, fills f is) }
