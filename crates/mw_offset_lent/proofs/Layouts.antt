-- A row of cells, of which the part is copied that the view's place has.
use Rattle.std.proofs.Common.{◌≡◌, ℕ, ◌+◌, ◌-◌, ◌*◌, ◌<◌, ◌≤◌, ℤ, pos, ◌+ℤ◌, List, Option, Some, length, get_or, ap, sym, arith, ◌∙◌, inl, inr}
use Rattle.std.specs.Option.{unwrap_or}
use Rattle.std.proofs.lemmas.Bool.{cases_lt, lt-ltb}
use Rattle.std.proofs.lemmas.Nat.{mul-add-lt}
use Rattle.std.proofs.lemmas.Option.{slice_get-get_or}
use Rattle.mw_model.specs.Rasters.{raster, cell_at}
use Rattle.mw_model.specs.Windows.{View}
use Rattle.mw_line.proofs.Seen.{no_column_seen}
use Rattle.mw_offset_lent.specs.declared.parts.Part.{Part}
use Rattle.mw_line_lent.specs.Boxes.{IsPutAt}
use Rattle.mw_offset_lent.specs.Parts.{IsPartOf}
use Rattle.mw_offset_lent.proofs.Puts.{put_none, put_part}

pub cell_inside : {A : Type 0} (w h : ℕ) (cells : List A) (c r : ℕ) (d : A) → length cells ≡ h * w → c < w → r < h → cell_at (raster w h cells) (pos c) (pos r) ≡ Some (get_or cells (r * w + c) d)
cell_inside w h cells c r d size across down = rw (lt-ltb c w across, lt-ltb r h down) (slice_get-get_or cells (r * w + c) d (omega (arith, size, mul-add-lt r w c h down across)))

-- what was filled before the part, copied, and filled behind it
pub row_put : {A : Type 0} (at wide behind count end : ℕ) (old first mid new : List A) → end ≡ behind + count → end ≤ wide → IsPutAt at behind old first → IsPutAt (at + behind) count first mid → IsPutAt (at + end) (wide - end) mid new → IsPutAt at wide old new
row_put at wide behind count end old first mid new end-is le one two three =
    put_part at wide (at + end) (wide - end) old mid new (omega arith) (omega (arith, le))
    (put_part at wide (at + behind) count old first mid (omega arith) (omega (arith, le, end-is)) (put_part at wide at behind old old first (omega arith) (omega (arith, le, end-is)) (put_none at wide old) one) two) three

pub row_laid : {A : Type 0} (n : A) (w : View A) (column : ℤ) (at wide end from q : ℕ) (part : Part) (first mid new : List A) → length w.cells ≡ w.place.height * w.place.width → IsPartOf column wide w.place.width part → q < w.place.height → from ≡ q * w.place.width + part.ahead
    → end ≡ part.behind + part.count → IsPutAt (at + part.behind) part.count first mid → IsPutAt (at + end) (wide - end) mid new → ((i : ℕ) → i < part.behind → get_or first (at + i) n ≡ n)
    → ((i : ℕ) → i < part.count → get_or mid (at + part.behind + i) n ≡ get_or w.cells (from + i) n) → ((i : ℕ) → i < wide - end → get_or new (at + end + i) n ≡ n)
    → (x : ℕ) → x < wide → get_or new (at + x) n ≡ unwrap_or (cell_at (raster w.place.width w.place.height w.cells) (column +ℤ pos x) (pos q)) n
row_laid n w column at wide end from q part first mid new size across row from-is end-is copied filled before here after x lt = elim (cases_lt x part.behind) [
  | inl low ↦
      filled.before (at + x) n (omega (arith, low, end-is))
      ∙ copied.before (at + x) n (omega (arith, low))
      ∙ before x low
      ∙ ap (λ (t : Option _). unwrap_or t n) (sym (no_column_seen w.place.width w.place.height w.cells (column +ℤ pos x) (pos q) (inl (across.before x low))))
  | inr not_low ↦ elim (cases_lt x end) [
    | inl within ↦
        let i = x - part.behind in
        let c = part.ahead + (x - part.behind) in
        let place : at + x ≡ at + part.behind + i = omega (arith, not_low) in
        let there : from + i ≡ q * w.place.width + c = omega (arith, from-is) in
        let column-is : pos c ≡ column +ℤ pos x = sym (across.inside x not_low (omega (arith, within, end-is))) in
        filled.before (at + x) n (omega (arith, within))
        ∙ ap (λ (t : ℕ). get_or mid t n) place
        ∙ here i (omega (arith, within, end-is, not_low))
        ∙ ap (λ (t : ℕ). get_or w.cells t n) there
        ∙ sym (ap (λ (t : Option _). unwrap_or t n) (cell_inside w.place.width w.place.height w.cells c q n size (omega (arith, across.fits, within, end-is, not_low)) row))
        ∙ ap (λ (t : ℤ). unwrap_or (cell_at (raster w.place.width w.place.height w.cells) t (pos q)) n) column-is
    | inr past ↦
        let place : at + x ≡ at + end + (x - end) = omega (arith, past) in
        ap (λ (t : ℕ). get_or new t n) place
        ∙ after (x - end) (omega (arith, past, lt))
        ∙ ap (λ (t : Option _). unwrap_or t n) (sym (no_column_seen w.place.width w.place.height w.cells (column +ℤ pos x) (pos q) (inr (across.after x (omega (arith, past, end-is)) lt))))
  ]
]
