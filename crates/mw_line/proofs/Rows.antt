-- Rows that are filled one after another.
use Rattle.std.proofs.Common.{◌≡◌, ℕ, ◌+◌, ◌*◌, ◌<◌, ◌≤◌, List, ◌++◌, length, take, drop, get_or, ap, sym, arith, ◌∙◌, inl, inr, length-append, length-take}
use Rattle.std.proofs.lemmas.Bool.{cases_lt}
use Rattle.std.proofs.lemmas.Nat.{mul-add-lt}
use Rattle.std.proofs.Math.Nat.{add-sub_cancel_left}
use Rattle.std.proofs.lemmas.List.{get_or-take, get_or-drop, get_or_append_left, get_or-append_right}
pub use Rattle.mw_tile.proofs.mw_pixel_words.Bits.{rows_fit}
use Rattle.mw_model.proofs.mw_facts.Parts.{length-put_mid, get_or-put_mid_below, get_or-put_mid_within, get_or-put_mid_above}
use borrow.Rule.Slice.PartMut.{put_mid}

pub row_within : (x y w h : ℕ) → x < w → y < h → y * w + x < h * w
row_within x y w h less row_less = omega (arith, rows_fit y h w row_less)

-- the rows above y have their values, made from what stood there, and the others are as they were
pub record RowsDone {A : Type 0} (value : A → ℕ → ℕ → A) (w h y : ℕ) (old out : List A) : Type 0 where
  pub size : length out ≡ h * w
  pub done : (x j : ℕ) (d : A) → x < w → j < y → get_or out (j * w + x) d ≡ value (get_or old (j * w + x) d) x j
  pub rest : (p : ℕ) (d : A) → y * w ≤ p → get_or out p d ≡ get_or old p d

pub rows_more : {A : Type 0} (value : A → ℕ → ℕ → A) (w h y m : ℕ) (old out made : List A) → y < h → m ≡ w → length made ≡ w
    → ((x : ℕ) (d : A) → x < w → get_or made x d ≡ value (get_or (take m (drop (y * w) out)) x d) x y)
    → RowsDone value w h y old out → RowsDone value w h (y + 1) old (put_mid (y * w) m out made)
rows_more value w h y m old out made lt m-is len made-is before =
    let fits = rows_fit y h w lt in
    let room : y * w ≤ length out = omega (arith, before.size, fits) in
    let same : m ≡ length made = m-is ∙ sym len in
    record {
      size = length-put_mid (y * w) m out made (sym same) (omega (arith, before.size, fits)) ∙ before.size;
      done = λ x j d less row_less. elim (cases_lt j y) [
        | inl earlier ↦
            get_or-put_mid_below (y * w) m out made (j * w + x) d room (omega (arith, mul-add-lt j w x y earlier less)) ∙ before.done x j d less earlier
        | inr this ↦
            let j-is : j ≡ y = omega arith in
            rw j-is (get_or-put_mid_within (y * w) m out made (y * w + x) d room (omega arith) (omega arith)
            ∙ ap (λ (t : ℕ). get_or made t d) (add-sub_cancel_left (y * w) x)
            ∙ made-is x d less
            ∙ ap (λ (t : _). value t x y) (get_or-take m (drop (y * w) out) x d (omega arith) ∙ get_or-drop (y * w) out x d ∙ before.rest (y * w + x) d (omega arith)))
      ];
      rest = λ p d from. get_or-put_mid_above (y * w) m out made p d room (sym same) (omega arith) ∙ before.rest p d (omega arith);
    }

-- rows of w values, put behind one another
pub record RowsMade {A : Type 0} (value : ℕ → ℕ → A) (n : A) (w y : ℕ) (out : List A) : Type 0 where
  pub size : length out ≡ y * w
  pub done : (x j : ℕ) → x < w → j < y → get_or out (j * w + x) n ≡ value x j

pub rows_made_more : {A : Type 0} (value : ℕ → ℕ → A) (n : A) (w y m : ℕ) (out line made : List A) → m ≡ w → w ≤ length line → made ≡ out ++ take m line
    → ((x : ℕ) → x < w → get_or line x n ≡ value x y) → RowsMade value n w y out → RowsMade value n w (y + 1) made
rows_made_more value n w y m out line made m-is le made-is line-is before =
    let part = take m line in
    let len : length part ≡ w = omega (arith, length-take m line) in
    let last_len = length-append out part in
    record {
      size = rw made-is (omega (arith, last_len, before.size));
      done = λ x j less row_less. rw made-is (elim (cases_lt j y) [
        | inl earlier ↦
            get_or_append_left out part n (j * w + x) (omega (arith, before.size, mul-add-lt j w x y earlier less)) ∙ before.done x j less earlier
        | inr this ↦
            let j-is : j ≡ y = omega arith in
            rw j-is (get_or-append_right out part (y * w) (y * w + x) n before.size (omega arith)
            ∙ ap (λ (t : ℕ). get_or part t n) (add-sub_cancel_left (y * w) x)
            ∙ get_or-take m line x n (omega arith)
            ∙ line-is x less)
      ]);
    }
