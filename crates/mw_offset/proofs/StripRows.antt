-- Rows that are made strip by strip.
use Rattle.std.proofs.Common.{◌≡◌, ℕ, ◌+◌, ◌-◌, ◌*◌, ◌<◌, ◌≤◌, List, length, take, drop, get_or, ap, sym, arith, ◌∙◌, inl, inr, length-take}
use Rattle.std.proofs.lemmas.Bool.{cases_lt}
use Rattle.std.proofs.lemmas.List.{get_or-take, get_or-drop, get_or_past}
use Rattle.std.proofs.lemmas.Nat.{mul-add-lt}
use Rattle.std.proofs.Math.Nat.{mul-le-mul_left}
use Rattle.mw_model.proofs.mw_facts.Parts.{length-put_mid, get_or-put_mid_below, get_or-put_mid_within, get_or-put_mid_above}
use borrow.Rule.Slice.PartMut.{put_mid}

-- the rows above y have their values, and the others are blank
pub record StripsDone {A : Type 0} (value : ℕ → ℕ → A) (n : A) (w h y : ℕ) (out : List A) : Type 0 where
  pub size : length out ≡ h * w
  pub within : y ≤ h
  pub done : (x j : ℕ) → x < w → j < y → get_or out (j * w + x) n ≡ value x j
  pub rest : (p : ℕ) → y * w ≤ p → get_or out p n ≡ n

-- k rows more
pub strips_more : {A : Type 0} (value : ℕ → ℕ → A) (n : A) (w h y k m : ℕ) (out made : List A) → y + k ≤ h → m ≡ k * w → length made ≡ k * w
    → ((x j : ℕ) → x < w → j < k → get_or made (j * w + x) n ≡ value x (y + j)) → StripsDone value n w h y out → StripsDone value n w h (y + k) (put_mid (y * w) m out made)
strips_more value n w h y k m out made le m-is len made-is before =
    let fits = mul-le-mul_left w le in
    let room : y * w ≤ length out = omega (arith, before.size, fits) in
    let whole : length made ≡ m = omega arith in
    record {
      size = length-put_mid (y * w) m out made whole (omega (arith, before.size, fits)) ∙ before.size;
      within = le;
      done = λ x j less row_less. elim (cases_lt j y) [
        | inl earlier ↦ get_or-put_mid_below (y * w) m out made (j * w + x) n room (omega (arith, mul-add-lt j w x y earlier less)) ∙ before.done x j less earlier
        | inr later ↦
            let from = mul-le-mul_left w later in
            let same : y + (j - y) ≡ j = omega arith in
            get_or-put_mid_within (y * w) m out made (j * w + x) n room (omega (arith, from)) (omega (arith, len, mul-add-lt j w x (y + k) row_less less))
            ∙ ap (λ (t : ℕ). get_or made (t * w + x - y * w) n) (sym same)
            ∙ ap (λ (t : ℕ). get_or made t n) (ahead y (j - y) w x)
            ∙ made-is x (j - y) less (omega arith)
            ∙ ap (value x) same
      ];
      rest = λ p from. get_or-put_mid_above (y * w) m out made p n room whole (omega arith) ∙ before.rest p (omega arith);
    }
  where
    ahead : (y i w x : ℕ) → (y + i) * w + x - y * w ≡ i * w + x
    ahead y i w x = omega arith

-- a part of what is blank
pub part_blank : {A : Type 0} (n : A) (start m : ℕ) (out : List A) → ((p : ℕ) → start ≤ p → get_or out p n ≡ n) → (q : ℕ) → get_or (take m (drop start out)) q n ≡ n
part_blank n start m out rest q = elim (cases_lt q m) [
  | inl inside ↦ get_or-take m (drop start out) q n inside ∙ get_or-drop start out q n ∙ rest (start + q) (omega arith)
  | inr past ↦ get_or_past (take m (drop start out)) q n (omega (arith, length-take m (drop start out)))
]
