-- Two rows of results, of which columns were written, and blocks at the ends.
use Rattle.std.proofs.Common.{◌≡◌, ◌⊎◌, ℕ, ◌+◌, ◌-◌, ◌*◌, ◌<◌, ◌≤◌, List, get_or, refl, ap, sym, arith, ◌∙◌, inl, inr}
use Rattle.std.proofs.lemmas.Bool.{cases_lt}
use Rattle.mw_offset_lent.proofs.Written.{each_of_two}

-- the columns as cells of the rows
pub row_columns : {A : Type 0} (value : ℕ → A) (d : A) (at from width wide left right ahead apart r : ℕ) (out : List A) → r < 2 → left ≤ width → apart + left ≡ width + right → ahead + left ≡ wide + right
    → ((i : ℕ) → i < width - left - right → get_or out (at + left + r * apart + i) d ≡ value (from + left + r * ahead + i))
    → (i : ℕ) → (r ≡ 0 → (left ≤ i) × (i + right < width)) → (r ≡ 1 → (right ≤ i) × (i + left < width)) → get_or out (at + (r * width + i)) d ≡ value (from + r * wide + i)
row_columns value d at from width wide left right ahead apart r out lt le apart-is ahead-is columns i upper lower =
    each_of_two (λ t. r ≡ t → get_or out (at + (r * width + i)) d ≡ value (from + r * wide + i))
    (λ is.
    let within = upper is in
    let here : at + (r * width + i) ≡ at + left + r * apart + (i - left) = omega (arith, within.0, ap (λ (t : ℕ). t * width) is, ap (λ (t : ℕ). t * apart) is) in
    let there : from + left + r * ahead + (i - left) ≡ from + r * wide + i = omega (arith, within.0, ap (λ (t : ℕ). t * wide) is, ap (λ (t : ℕ). t * ahead) is) in
    ap (λ (t : ℕ). get_or out t d) here ∙ columns (i - left) (omega (arith, within.0, within.1)) ∙ ap value there)
    (λ is.
    let within = lower is in
    let here : at + (r * width + i) ≡ at + left + r * apart + (i - right) = omega (arith, within.0, apart-is, ap (λ (t : ℕ). t * width) is, ap (λ (t : ℕ). t * apart) is) in
    let there : from + left + r * ahead + (i - right) ≡ from + r * wide + i = omega (arith, within.0, ahead-is, ap (λ (t : ℕ). t * wide) is, ap (λ (t : ℕ). t * ahead) is) in
    ap (λ (t : ℕ). get_or out t d) here ∙ columns (i - right) (omega (arith, within.0, within.1)) ∙ ap value there) r lt refl

-- with a block of w columns at one end of each row
pub ends_done : {A : Type 0} (value : ℕ → A) (d : A) (at from width wide left right w upper lower : ℕ) (mid new : List A) → upper + w ≤ width → lower + w ≤ width
    → ((i : ℕ) → i < w → get_or new (at + (upper + i)) d ≡ value (from + (upper + i))) → ((i : ℕ) → i < w → get_or new (at + width + (lower + i)) d ≡ value (from + wide + (lower + i)))
    → ((i : ℕ) → (i < upper) ⊎ (upper + w ≤ i) → (i < width + lower) ⊎ (width + lower + w ≤ i) → get_or new (at + i) d ≡ get_or mid (at + i) d)
    → ((i : ℕ) → i < width → (i < upper) ⊎ (upper + w ≤ i) → (left ≤ i) × (i + right < width)) → ((i : ℕ) → i < width → (i < lower) ⊎ (lower + w ≤ i) → (right ≤ i) × (i + left < width))
    → ((r i : ℕ) → r < 2 → (r ≡ 0 → (left ≤ i) × (i + right < width)) → (r ≡ 1 → (right ≤ i) × (i + left < width)) → get_or mid (at + (r * width + i)) d ≡ value (from + r * wide + i))
    → (r i : ℕ) → r < 2 → i < width → get_or new (at + (r * width + i)) d ≡ value (from + r * wide + i)
ends_done value d at from width wide left right w upper lower mid new upper-fits lower-fits first last kept first_rest last_rest columns r i few lt =
    each_of_two (λ r. get_or new (at + (r * width + i)) d ≡ value (from + r * wide + i))
    (elim (beside i upper w) [
      | inl here ↦
          let j = i - upper in
          let place : at + (0 * width + i) ≡ at + (upper + j) = omega (arith, here.0) in
          let there : from + (upper + j) ≡ from + 0 * wide + i = omega (arith, here.0) in
          ap (λ (t : ℕ). get_or new t d) place ∙ first j (omega (arith, here.0, here.1)) ∙ ap value there
      | inr out ↦
          let place : at + (0 * width + i) ≡ at + i = omega arith in
          ap (λ (t : ℕ). get_or new t d) place ∙ kept i out (inl (omega (arith, lt))) ∙ ap (λ (t : ℕ). get_or mid t d) (sym place) ∙ columns 0 i (omega arith) (λ is. first_rest i lt out) (λ is. absurd (omega (arith, is)))
    ])
    (elim (beside i lower w) [
      | inl here ↦
          let j = i - lower in
          let place : at + (1 * width + i) ≡ at + width + (lower + j) = omega (arith, here.0) in
          let there : from + wide + (lower + j) ≡ from + 1 * wide + i = omega (arith, here.0) in
          ap (λ (t : ℕ). get_or new t d) place ∙ last j (omega (arith, here.0, here.1)) ∙ ap value there
      | inr out ↦
          let place : at + (1 * width + i) ≡ at + (width + i) = omega arith in
          ap (λ (t : ℕ). get_or new t d) place
          ∙ kept (width + i) (inr (omega (arith, upper-fits))) (elim out [
            | inl low ↦ inl (omega (arith, low))
            | inr high ↦ inr (omega (arith, high))
          ])
          ∙ ap (λ (t : ℕ). get_or mid t d) (sym place)
          ∙ columns 1 i (omega arith) (λ is. absurd (omega (arith, is))) (λ is. last_rest i lt out)
    ]) r few
  where
    beside : (i a w : ℕ) → ((a ≤ i) × (i < a + w)) ⊎ ((i < a) ⊎ (a + w ≤ i))
    beside i a w = elim (cases_lt i a) [
      | inl low ↦ inr (inl low)
      | inr high ↦ elim (cases_lt i (a + w)) [
        | inl within ↦ inl (high, within)
        | inr past ↦ inr (inr past)
      ]
    ]
