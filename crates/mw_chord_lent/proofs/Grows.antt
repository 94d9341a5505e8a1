-- Lists of chords that grow chunk by chunk, the last one first.
use Rattle.std.proofs.Common.{◌≡◌, ℕ, zero, suc, ◌+◌, ◌-◌, ◌*◌, ◌<◌, ◌≤◌, List, length, get_or, refl, ap, sym, arith, ◌∙◌, inl, inr}
use Rattle.std.proofs.lemmas.Bool.{cases_lt}
use Rattle.mw_line.specs.Extrema.{strided}
use Rattle.mw_line.proofs.Folds.{IsExtremum}
use Rattle.mw_line.proofs.Joined.{strided-joined}
use Rattle.mw_line_lent.specs.Boxes.{IsPutAt}
use Rattle.mw_chord_lent.specs.Grown.{AreGrown}
use Rattle.mw_chord_lent.specs.Sizes.{AreSizes}
use Rattle.mw_chord_lent.proofs.Puts.{rows_le}

next : (a m : ℕ) → (a + 1) * m ≡ a * m + m
next a m = omega arith

-- each length has a sample
pub size_some : (sizes : List ℕ) → AreSizes sizes → (j : ℕ) → j < length sizes → 0 < get_or sizes j 0
size_some sizes chain zero lt = let is = chain.first in omega (arith, is)
size_some sizes chain (suc j) lt =
    let more = chain.more j (omega (arith, lt)) in
    let here : get_or sizes (j + 1) 0 ≡ get_or sizes (suc j) 0 = ap (λ (t : ℕ). get_or sizes t 0) (omega arith) in
    omega (arith, more, here)

-- before any chunk
pub grown_none : {A : Type 0} (f : A → A → A) (cells : List A) (sizes : List ℕ) (span n from : ℕ) → AreSizes sizes → n ≤ from → AreGrown f cells cells sizes span n from
grown_none f cells sizes span n from chain past = record {
  first = λ p d lt. refl;
  rest = λ j p d some lt le fits. absurd (omega (arith, size_some sizes chain j lt, le, fits, past));
}

-- any list, where all are grown
pub grown_at : {A : Type 0} (f : A → A → A) (cells lists : List A) (sizes : List ℕ) (span n : ℕ) → AreSizes sizes → AreGrown f cells lists sizes span n 0 → (j p : ℕ) (d : A) → j < length sizes → p + get_or sizes j 0 ≤ n
    → get_or lists (j * span + p) d ≡ strided f cells d 1 (get_or sizes j 0 - 1) p
grown_at f cells lists sizes span n chain grown zero p d lt fits =
    let one = chain.first in
    let none : get_or sizes 0 0 - 1 ≡ 0 = omega (arith, one) in
    let here : 0 * span + p ≡ p = omega arith in
    ap (λ (t : ℕ). get_or lists t d) here ∙ grown.first p d (omega (arith, fits, one)) ∙ sym (ap (λ (t : ℕ). strided f cells d 1 t p) none)
grown_at f cells lists sizes span n chain grown (suc j) p d lt fits = grown.rest (suc j) p d (omega arith) lt (omega arith) fits

-- the lists before number j are grown from a chunk on, and the others from behind it
pub record GrownUpTo {A : Type 0} (f : A → A → A) (cells lists : List A) (sizes : List ℕ) (span n from chunk j : ℕ) : Type 0 where
  pub first : (p : ℕ) (d : A) → p < n → get_or lists p d ≡ get_or cells p d
  pub made : (i p : ℕ) (d : A) → 0 < i → i < j → i < length sizes → from ≤ p → p + get_or sizes i 0 ≤ n → get_or lists (i * span + p) d ≡ strided f cells d 1 (get_or sizes i 0 - 1) p
  pub rest : (i p : ℕ) (d : A) → j ≤ i → i < length sizes → from + chunk ≤ p → p + get_or sizes i 0 ≤ n → get_or lists (i * span + p) d ≡ strided f cells d 1 (get_or sizes i 0 - 1) p

pub up_to_first : {A : Type 0} (f : A → A → A) (cells lists : List A) (sizes : List ℕ) (span n from chunk : ℕ) → AreGrown f cells lists sizes span n (from + chunk) → GrownUpTo f cells lists sizes span n from chunk 1
up_to_first f cells lists sizes span n from chunk grown = record {
  first = grown.first;
  made = λ i p d some lt less le fits. absurd (omega (arith, some, lt));
  rest = λ i p d le lt from-le fits. grown.rest i p d (omega (arith, le)) lt from-le fits;
}

pub up_to_last : {A : Type 0} (f : A → A → A) (cells lists : List A) (sizes : List ℕ) (span n from chunk j : ℕ) → length sizes ≤ j → GrownUpTo f cells lists sizes span n from chunk j → AreGrown f cells lists sizes span n from
up_to_last f cells lists sizes span n from chunk j all grown = record {
  first = grown.first;
  rest = λ i p d some lt le fits. grown.made i p d some (omega (arith, lt, all)) lt le fits;
}

-- the list before number j, from the chunk on
before_at : {A : Type 0} (f : A → A → A) (cells lists : List A) (sizes : List ℕ) (span n from chunk j : ℕ) → AreSizes sizes → GrownUpTo f cells lists sizes span n from chunk (j + 1) → (p : ℕ) (d : A) → j < length sizes → from ≤ p → p + get_or sizes j 0 ≤ n
    → get_or lists (j * span + p) d ≡ strided f cells d 1 (get_or sizes j 0 - 1) p
before_at f cells lists sizes span n from chunk zero chain grown p d lt le fits =
    let one = chain.first in
    let none : get_or sizes 0 0 - 1 ≡ 0 = omega (arith, one) in
    let here : 0 * span + p ≡ p = omega arith in
    ap (λ (t : ℕ). get_or lists t d) here ∙ grown.first p d (omega (arith, fits, one)) ∙ sym (ap (λ (t : ℕ). strided f cells d 1 t p) none)
before_at f cells lists sizes span n from chunk (suc j) chain grown p d lt le fits = grown.made (suc j) p d (omega arith) (omega arith) lt le fits

-- a chunk of list number k + 1
pub record IsChunk {A : Type 0} (f : A → A → A) (lists new : List A) (sizes : List ℕ) (span from chunk k ahead : ℕ) : Type 0 where
  pub put : IsPutAt ((k + 1) * span + from) chunk lists new
  pub made : (i : ℕ) (d : A) → i < chunk → get_or new ((k + 1) * span + from + i) d ≡ f (get_or lists (k * span + from + i) d) (get_or lists (k * span + from + ahead + i) d)
  pub ahead_is : ahead ≡ get_or sizes (k + 1) 0 - get_or sizes k 0
  pub inside : k + 1 < length sizes
  pub fits : from + chunk ≤ span

chunk_at : {A : Type 0} (f : A → A → A) → IsExtremum f → (cells lists new : List A) (sizes : List ℕ) (span n from chunk k ahead : ℕ) → AreSizes sizes → IsChunk f lists new sizes span from chunk k ahead → GrownUpTo f cells lists sizes span n from chunk (k + 1)
    → (p : ℕ) (d : A) → from ≤ p → p < from + chunk → p + get_or sizes (k + 1) 0 ≤ n → get_or new ((k + 1) * span + p) d ≡ strided f cells d 1 (get_or sizes (k + 1) 0 - 1) p
chunk_at f laws cells lists new sizes span n from chunk k ahead chain step grown p d le lt fits =
    let s = get_or sizes k 0 in
    let t = get_or sizes (k + 1) 0 in
    let inside = step.inside in
    let ahead-is = step.ahead_is in
    let some = size_some sizes chain k (omega (arith, inside)) in
    let more = chain.more k inside in
    let twice = chain.twice k inside in
    let i = p - from in
    let there : (k + 1) * span + p ≡ (k + 1) * span + from + i = omega (arith, le) in
    let one : k * span + from + i ≡ k * span + p = omega (arith, le) in
    let other : k * span + from + ahead + i ≡ k * span + (p + ahead * 1) = omega (arith, le) in
    let whole : ahead + (s - 1) ≡ t - 1 = omega (arith, ahead-is, some, more) in
    ap (λ (z : ℕ). get_or new z d) there
    ∙ step.made i d (omega (arith, le, lt))
    ∙ ap (λ (z : ℕ). f (get_or lists z d) (get_or lists (k * span + from + ahead + i) d)) one
    ∙ ap (λ (z : ℕ). f (get_or lists (k * span + p) d) (get_or lists z d)) other
    ∙ ap (λ (z : _). f z (get_or lists (k * span + (p + ahead * 1)) d)) (before_at f cells lists sizes span n from chunk k chain grown p d (omega (arith, inside)) le (omega (arith, fits, more)))
    ∙ ap (f (strided f cells d 1 (s - 1) p)) (before_at f cells lists sizes span n from chunk k chain grown (p + ahead * 1) d (omega (arith, inside)) (omega (arith, le)) (omega (arith, fits, more, ahead-is)))
    ∙ strided-joined f laws cells d 1 ahead (s - 1) (s - 1) p (omega (arith, ahead-is, twice, some)) (omega arith)
    ∙ ap (λ (z : ℕ). strided f cells d 1 z p) whole

-- one list more is grown from the chunk on
pub up_to_more : {A : Type 0} (f : A → A → A) → IsExtremum f → (cells lists new : List A) (sizes : List ℕ) (span n from chunk k ahead : ℕ) → AreSizes sizes → n ≤ span → IsChunk f lists new sizes span from chunk k ahead → GrownUpTo f cells lists sizes span n from chunk (k + 1)
    → GrownUpTo f cells new sizes span n from chunk (k + 1 + 1)
up_to_more f laws cells lists new sizes span n from chunk k ahead chain le step grown = record {
  first = λ p d lt. step.put.before p d (omega (arith, lt, le, next k span)) ∙ grown.first p d lt;
  made = λ i p d some lt less from-le fits. by_list i p d some lt less from-le fits;
  rest = λ i p d le-i lt from-le fits.
      let far = rows_le (k + 1 + 1) i span le-i in
      let room = step.fits in
      step.put.behind (i * span + p) d (omega (arith, far, next (k + 1) span, room)) ∙ grown.rest i p d (omega (arith, le-i)) lt from-le fits;
}
  where
    at_this : (p : ℕ) (d : _) → from ≤ p → p + get_or sizes (k + 1) 0 ≤ n → get_or new ((k + 1) * span + p) d ≡ strided f cells d 1 (get_or sizes (k + 1) 0 - 1) p
    at_this p d from-le fits = elim (cases_lt p (from + chunk)) [
      | inl here ↦ chunk_at f laws cells lists new sizes span n from chunk k ahead chain step grown p d from-le here fits
      | inr behind ↦ step.put.behind ((k + 1) * span + p) d (omega (arith, behind)) ∙ grown.rest (k + 1) p d (omega arith) step.inside behind fits
    ]

    by_list : (i p : ℕ) (d : _) → 0 < i → i < k + 1 + 1 → i < length sizes → from ≤ p → p + get_or sizes i 0 ≤ n → get_or new (i * span + p) d ≡ strided f cells d 1 (get_or sizes i 0 - 1) p
    by_list i p d some lt less from-le fits = elim (cases_lt i (k + 1)) [
      | inl low ↦
          let size = size_some sizes chain i less in
          let near = rows_le (i + 1) (k + 1) span (omega (arith, low)) in
          step.put.before (i * span + p) d (omega (arith, near, next i span, fits, size, le)) ∙ grown.made i p d some low less from-le fits
      | inr high ↦
          let i-is : i ≡ k + 1 = omega (arith, lt, high) in
          rw i-is (at_this p d from-le (let e : p + get_or sizes (k + 1) 0 ≤ n = rw (sym i-is) fits in e))
    ]
