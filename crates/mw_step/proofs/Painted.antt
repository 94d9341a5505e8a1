-- Lists of which the cells before a place have their new values.
use Rattle.std.proofs.Common.{◌≡◌, ℕ, ◌+◌, ◌-◌, ◌*◌, ◌%◌, ◌^◌, ◌<◌, ◌≤◌, ◌≢◌, Bool, true, false, bit_and, List, length, take, drop, set, get_or, w64, refl, ap, sym, arith, ◌∙◌, inl, inr}
use Rattle.std.specs.Int.{bit_at, bit_not, trailing_zeros}
use Rattle.std.specs.Prelude.{◌==◌, if◌then◌else◌}
use Rattle.std.proofs.Math.ListN.{length-set}
use Rattle.std.proofs.lemmas.Bool.{cases_lt, cases_eq}
use Rattle.std.proofs.lemmas.List.{get_or-set_same, get_or-set_other, get_or-take, get_or-drop, get_or_read, ext_get_or}
use Rattle.std.proofs.lemmas.Nat.{and_le_l}
use Rattle.std.proofs.lemmas.Nat.Bits.{bit_at_clear_same, bit_at_clear_other, bit_at-trailing_zeros, bit_at-zero, bit_at-lt}
use Rattle.std.proofs.lemmas.Simd.{get_or-zip2, length-zip2}
use Rattle.mw_model.proofs.mw_facts.Parts.{length-put_mid, get_or-put_mid_below as put_mid_below, get_or-put_mid_within as put_mid_at, get_or-put_mid_above as put_mid_above}
use borrow.Rule.Slice.PartMut.{put_mid}
use lib.Lanes.{zip2}
use mir.Val.{Fits}

-- the cells before n have their values, made from what stood there, and the others are as they were
pub record CellsDone {A : Type 0} (value : A → ℕ → A) (n : ℕ) (old out : List A) : Type 0 where
  pub size : length out ≡ length old
  pub done : (x : ℕ) (d : A) → x < n → x < length old → get_or out x d ≡ value (get_or old x d) x
  pub rest : (x : ℕ) (d : A) → n ≤ x → get_or out x d ≡ get_or old x d

-- one cell more
pub cells_one : {A : Type 0} (value : A → ℕ → A) (n : ℕ) (old out : List A) (cell c : A) → n < length out → cell ≡ get_or out n cell → c ≡ value cell n → CellsDone value n old out → CellsDone value (n + 1) old (set out n c)
cells_one value n old out cell c lt cell-is c-is before =
    let size = before.size in
    record {
      size = length-set out n c ∙ size;
      done = λ x d less inside. elim (cases_lt x n) [
        | inl earlier ↦
            let other : x ≢ n = omega arith in
            get_or-set_other out n x c d other ∙ before.done x d earlier inside
        | inr from ↦
            let here : x ≡ n = omega arith in
            ap (λ (t : ℕ). get_or (set out n c) t d) here
            ∙ get_or-set_same out n c d lt
            ∙ c-is
            ∙ ap (λ (t : _). value t n) (get_or_read out n cell lt cell-is d ∙ before.rest n d (omega arith))
            ∙ ap (λ (t : ℕ). value (get_or old t d) t) (sym here)
      ];
      rest = λ x d from. let other : x ≢ n = omega arith in get_or-set_other out n x c d other ∙ before.rest x d (omega arith);
    }

-- a part more, up to a place to which the list may not reach
pub cells_part : {A : Type 0} (value : A → ℕ → A) (before_it s m n : ℕ) (old out made : List A) → before_it ≡ s → s + m ≤ length out → length made ≡ m → s + m ≤ n → ((x : ℕ) → x < n → x < length out → x < s + m)
    → ((x : ℕ) (d : A) → x < m → get_or made x d ≡ value (get_or (take m (drop s out)) x d) (s + x)) → CellsDone value before_it old out → CellsDone value n old (put_mid s m out made)
cells_part value before_it s m n old out made same room len up full made-is before =
    let size = before.size in
    record {
      size = length-put_mid s m out made len room ∙ size;
      done = λ x d less inside. elim (cases_lt x s) [
        | inl earlier ↦ put_mid_below s m out made x d (omega arith) earlier ∙ before.done x d (omega arith) inside
        | inr from ↦
            let within : x < s + m = full x less (omega arith) in
            let back : s + (x - s) ≡ x = omega arith in
            put_mid_at s m out made x d (omega arith) from (omega arith)
            ∙ made-is (x - s) d (omega arith)
            ∙ ap (λ (t : _). value t (s + (x - s))) (get_or-take m (drop s out) (x - s) d (omega arith) ∙ get_or-drop s out (x - s) d)
            ∙ ap (λ (t : ℕ). value (get_or out t d) t) back
            ∙ ap (λ (t : _). value t x) (before.rest x d (omega arith))
      ];
      rest = λ x d from. put_mid_above s m out made x d (omega arith) len (omega arith) ∙ before.rest x d (omega arith);
    }

-- all cells, each made from what stood there and what another list has
pub cells_all : {A : Type 0} (f : A → ℕ → A) (n : ℕ) (old out : List A) (marks : List ℕ) (d : A) → length old ≤ n → length old ≡ length marks → CellsDone (λ s x. f s (get_or marks x 0)) n old out → out ≡ zip2 f old marks
cells_all f n old out marks d all same before =
    let size = before.size in
    ext_get_or d out (zip2 f old marks) (size ∙ sym (length-zip2 f old marks same)) (λ x lt. before.done x d (omega arith) (omega arith) ∙ sym (get_or-zip2 f old marks x d 0 d (omega arith) (omega arith)))

-- the places of a word that are not left in another have got a value, and the others are as they were
pub record BitsLeft {A : Type 0} (v : A) (word left : ℕ) (old out : List A) : Type 0 where
  pub size : length out ≡ length old
  pub some : (x : ℕ) → x < 64 → bit_at left x ≤ bit_at word x
  pub marked : (x : ℕ) (d : A) → x < length old → get_or out x d ≡ (if bit_at left x == 1 then get_or old x d else (if bit_at word x == 1 then v else get_or old x d))

pub all_left : {A : Type 0} (v : A) (word : ℕ) (old : List A) → BitsLeft v word word old old
all_left v word old = record { size = refl; some = λ x lt. omega arith; marked = λ x d lt. sym (either (bit_at word x == 1) v (get_or old x d)) }
  where
    either : {A : Type 0} (b : Bool) (v s : A) → (if b then s else (if b then v else s)) ≡ s
    either true v s = refl
    either false v s = refl

-- the lowest place that is left gets the value
pub one_less : {A : Type 0} (v : A) (word left place : ℕ) (old out : List A) → length old ≤ 64 → place < length old → bit_at left place ≡ 1 → BitsLeft v word left old out
    → BitsLeft v word (bit_and left (bit_not w64 (1 * 2 ^ place % 2 ^ 64))) old (set out place v)
one_less v word left place old out short lt here before =
    let size = before.size in
    let rest = bit_and left (bit_not w64 (1 * 2 ^ place % 2 ^ 64)) in
    let gone : bit_at rest place ≡ 0 = bit_at_clear_same w64 left place (omega arith) in
    record {
      size = length-set out place v ∙ size;
      some = λ x less. elim (cases_eq x place) [
        | inl same ↦ let none : bit_at rest x ≡ 0 = ap (bit_at rest) same ∙ gone in omega arith
        | inr other ↦ let kept = bit_at_clear_other w64 left place (omega arith) x less other in let known = before.some x less in omega arith
      ];
      marked = λ x d less. elim (cases_eq x place) [
        | inl same ↦
            let known = before.some place (omega arith) in
            let set-there : bit_at word x ≡ 1 = let few = bit_at-lt word place in let is = ap (bit_at word) same in omega arith in
            let none : bit_at rest x ≡ 0 = ap (bit_at rest) same ∙ gone in
            ap (λ (t : ℕ). get_or (set out place v) t d) same
            ∙ get_or-set_same out place v d (omega arith)
            ∙ sym (ap (λ (t : ℕ). if t == 1 then v else get_or old x d) set-there)
            ∙ sym (ap (λ (t : ℕ). if t == 1 then get_or old x d else (if bit_at word x == 1 then v else get_or old x d)) none)
        | inr other ↦
            get_or-set_other out place x v d other
            ∙ before.marked x d less
            ∙ sym (ap (λ (t : ℕ). if t == 1 then get_or old x d else (if bit_at word x == 1 then v else get_or old x d)) (bit_at_clear_other w64 left place (omega arith) x (omega arith) other))
      ];
    }

pub none_left : {A : Type 0} (v : A) (word : ℕ) (old out : List A) → BitsLeft v word 0 old out → (x : ℕ) (d : A) → x < length old → get_or out x d ≡ (if bit_at word x == 1 then v else get_or old x d)
none_left v word old out before x d lt =
    before.marked x d lt ∙ ap (λ (t : ℕ). if t == 1 then get_or old x d else (if bit_at word x == 1 then v else get_or old x d)) (bit_at-zero x)

-- the lowest place that is left
pub lowest_left : (left : ℕ) → (left ≡ 0 → ⊥) → Fits w64 left → (trailing_zeros w64 left < 64) × (bit_at left (trailing_zeros w64 left) ≡ 1)
lowest_left left some fits = let few = fits.fits in let lowest = bit_at-trailing_zeros w64 left (omega arith) few in (lowest.0, lowest.1)

-- a place that is left is one of the samples
pub left_within : (word left place n : ℕ) → place < 64 → bit_at left place ≡ 1 → bit_at left place ≤ bit_at word place → ((x : ℕ) → x < 64 → n ≤ x → bit_at word x ≡ 0) → place < n
left_within word left place n lt here some clean =
    elim (cases_lt place n) [
      | inl within ↦ within
      | inr past ↦ let none = clean place lt past in absurd (omega arith)
    ]

-- a word without one of its bits is less
pub smaller_left : (left place : ℕ) → place < 64 → bit_at left place ≡ 1 → bit_and left (bit_not w64 (1 * 2 ^ place % 2 ^ 64)) < left
smaller_left left place lt here =
    let rest = bit_and left (bit_not w64 (1 * 2 ^ place % 2 ^ 64)) in
    let gone : bit_at rest place ≡ 0 = bit_at_clear_same w64 left place (omega arith) in
    let le : rest ≤ left = and_le_l left (bit_not w64 (1 * 2 ^ place % 2 ^ 64)) in
    elim (cases_eq rest left) [
      | inl same ↦ let is = ap (λ (t : ℕ). bit_at t place) same in absurd (omega arith)
      | inr other ↦ omega arith
    ]
