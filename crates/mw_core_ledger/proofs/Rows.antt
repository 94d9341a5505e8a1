-- Numbers by ticket as a list, one of which may change, and their sum.
use Rattle.std.proofs.Common.{◌≡◌, ◌≢◌, ℕ, ◌+◌, ◌<◌, List, length, map, sum, take, ap, sym, ◌∙◌, arith, get_or, set, inl, inr, length-set}
use Rattle.std.specs.List.{range_with_len}
use Rattle.std.proofs.lemmas.Bool.{cases_eq}
use Rattle.std.proofs.lemmas.List.{ext_get_or, get_or-set_same, get_or-set_other}
use Rattle.std.proofs.lemmas.List.FromFn.{length-map-range_with_len, get_or-map-range_with_len, take-map-range_with_len}
use Rattle.std.proofs.lemmas.List.Sums.{sum_by-set}

-- the number of each of the first n tickets
abbrev pub row : (ℕ → ℕ) → ℕ → List ℕ
row f n = map f (range_with_len 0 n)

pub row-at : (f : ℕ → ℕ) (n i : ℕ) → i < n → get_or (row f n) i 0 ≡ f i
row-at f n i lt = get_or-map-range_with_len f 0 n i i 0 lt (omega arith)

pub row-is : (xs : List ℕ) (f : ℕ → ℕ) (n : ℕ) → length xs ≡ n → ((i : ℕ) → i < n → get_or xs i 0 ≡ f i) → xs ≡ row f n
row-is xs f n long at = ext_get_or 0 xs (row f n) (long ∙ sym (length-map-range_with_len f 0 n)) (λ i lt. at i (omega arith) ∙ sym (row-at f n i (omega arith)))

-- the numbers of the first k tickets, and the next
pub row-first : (xs : List ℕ) (f : ℕ → ℕ) (n k : ℕ) → xs ≡ row f n → k < length xs → (take k xs ≡ row f k) × (get_or xs k 0 ≡ f k)
row-first xs f n k is within =
    let long : length xs ≡ n = ap (λ (ys : List ℕ). length ys) is ∙ length-map-range_with_len f 0 n in
    (ap (take k) is ∙ take-map-range_with_len f 0 n k (omega arith), ap (λ (ys : List ℕ). get_or ys k 0) is ∙ row-at f n k (omega arith))

-- the number of one ticket is written, and those of the others are as they were
pub row-set : (f g : ℕ → ℕ) (n t : ℕ) → t < n → ((i : ℕ) → i < n → i ≢ t → g i ≡ f i) → set (row f n) t (g t) ≡ row g n
row-set f g n t within same =
    let long = length-map-range_with_len f 0 n in
    let kept : length (set (row f n) t (g t)) ≡ length (row f n) = simp length-set in
    row-is (set (row f n) t (g t)) g n (kept ∙ long) (λ i lt. elim (cases_eq i t) [
      | inl e ↦ ap (λ (k : ℕ). get_or (set (row f n) t (g t)) k 0) e ∙ get_or-set_same (row f n) t (g t) 0 (omega arith) ∙ sym (ap g e)
      | inr ne ↦ get_or-set_other (row f n) t i (g t) 0 ne ∙ row-at f n i lt ∙ sym (same i lt ne)
    ])

-- the number of the next ticket is written
pub row-next : (g : ℕ → ℕ) (xs : List ℕ) (t x : ℕ) → t < length xs → x ≡ g t → ((v : ℕ) → v < t → get_or xs v 0 ≡ g v) → (v : ℕ) → v < t + 1 → get_or (set xs t x) v 0 ≡ g v
row-next g xs t x within x-is before v lt = elim (cases_eq v t) [
  | inl e ↦ ap (λ (k : ℕ). get_or (set xs t x) k 0) e ∙ get_or-set_same xs t x 0 within ∙ x-is ∙ sym (ap g e)
  | inr ne ↦ get_or-set_other xs t v x 0 ne ∙ before v (omega arith)
]

-- the sum then
pub sum-set : (f g : ℕ → ℕ) (n t : ℕ) → t < n → ((i : ℕ) → i < n → i ≢ t → g i ≡ f i) → sum (row g n) + f t ≡ sum (row f n) + g t
sum-set f g n t within same =
    let long = length-map-range_with_len f 0 n in
    let new : sum (set (row f n) t (g t)) ≡ sum (row g n) = ap sum (row-set f g n t within same) in
    let both : sum (set (row f n) t (g t)) + get_or (row f n) t 0 ≡ sum (row f n) + g t = sum_by-set (λ x. x) (row f n) t (g t) 0 (omega arith) in
    let at = row-at f n t within in
    omega arith
