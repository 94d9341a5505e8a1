-- Windows on a line with neutral samples before and after it.
use Rattle.std.proofs.Common.{◌≡◌, ℕ, zero, suc, ◌+◌, ◌-◌, ◌<◌, List, [], ◌∷◌, ◌++◌, length, take, drop, fold, slice_range, refl, ap, sym, arith, ◌∙◌, min, replicate, ℤ, pos, negsuc, ◌+ℤ◌, ◌-ℤ◌, ◌≤ℤ◌}
use Rattle.std.proofs.lemmas.Int.{ints}
use Rattle.std.proofs.lemmas.List.{drop_min, drop-drop}
use lib.IntN.{neg_ℤ, nat_abs}
use borrow.Author.Differences.{up, down}
use Rattle.mw_line.specs.Line.{line_at}
use Rattle.mw_model.specs.Rectangles.{nonnegative, span}
use Rattle.mw_model.proofs.Nonnegative.{nonnegative_is}
use Rattle.mw_line.proofs.Folds.{IsExtremum}

same_part : {A : Type 0} (m n i j : ℕ) (xs : List A) → m ≡ n → i ≡ j → take m (drop i xs) ≡ take n (drop j xs)
same_part m n i j xs m-is i-is = ap (λ (t : ℕ). take t (drop i xs)) m-is ∙ ap (λ (t : ℕ). take n (drop t xs)) i-is

-- neutral samples in front
pub pad_front : {A : Type 0} (f : A → A → A) → IsExtremum f → (n : A) (m k i : ℕ) (ys : List A)
    → fold f n (take k (drop i (replicate m n ++ ys))) ≡ fold f n (take (k - (m - i)) (drop (i - m) ys))
pad_front f laws n zero k i ys = ap (fold f n) (same_part k (k - (0 - i)) i (i - 0) ys (omega arith) (omega arith))
pad_front f laws n (suc m) zero zero ys = ap (fold f n) (same_part 0 (0 - (suc m - 0)) 0 (0 - suc m) ys (omega arith) (omega arith))
pad_front f laws n (suc m) (suc k) zero ys =
    ap (λ (t : _). fold f t (take k (replicate m n ++ ys))) (laws.is_idempotent n)
    ∙ pad_front f laws n m k zero ys
    ∙ ap (fold f n) (same_part (k - (m - 0)) (suc k - (suc m - 0)) (0 - m) (0 - suc m) ys (omega arith) (omega arith))
pad_front f laws n (suc m) k (suc i) ys =
    pad_front f laws n m k i ys ∙ ap (fold f n) (same_part (k - (m - i)) (k - (suc m - suc i)) (i - m) (suc i - suc m) ys (omega arith) (omega arith))

-- a value that takes no notice of the neutral sample
nothing_more : {A : Type 0} (f : A → A → A) (n c : A) (m k i : ℕ) → f c n ≡ c → fold f c (take k (drop i (replicate m n))) ≡ c
nothing_more f n c zero zero zero same = refl
nothing_more f n c zero zero (suc i) same = refl
nothing_more f n c zero (suc k) zero same = refl
nothing_more f n c zero (suc k) (suc i) same = refl
nothing_more f n c (suc m) zero zero same = refl
nothing_more f n c (suc m) (suc k) zero same = ap (λ (t : _). fold f t (take k (replicate m n))) same ∙ nothing_more f n c m k zero same
nothing_more f n c (suc m) k (suc i) same = nothing_more f n c m k i same

absorbs-neutral : {A : Type 0} (f : A → A → A) → IsExtremum f → (n c x : A) → f c n ≡ c → f (f c x) n ≡ f c x
absorbs-neutral f laws n c x same = laws.associates c x n ∙ ap (f c) (laws.commutes x n) ∙ sym (laws.associates c n x) ∙ ap (λ (t : _). f t x) same

-- neutral samples behind
pad_back : {A : Type 0} (f : A → A → A) → IsExtremum f → (n c : A) (m k i : ℕ) (ys : List A) → f c n ≡ c
    → fold f c (take k (drop i (ys ++ replicate m n))) ≡ fold f c (take k (drop i ys))
pad_back f laws n c m zero zero [] same = refl
pad_back f laws n c m zero (suc i) [] same = nothing_more f n c m zero (suc i) same
pad_back f laws n c m (suc k) zero [] same = nothing_more f n c m (suc k) zero same
pad_back f laws n c m (suc k) (suc i) [] same = nothing_more f n c m (suc k) (suc i) same
pad_back f laws n c m zero zero (y ∷ ys) same = refl
pad_back f laws n c m (suc k) zero (y ∷ ys) same = pad_back f laws n (f c y) m k zero ys (absorbs-neutral f laws n c y same)
pad_back f laws n c m k (suc i) (y ∷ ys) same = pad_back f laws n c m k i ys same

lo_is : (a : ℤ) (i : ℕ) → nonnegative (pos i +ℤ a) ≡ nonnegative a + (i - nonnegative (neg_ℤ a))
lo_is a i = omega (arith, ints, nonnegative_is (pos i +ℤ a), nonnegative_is a, nonnegative_is (neg_ℤ a))

size_is : (a b : ℤ) (i : ℕ) → a ≤ℤ b → span a b - (nonnegative (neg_ℤ a) - i) ≡ nonnegative (pos i +ℤ b +ℤ pos 1) - nonnegative (pos i +ℤ a)
size_is a b i le = omega (arith, ints, nonnegative_is (b -ℤ a +ℤ pos 1), nonnegative_is (neg_ℤ a), nonnegative_is (pos i +ℤ b +ℤ pos 1), nonnegative_is (pos i +ℤ a))

pub size_positive : (a b : ℤ) → a ≤ℤ b → 0 < span a b
size_positive a b le = omega (arith, ints, nonnegative_is (b -ℤ a +ℤ pos 1))

-- a window of the padded line has the samples that exist
pub padded_window : {A : Type 0} (f : A → A → A) → IsExtremum f → (n : A) (samples : List A) (a b : ℤ) (i right : ℕ) → a ≤ℤ b
    → fold f n (slice_range (replicate (nonnegative (neg_ℤ a)) n ++ (drop (min (nonnegative a) (length samples)) samples ++ replicate right n)) i (i + span a b)) ≡ line_at f n samples a b i
padded_window f laws n samples a b i right le =
    let left = nonnegative (neg_ℤ a) in
    let size = span a b in
    let kept = drop (min (nonnegative a) (length samples)) samples in
    let wide : i + size - i ≡ size = omega arith in
    ap (λ (t : ℕ). fold f n (take t (drop i (replicate left n ++ (kept ++ replicate right n))))) wide
    ∙ pad_front f laws n left size i (kept ++ replicate right n)
    ∙ pad_back f laws n n right (size - (left - i)) (i - left) kept (laws.is_idempotent n)
    ∙ ap (λ (t : List _). fold f n (take (size - (left - i)) (drop (i - left) t))) (drop_min (nonnegative a) samples)
    ∙ ap (λ (t : List _). fold f n (take (size - (left - i)) t)) (drop-drop (i - left) (nonnegative a) samples)
    ∙ ap (fold f n) (same_part (size - (left - i)) (nonnegative (pos i +ℤ b +ℤ pos 1) - nonnegative (pos i +ℤ a)) (nonnegative a + (i - left)) (nonnegative (pos i +ℤ a)) samples (size_is a b i le) (sym (lo_is a i)))

pub size_is_abs : (a b z : ℤ) → a ≤ℤ b → z ≡ b -ℤ a +ℤ pos 1 → nat_abs z ≡ span a b
size_is_abs a b z le z-is = omega (arith, ints, abs_is z, nonnegative_is (b -ℤ a +ℤ pos 1))
  where
    abs_is : (z : ℤ) → nat_abs z ≡ up z + down z
    abs_is (pos n) = omega arith
    abs_is (negsuc n) = omega arith

-- what the padded line is made from
pub line_done : {A : Type 0} (f : A → A → A) → IsExtremum f → (n : A) (samples row : List A) (a b : ℤ) (left skip right k i : ℕ) (x : A) → a ≤ℤ b
    → left ≡ nonnegative (neg_ℤ a) → skip ≡ nonnegative a → k ≡ span a b
    → row ≡ replicate left n ++ (drop (min skip (length samples)) samples ++ replicate right n)
    → x ≡ fold f n (slice_range row i (i + k)) → x ≡ line_at f n samples a b i
line_done f laws n samples row a b left skip right k i x le left-is skip-is k-is row-is x-is =
    x-is
    ∙ ap (λ (t : ℕ). fold f n (slice_range row i (i + t))) k-is
    ∙ ap (λ (t : List _). fold f n (slice_range t i (i + span a b))) (row-is ∙ ap (λ (t : ℕ). replicate t n ++ (drop (min skip (length samples)) samples ++ replicate right n)) left-is ∙ ap (λ (t : ℕ). replicate (nonnegative (neg_ℤ a)) n ++ (drop (min t (length samples)) samples ++ replicate right n)) skip-is)
    ∙ padded_window f laws n samples a b i right le
