-- Folds by an operation that takes no notice of order and repeats.
use Rattle.std.proofs.Common.{◌≡◌, ℕ, ◌+◌, ◌-◌, ◌<◌, ◌≤◌, List, [], ◌∷◌, ◌++◌, length, take, drop, get_or, set, fold, slice_range, ◌≢◌, inl, inr, length-take, length-drop, refl, ap, sym, arith, ◌∙◌}
use Rattle.std.proofs.lemmas.List.Sums.{fold-append}
use Rattle.std.proofs.lemmas.List.{drop_more, drop-take, drop-drop, get_or-set_same, get_or-set_other}
use Rattle.std.proofs.lemmas.Bool.{cases_eq}
use Rattle.std.proofs.Math.Nat.{add-sub_of_le}
use Rattle.std.proofs.Math.Seq.{take-add}

pub record IsExtremum {A : Type 0} (f : A → A → A) : Type 0 where
  pub commutes : (a b : A) → f a b ≡ f b a
  pub associates : (a b c : A) → f (f a b) c ≡ f a (f b c)
  pub is_idempotent : (a : A) → f a a ≡ a

pub fold_out : {A : Type 0} (f : A → A → A) → IsExtremum f → (c d : A) (xs : List A) → fold f (f c d) xs ≡ f c (fold f d xs)
fold_out f laws c d [] = refl
fold_out f laws c d (x ∷ xs) = ap (λ (t : _). fold f t xs) (laws.associates c d x) ∙ fold_out f laws c (f d x) xs

-- the first sample can be taken last
pub fold_first : {A : Type 0} (f : A → A → A) → IsExtremum f → (n x : A) (xs : List A) → fold f n (x ∷ xs) ≡ f x (fold f n xs)
fold_first f laws n x xs = ap (λ (t : _). fold f t xs) (laws.commutes n x) ∙ fold_out f laws x n xs

pub fold_keeps : {A : Type 0} (f : A → A → A) → IsExtremum f → (n : A) (xs : List A) → f n (fold f n xs) ≡ fold f n xs
fold_keeps f laws n xs = sym (fold_out f laws n n xs) ∙ ap (λ (t : _). fold f t xs) (laws.is_idempotent n)

pub fold_both : {A : Type 0} (f : A → A → A) → IsExtremum f → (n : A) (xs ys : List A) → f (fold f n xs) (fold f n ys) ≡ fold f n (xs ++ ys)
fold_both f laws n xs ys =
    let back : fold f n xs ≡ f (fold f n xs) n = sym (fold_keeps f laws n xs) ∙ laws.commutes n (fold f n xs) in
    sym (fold-append f n xs ys ∙ ap (λ (t : _). fold f t ys) back ∙ fold_out f laws (fold f n xs) n ys)

-- a step of the backward pass
pub fold_back : {A : Type 0} (f : A → A → A) → IsExtremum f → (n : A) (block : List A) (i : ℕ) (x best : A) → i < length block
    → x ≡ get_or block i x → best ≡ fold f n (drop (i + 1) block) → f x best ≡ fold f n (drop i block)
fold_back f laws n block i x best lt x-is best-is =
    rw (drop_more block i x lt, ← x-is, best-is) (sym (fold_first f laws n x (drop (i + 1) block)))

-- a window of k places, cut at the end of a block
window_cut : {A : Type 0} (k r : ℕ) (ys : List A) → r ≤ k → drop r (take k ys) ++ take r (drop k ys) ≡ take k (drop r ys)
window_cut k r ys le =
    let whole : r + (k - r) ≡ k = omega arith in
    let back : k - r + r ≡ k = omega arith in
    let front : drop r (take k ys) ≡ take (k - r) (drop r ys) = ap (λ (t : ℕ). drop r (take t ys)) (sym whole) ∙ drop-take r (k - r) ys in
    let rest : take r (drop k ys) ≡ take r (drop (k - r) (drop r ys)) = ap (λ (t : ℕ). take r (drop t ys)) (sym whole) ∙ ap (λ (t : List _). take r t) (sym (drop-drop (k - r) r ys)) in
    rw (front, rest) (sym (take-add (k - r) r (drop r ys)) ∙ ap (λ (t : ℕ). take t (drop r ys)) back)

-- what holds from i on after a write at i
pub set_back : {A : Type 0} (tail : List A) (i : ℕ) (x n : A) (goal : ℕ → A) (e : ℕ) → i < length tail → x ≡ goal i
    → ((r : ℕ) → i + 1 ≤ r → r < e → get_or tail r n ≡ goal r) → (r : ℕ) → i ≤ r → r < e → get_or (set tail i x) r n ≡ goal r
set_back tail i x n goal e room x-is done r from to =
    elim (cases_eq r i) [
      | inl same ↦ rw same (get_or-set_same tail i x n room ∙ x-is)
      | inr other ↦ get_or-set_other tail i r x n other ∙ done r (above i r from other) to
    ]
  where
    above : (i r : ℕ) → i ≤ r → r ≢ i → i + 1 ≤ r
    above i r le ne = omega arith

-- a window that begins in a block, from the block's tail and the samples after it
pub window_done : {A : Type 0} (f : A → A → A) → IsExtremum f → (n : A) (padded rest tail made : List A) (at k kk m i : ℕ)
    → kk ≡ k → rest ≡ drop (at + k) padded → m ≤ k → at + k ≤ length padded
    → ((r : ℕ) → r < length (take kk (drop at padded)) → get_or tail r n ≡ fold f n (drop r (take kk (drop at padded))))
    → ((r : ℕ) → r < m → get_or made r n ≡ f (get_or tail r n) (fold f n (take r rest)))
    → at ≤ i → i < at + m → get_or made (i - at) n ≡ fold f n (slice_range padded i (i + k))
window_done f laws n padded rest tail made at k kk m i kk-is rest-is short room tail-is made-is from to =
    let r = i - at in
    let in_block : r < length (take kk (drop at padded)) = omega (arith, length-take kk (drop at padded), length-drop at padded) in
    let ends : drop (at + k) padded ≡ drop k (drop at padded) = sym (drop-drop k at padded) in
    let begins : drop r (drop at padded) ≡ drop i padded = drop-drop r at padded ∙ ap (λ (t : ℕ). drop t padded) (add-sub_of_le from) in
    let wide : i + k - i ≡ k = omega arith in
    made-is r (omega arith)
    ∙ ap (λ (t : _). f t (fold f n (take r rest))) (tail-is r in_block)
    ∙ fold_both f laws n (drop r (take kk (drop at padded))) (take r rest)
    ∙ ap (λ (t : ℕ). fold f n (drop r (take t (drop at padded)) ++ take r rest)) kk-is
    ∙ ap (λ (t : List _). fold f n (drop r (take k (drop at padded)) ++ take r t)) (rest-is ∙ ends)
    ∙ ap (λ (t : List _). fold f n t) (window_cut k r (drop at padded) (omega arith))
    ∙ ap (λ (t : List _). fold f n (take k t)) begins
    ∙ ap (λ (t : ℕ). fold f n (take t (drop i padded))) (sym wide)
