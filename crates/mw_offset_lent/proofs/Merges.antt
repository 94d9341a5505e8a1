-- Cells that are merged at places.
use Rattle.std.proofs.Common.{◌≡◌, ℕ, zero, suc, ◌+◌, ◌<◌, List, [], ◌∷◌, length, take, get_or, fold, refl, ap, sym, arith, ◌∙◌, inl, inr}
use Rattle.std.specs.List.{Contains}
use Rattle.std.proofs.lemmas.List.{take_more}
use Rattle.std.proofs.lemmas.List.Sums.{fold-append}
use Rattle.mw_line.proofs.Folds.{IsExtremum}
use Rattle.mw_offset_lent.specs.Places.{merged_at}
use Rattle.mw_offset_lent.specs.Splits.{IsCover}

-- what is merged lies below both
pub below_left : {A : Type 0} (f : A → A → A) → IsExtremum f → (x y : A) → f (f x y) x ≡ f x y
below_left f laws x y = ap (λ (t : _). f t x) (laws.commutes x y) ∙ laws.associates y x x ∙ ap (f y) (laws.is_idempotent x) ∙ laws.commutes y x

below_right : {A : Type 0} (f : A → A → A) → IsExtremum f → (x y : A) → f (f x y) y ≡ f x y
below_right f laws x y = laws.associates x y y ∙ ap (f x) (laws.is_idempotent y)

below_both : {A : Type 0} (f : A → A → A) → IsExtremum f → (z x y : A) → f z x ≡ z → f z y ≡ z → f z (f x y) ≡ z
below_both f laws z x y p q = sym (laws.associates z x y) ∙ ap (λ (t : _). f t y) p ∙ q

pub below_trans : {A : Type 0} (f : A → A → A) → IsExtremum f → (x y z : A) → f x y ≡ x → f y z ≡ y → f x z ≡ x
below_trans f laws x y z p q = ap (λ (t : _). f t z) (sym p) ∙ laws.associates x y z ∙ ap (f x) q ∙ p

below_antisym : {A : Type 0} (f : A → A → A) → IsExtremum f → (x y : A) → f x y ≡ x → f y x ≡ y → x ≡ y
below_antisym f laws x y p q = sym p ∙ laws.commutes x y ∙ q

-- what is merged lies below what its start lies below, and below each cell; and what lies below these lies below it
merged_keeps : {A : Type 0} (f : A → A → A) → IsExtremum f → (cells : List A) (d : A) (q : ℕ) (best : A) (places : List ℕ) (z : A) → f best z ≡ best → f (merged_at f cells d q best places) z ≡ merged_at f cells d q best places
merged_keeps f laws cells d q best [] z below = below
merged_keeps f laws cells d q best (p ∷ ps) z below =
    let c = get_or cells (p + q) d in
    merged_keeps f laws cells d q (f best c) ps z (below_trans f laws (f best c) best z (below_left f laws best c) below)

merged_below : {A : Type 0} (f : A → A → A) → IsExtremum f → (cells : List A) (d : A) (q : ℕ) (best : A) (places : List ℕ) (p : ℕ) → Contains places p → f (merged_at f cells d q best places) (get_or cells (p + q) d) ≡ merged_at f cells d q best places
merged_below f laws cells d q best [] p has = absurd (let lt = has.1 in omega arith)
merged_below f laws cells d q best (x ∷ xs) p (zero, lt, is) =
    let c = get_or cells (x + q) d in
    ap (λ (t : ℕ). f (merged_at f cells d q (f best c) xs) (get_or cells (t + q) d)) (sym is) ∙ merged_keeps f laws cells d q (f best c) xs c (below_right f laws best c)
merged_below f laws cells d q best (x ∷ xs) p (suc k, lt, is) = merged_below f laws cells d q (f best (get_or cells (x + q) d)) xs p (k, omega arith, is)

merged_most : {A : Type 0} (f : A → A → A) → IsExtremum f → (cells : List A) (d : A) (q : ℕ) (best : A) (places : List ℕ) (z : A) → f z best ≡ z → ((p : ℕ) → Contains places p → f z (get_or cells (p + q) d) ≡ z)
    → f z (merged_at f cells d q best places) ≡ z
merged_most f laws cells d q best [] z start all = start
merged_most f laws cells d q best (x ∷ xs) z start all =
    let c = get_or cells (x + q) d in
    merged_most f laws cells d q (f best c) xs z (below_both f laws z best c start (all x (0, omega arith, refl))) (λ p has. all p (suc has.0, (let lt = has.1 in omega arith), has.2))

-- what is merged of the shared places and then of the rest is merged of all places
pub merged_split : {A : Type 0} (f : A → A → A) → IsExtremum f → (cells : List A) (d n : A) (q ahead : ℕ) (shared rest all : List ℕ) → IsCover shared rest all ahead
    → merged_at f cells d (q + ahead) (merged_at f cells d q n shared) rest ≡ merged_at f cells d (q + ahead) n all
merged_split f laws cells d n q ahead shared rest all cover =
    let both = merged_at f cells d q n shared in
    let parts = merged_at f cells d (q + ahead) both rest in
    let whole = merged_at f cells d (q + ahead) n all in
    let low : f both n ≡ both = merged_keeps f laws cells d q n shared n (laws.is_idempotent n) in
    let low_whole : f whole n ≡ whole = merged_keeps f laws cells d (q + ahead) n all n (laws.is_idempotent n) in
    below_antisym f laws parts whole
    (merged_most f laws cells d (q + ahead) n all parts (merged_keeps f laws cells d (q + ahead) both rest n low)
    (λ p has. elim (cover.whole p has) [
      | inl in_shared ↦
          let here : p + (q + ahead) ≡ p + ahead + q = omega arith in
          merged_keeps f laws cells d (q + ahead) both rest (get_or cells (p + (q + ahead)) d) (ap (λ (t : ℕ). f both (get_or cells t d)) here ∙ merged_below f laws cells d q n shared (p + ahead) in_shared)
      | inr in_rest ↦ merged_below f laws cells d (q + ahead) both rest p in_rest
    ]))
    (merged_most f laws cells d (q + ahead) both rest whole
    (merged_most f laws cells d q n shared whole low_whole
    (λ p has.
    let from = cover.shared p has in
    let is = from.2 in
    let here : p + q ≡ from.0 + (q + ahead) = omega arith in
    ap (λ (t : ℕ). f whole (get_or cells t d)) here ∙ merged_below f laws cells d (q + ahead) n all from.0 from.1))
    (λ p has. merged_below f laws cells d (q + ahead) n all p (cover.rest p has)))

-- one place more
pub merged_more : {A : Type 0} (f : A → A → A) (cells : List A) (d : A) (q j place : ℕ) (places : List ℕ) (best found made : A) → j < length places → place ≡ get_or places j 0 → found ≡ merged_at f cells d q best (take j places)
    → made ≡ f found (get_or cells (place + q) d) → made ≡ merged_at f cells d q best (take (j + 1) places)
merged_more f cells d q j place places best found made lt place-is found-is made-is =
    let step = λ (b : _) (p : ℕ). f b (get_or cells (p + q) d) in
    made-is
    ∙ ap (λ (t : _). f t (get_or cells (place + q) d)) found-is
    ∙ ap (λ (t : ℕ). f (merged_at f cells d q best (take j places)) (get_or cells (t + q) d)) place-is
    ∙ sym (ap (fold step best) (take_more places j 0 lt) ∙ fold-append step best (take j places) (get_or places j 0 ∷ []))
