-- Extrema over the places of a range.
use Rattle.std.proofs.Common.{◌≡◌, ℕ, zero, suc, ◌+◌, ◌*◌, ◌<◌, ◌≤◌, List, [], ◌∷◌, ◌++◌, Option, Some, None, get_or, fold, refl, ap, sym, arith, ◌∙◌}
use Rattle.std.specs.Option.{unwrap_or}
use Rattle.std.specs.List.{range_with_len, filter_map, flat_map, cons_option}
use Rattle.std.proofs.Math.Nat.{add-zero}
use Rattle.std.proofs.lemmas.List.{append-nil}
use Rattle.mw_model.proofs.mw_facts.Numbers.{add_one-add}
use Rattle.mw_lane.specs.Shifted.{merge_at}
use Rattle.mw_line.specs.Extrema.{strided, over}
use Rattle.mw_line.proofs.Folds.{IsExtremum, fold_both}
use Rattle.mw_line.proofs.Joined.{spread_in}

pub over_same : {A : Type 0} (f : A → A → A) (v u : ℕ → A) (a m : ℕ) → ((k : ℕ) → a ≤ k → k ≤ a + m → v k ≡ u k) → over f v a m ≡ over f u a m
over_same f v u a zero same = same a (omega arith) (omega arith)
over_same f v u a (suc m) same =
    ap (λ (t : _). f t (over f v (a + 1) m)) (same a (omega arith) (omega arith))
    ∙ ap (f (u a)) (over_same f v u (a + 1) m (λ k from to. same k (omega arith) (omega arith)))

pub over_shift : {A : Type 0} (f : A → A → A) (v : ℕ → A) (a b c m : ℕ) → c ≡ a + b → over f v c m ≡ over f (λ p. v (a + p)) b m
over_shift f v a b c zero c-is = ap v c-is
over_shift f v a b c (suc m) c-is =
    ap (λ (t : ℕ). f (v t) (over f v (c + 1) m)) c-is ∙ ap (f (v (a + b))) (over_shift f v a (b + 1) (c + 1) m (omega arith))

pub over_strided : {A : Type 0} (f : A → A → A) (row : List A) (d : A) (s p a m q : ℕ) → q ≡ p + a * s → strided f row d s m q ≡ over f (λ k. get_or row (p + k * s) d) a m
over_strided f row d s p a zero q q-is = ap (λ (t : ℕ). get_or row t d) q-is
over_strided f row d s p a (suc m) q q-is =
    ap (λ (t : ℕ). f (get_or row t d) (strided f row d s m (q + s))) q-is
    ∙ ap (f (get_or row (p + a * s) d)) (over_strided f row d s p (a + 1) m (q + s) (omega arith))

exchanged : {A : Type 0} (f : A → A → A) → IsExtremum f → (a b c d : A) → f (f a b) (f c d) ≡ f (f a c) (f b d)
exchanged f laws a b c d =
    laws.associates a b (f c d)
    ∙ ap (f a) (sym (laws.associates b c d) ∙ ap (λ (t : _). f t d) (laws.commutes b c) ∙ laws.associates c b d)
    ∙ sym (laws.associates a c (f b d))

over_both : {A : Type 0} (f : A → A → A) → IsExtremum f → (v u : ℕ → A) (a m : ℕ) → over f (λ k. f (v k) (u k)) a m ≡ f (over f v a m) (over f u a m)
over_both f laws v u a zero = refl
over_both f laws v u a (suc m) = ap (f (f (v a) (u a))) (over_both f laws v u (a + 1) m) ∙ exchanged f laws (v a) (u a) (over f v (a + 1) m) (over f u (a + 1) m)

-- the extremum of columns' extrema is that of rows' extrema
pub over_swapped : {A : Type 0} (f : A → A → A) → IsExtremum f → (v : ℕ → ℕ → A) (a m b n : ℕ) → over f (λ i. over f (v i) b n) a m ≡ over f (λ j. over f (λ i. v i j) a m) b n
over_swapped f laws v a zero b n = refl
over_swapped f laws v a (suc m) b n =
    ap (f (over f (v a) b n)) (over_swapped f laws v (a + 1) m b n) ∙ sym (over_both f laws (v a) (λ j. over f (λ i. v i j) (a + 1) m) b n)

-- n is merged into each value as well as into their extremum
pub over_out : {A : Type 0} (f : A → A → A) → IsExtremum f → (n : A) (value : ℕ → A) (a m : ℕ) → f n (over f value a m) ≡ over f (λ i. f n (value i)) a m
over_out f laws n value a zero = refl
over_out f laws n value a (suc m) = sym (spread_in f laws n (value a) (over f value (a + 1) m)) ∙ ap (f (f n (value a))) (over_out f laws n value (a + 1) m)

pub merged_or : {A : Type 0} (f : A → A → A) → IsExtremum f → (n : A) (o : Option A) → f n (unwrap_or o n) ≡ merge_at f n o
merged_or f laws n None = laws.is_idempotent n
merged_or f laws n (Some a) = refl

-- the fold of rows that are joined is the extremum of their folds
pub fold_flat : {A : Type 0} (f : A → A → A) → IsExtremum f → (n : A) (rows : ℕ → List A) (a m : ℕ)
    → fold f n (flat_map rows (range_with_len a (suc m))) ≡ over f (λ j. fold f n (rows j)) a m
fold_flat f laws n rows a zero = ap (fold f n) (append-nil (rows a))
fold_flat f laws n rows a (suc m) =
    sym (fold_both f laws n (rows a) (flat_map rows (range_with_len (a + 1) (suc m)))) ∙ ap (f (fold f n (rows a))) (fold_flat f laws n rows (a + 1) m)

-- what is there, as a list
abbrev pub those : {A : Type 0} → Option A → List A
those None = []
those (Some x) = x ∷ []

pub fold_those : {A : Type 0} (f : A → A → A) (n : A) (o : Option A) → fold f n (those o) ≡ merge_at f n o
fold_those f n None = refl
fold_those f n (Some x) = refl

cons_those : {A : Type 0} (o : Option A) (xs : List A) → cons_option o xs ≡ those o ++ xs
cons_those None xs = refl
cons_those (Some x) xs = refl

pub filter_map-flat : {A B : Type 0} (g : B → Option A) (xs : List B) → filter_map g xs ≡ flat_map (λ x. those (g x)) xs
filter_map-flat g [] = refl
filter_map-flat g (x ∷ xs) = cons_those (g x) (filter_map g xs) ∙ ap (λ (t : List _). those (g x) ++ t) (filter_map-flat g xs)

-- rows that are all empty
pub all_empty : {A : Type 0} (rows : ℕ → List A) (s m : ℕ) → ((i : ℕ) → s ≤ i → i < s + m → rows i ≡ []) → flat_map rows (range_with_len s m) ≡ []
all_empty rows s zero empty = refl
all_empty rows s (suc m) empty =
    ap (λ (t : List _). t ++ flat_map rows (range_with_len (s + 1) m)) (empty s (omega arith) (omega arith)) ∙ all_empty rows (s + 1) m (λ i from to. empty i (omega arith) (omega arith))

kept_front : {A : Type 0} (rows : ℕ → List A) (s m k : ℕ) → k ≤ m → ((i : ℕ) → s + k ≤ i → i < s + m → rows i ≡ []) → flat_map rows (range_with_len s m) ≡ flat_map rows (range_with_len s k)
kept_front rows s m zero le empty = all_empty rows s m (λ i from to. empty i (omega arith) to)
kept_front rows s zero (suc k) le empty = absurd (omega arith)
kept_front rows s (suc m) (suc k) le empty =
    ap (λ (t : List _). rows s ++ t) (kept_front rows (s + 1) m k (omega arith) (λ i from to. empty i (omega arith) (omega arith)))

-- rows of which those before the first a and those from a + k on are empty
pub rows-kept : {A : Type 0} (rows : ℕ → List A) (s m a k : ℕ) → a + k ≤ m → ((i : ℕ) → s ≤ i → i < s + a → rows i ≡ []) → ((i : ℕ) → s + a + k ≤ i → i < s + m → rows i ≡ [])
    → flat_map rows (range_with_len s m) ≡ flat_map rows (range_with_len (s + a) k)
rows-kept rows s m zero k le before behind =
    kept_front rows s m k (omega arith) (λ i from to. behind i (omega arith) to) ∙ ap (λ (t : ℕ). flat_map rows (range_with_len t k)) (sym (add-zero s))
rows-kept rows s zero (suc a) k le before behind = absurd (omega arith)
rows-kept rows s (suc m) (suc a) k le before behind =
    ap (λ (t : List _). t ++ flat_map rows (range_with_len (s + 1) m)) (before s (omega arith) (omega arith))
    ∙ rows-kept rows (s + 1) m a k (omega arith) (λ i from to. before i (omega arith) (omega arith)) (λ i from to. behind i (omega arith) (omega arith))
    ∙ ap (λ (t : ℕ). flat_map rows (range_with_len t k)) (add_one-add s a)
