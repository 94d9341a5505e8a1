-- Receipts counted place by place.
use Rattle.std.proofs.Common.{◌≡◌, ◌≢◌, ◌↔◌, ℕ, zero, suc, ◌+◌, ◌-◌, ◌*◌, ◌<◌, ◌≤◌, Bool, false, cond, eqb, List, [], ◌∷◌, length, take, drop, get_or, refl, sym, ap, ◌∙◌, subst, arith, inl, inr, min, IsTrue, Some}
use Rattle.std.specs.Prelude.{count_by, slice_index}
use Rattle.std.specs.List.{slice_get}
use Rattle.std.proofs.lemmas.Option.{same_Some, slice_get-get_or, get_or_from_slice_get}
use Rattle.std.proofs.lemmas.Bool.{cases_lt, ne_eqb}
use Rattle.std.proofs.lemmas.List.Sums.{sum_by-cons, sum_by-take-drop}
use Rattle.mw_model.specs.declared.receipts.Receipt.{Receipt}
use Rattle.mw_model.specs.declared.calls.LogItem.{LogItem}
use Rattle.mw_model.specs.declared.calls.LogItem.TheVariants as item
use Rattle.mw_model.specs.Receipts.{Rises, IsLogged}
use Rattle.mw_pool_passes.specs.Blocks.{of_place, IsOnceAt}

-- ---- places that rise

pub rises-apart : (receipts : List Receipt) (i j : ℕ) (d : Receipt) → Rises receipts → i ≤ j → j < length receipts → (get_or receipts i d).place ≤ (get_or receipts j d).place
rises-apart receipts i zero d rising le within =
    let P : ℕ → Type 0 = λ k. (get_or receipts k d).place ≤ (get_or receipts zero d).place in
    let e : zero ≡ i = omega (arith, le) in
    subst P e (omega arith)
rises-apart receipts i (suc j) d rising le within = elim (cases_lt i (suc j)) [
  | inl lt ↦
      let before = rises-apart receipts i j d rising (omega (arith, lt)) (omega (arith, within)) in
      let next = rising j d (omega (arith, within)) in
      let same : j + 1 ≡ suc j = omega arith in
      let P : ℕ → Type 0 = λ k. (get_or receipts j d).place < (get_or receipts k d).place in
      let step : (get_or receipts j d).place < (get_or receipts (suc j) d).place = subst P same next in
      omega (arith, before, step)
  | inr ge ↦
      let P : ℕ → Type 0 = λ k. (get_or receipts k d).place ≤ (get_or receipts (suc j) d).place in
      let e : suc j ≡ i = omega (arith, le, ge) in
      subst P e (omega arith)
]

same-at : (receipts : List Receipt) (i : ℕ) (d e : Receipt) → i < length receipts → get_or receipts i d ≡ get_or receipts i e
same-at receipts i d e within = get_or_from_slice_get receipts i (get_or receipts i e) d (slice_get-get_or receipts i e within)

-- all up to a receipt that stands before a place stand before it
pub all-before : (receipts : List Receipt) (place middle : ℕ) (e : Receipt) → Rises receipts → middle < length receipts → (get_or receipts middle e).place < place
    → (k : ℕ) (d : Receipt) → k < middle + 1 → (get_or receipts k d).place < place
all-before receipts place middle e rising within here k d below =
    let apart = rises-apart receipts k middle d rising (omega (arith, below)) within in
    let same = ap (λ (r : Receipt). r.place) (same-at receipts middle d e within) in
    omega (arith, apart, same, here)

-- all from a receipt on that does not stand before a place do not
pub all-behind : (receipts : List Receipt) (place middle : ℕ) (e : Receipt) → Rises receipts → middle < length receipts → place ≤ (get_or receipts middle e).place
    → (k : ℕ) (d : Receipt) → middle ≤ k → k < length receipts → place ≤ (get_or receipts k d).place
all-behind receipts place middle e rising within here k d from inside =
    let apart = rises-apart receipts middle k d rising from inside in
    let same = ap (λ (r : Receipt). r.place) (same-at receipts middle d e within) in
    omega (arith, apart, same, here)

-- all from a receipt on that stands behind a block stand behind it
pub all-beyond : (receipts : List Receipt) (base i : ℕ) (e : Receipt) → Rises receipts → i < length receipts → 4096 ≤ (get_or receipts i e).place - base
    → (k : ℕ) (d : Receipt) → i ≤ k → k < length receipts → base + 4096 ≤ (get_or receipts k d).place
all-beyond receipts base i e rising within far = all-behind receipts (base + 4096) i e rising within (omega (arith, far))

-- ---- parts of a list in which nothing passes

pub count-take-none : {X : Type 0} → (p : X → Bool) (xs : List X) (n : ℕ) → ((k : ℕ) (d : X) → k < n → k < length xs → p (get_or xs k d) ≡ false) → count_by p (take n xs) ≡ 0
count-take-none p xs zero none = refl
count-take-none p [] (suc n) none = refl
count-take-none p (x ∷ xs) (suc n) none =
    let here : ◌≡◌ {A = ℕ} (cond (p x) 1 0) 0 = rw (none zero x (omega arith) (omega arith)) refl in
    omega (arith, sum_by-cons (λ y. cond (p y) 1 0) x (take n xs), here, count-take-none p xs n (λ k d l m. none (suc k) d (omega (arith, l)) (omega (arith, m))))

pub count-drop-none : {X : Type 0} → (p : X → Bool) (xs : List X) (n : ℕ) → ((k : ℕ) (d : X) → n ≤ k → k < length xs → p (get_or xs k d) ≡ false) → count_by p (drop n xs) ≡ 0
count-drop-none p [] zero none = refl
count-drop-none p (x ∷ xs) zero none =
    let here : ◌≡◌ {A = ℕ} (cond (p x) 1 0) 0 = rw (none zero x (omega arith) (omega arith)) refl in
    omega (arith, sum_by-cons (λ y. cond (p y) 1 0) x xs, here, count-drop-none p xs zero (λ k d l m. none (suc k) d (omega arith) (omega (arith, m))))
count-drop-none p [] (suc n) none = refl
count-drop-none p (x ∷ xs) (suc n) none = count-drop-none p xs n (λ k d l m. none (suc k) d (omega (arith, l)) (omega (arith, m)))

-- all receipts of a place are among the first n, where those behind are of others
pub count-all : (receipts : List Receipt) (n place : ℕ) → ((k : ℕ) (d : Receipt) → n ≤ k → k < length receipts → (get_or receipts k d).place ≢ place) → of_place receipts place ≡ of_place (take n receipts) place
count-all receipts n place other =
    let p : Receipt → Bool = λ r. eqb r.place place in
    let none = count-drop-none p receipts n (λ k d l m. ne_eqb _ _ (other k d l m)) in
    omega (arith, sum_by-take-drop (λ (r : Receipt). cond (p r) 1 0) receipts n, none)

-- ---- one pass over a block

-- the counts, where those of the first i receipts are added
abbrev pub Added : List ℕ → List ℕ → List Receipt → ℕ → ℕ → Type 0
Added old new receipts base i = (k : ℕ) → k < 4096 → slice_index new k ≡ min 255 (slice_index old k + of_place (take i receipts) (base + k))

-- none is added before the first of the block
pub added-none : (counts : List ℕ) (receipts : List Receipt) (base i : ℕ) → ((k : ℕ) → k < 4096 → slice_index counts k ≤ 255)
    → ((k : ℕ) (d : Receipt) → k < i → (get_or receipts k d).place < base) → Added counts counts receipts base i
added-none counts receipts base i small before k within =
    let none = count-take-none (λ (r : Receipt). eqb r.place (base + k)) receipts i (λ j d l m. ne_eqb _ _ (λ e. omega (arith, before j d l, e))) in
    omega (arith, none, small k within)

-- all are added, where the receipts behind are of other blocks
pub added-all : (old new : List ℕ) (receipts : List Receipt) (base i : ℕ) → Added old new receipts base i
    → ((k : ℕ) (d : Receipt) → i ≤ k → k < length receipts → base + 4096 ≤ (get_or receipts k d).place)
    → (k : ℕ) → k < 4096 → slice_index new k ≡ min 255 (slice_index old k + of_place receipts (base + k))
added-all old new receipts base i added behind k within =
    let all = count-all receipts i (base + k) (λ j d l m e. omega (arith, behind j d l m, e, within)) in
    added k within ∙ ap (λ n. min 255 (slice_index old k + n)) (sym all)

-- ---- all passes over a block

-- ---- one receipt of each call

-- one block more
pub block-more : (log : List LogItem) (passes : List (List Receipt)) (block : ℕ) → ((place : ℕ) → place < block * 4096 → IsOnceAt log passes place)
    → ((k : ℕ) → k < 4096 → IsOnceAt log passes (block * 4096 + k)) → (place : ℕ) → place < (block + 1) * 4096 → IsOnceAt log passes place
block-more log passes block before here place below = elim (cases_lt place (block * 4096)) [
  | inl lt ↦ before place lt
  | inr ge ↦
      let same : block * 4096 + (place - block * 4096) ≡ place = omega (arith, ge) in
      let P : ℕ → Type 0 = λ p. IsOnceAt log passes p in
      subst P same (here (place - block * 4096) (omega (arith, below, ge)))
]

-- the item at the receipt's place is its call
pub logged-iff : (log : List LogItem) (r : Receipt) (i : LogItem) (b : Bool) → slice_get log r.place ≡ Some i → (IsTrue b ↔ (i ≡ item.Call r.call r.reply))
    → (IsTrue b → IsLogged log r) × (IsLogged log r → IsTrue b)
logged-iff log r i b at iff = (λ t. at ∙ ap Some (iff.0 t), λ l. iff.1 (same_Some i (item.Call r.call r.reply) (sym at ∙ l)))
