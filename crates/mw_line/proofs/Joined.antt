-- Extrema of samples that stand equally far apart, joined.
use Rattle.std.proofs.Common.{◌≡◌, ℕ, zero, suc, ◌+◌, ◌-◌, ◌*◌, ◌<◌, ◌≤◌, List, length, get_or, ap, sym, arith, ◌∙◌}
use Rattle.std.proofs.Math.Nat.{zero-add, suc-add, mul-le-mul_left}
use Rattle.mw_line.specs.Extrema.{strided}
use Rattle.mw_line.proofs.Folds.{IsExtremum}

pub spread_in : {A : Type 0} (f : A → A → A) → IsExtremum f → (x a b : A) → f (f x a) (f x b) ≡ f x (f a b)
spread_in f laws x a b =
    laws.associates x a (f x b)
    ∙ ap (f x) (sym (laws.associates a x b) ∙ ap (λ (t : _). f t b) (laws.commutes a x) ∙ laws.associates x a b)
    ∙ sym (laws.associates x x (f a b))
    ∙ ap (λ (t : _). f t (f a b)) (laws.is_idempotent x)

strided-absorbed : {A : Type 0} (f : A → A → A) → IsExtremum f → (row : List A) (d : A) (s m n p : ℕ) → m ≤ n → f (strided f row d s m p) (strided f row d s n p) ≡ strided f row d s n p
strided-absorbed f laws row d s zero zero p le = laws.is_idempotent (get_or row p d)
strided-absorbed f laws row d s zero (suc n) p le =
    sym (laws.associates (get_or row p d) (get_or row p d) (strided f row d s n (p + s))) ∙ ap (λ (t : _). f t (strided f row d s n (p + s))) (laws.is_idempotent (get_or row p d))
strided-absorbed f laws row d s (suc m) zero p le = absurd (omega arith)
strided-absorbed f laws row d s (suc m) (suc n) p le =
    spread_in f laws (get_or row p d) (strided f row d s m (p + s)) (strided f row d s n (p + s)) ∙ ap (f (get_or row p d)) (strided-absorbed f laws row d s m n (p + s) (omega arith))

-- two runs of samples that meet or overlap
pub strided-joined : {A : Type 0} (f : A → A → A) → IsExtremum f → (row : List A) (d : A) (s j m n p : ℕ) → j ≤ suc m → m ≤ j + n
    → f (strided f row d s m p) (strided f row d s n (p + j * s)) ≡ strided f row d s (j + n) p
strided-joined f laws row d s zero m n p meets le =
    ap (λ (t : ℕ). f (strided f row d s m p) (strided f row d s n t)) (none p s) ∙ strided-absorbed f laws row d s m n p (omega arith) ∙ ap (λ (t : ℕ). strided f row d s t p) (sym (zero-add n))
  where
    none : (p s : ℕ) → p + 0 * s ≡ p
    none p s = omega arith
strided-joined f laws row d s (suc j) zero n p meets le =
    let j-is : j ≡ 0 = omega arith in
    ap (λ (t : ℕ). f (get_or row p d) (strided f row d s n (p + suc t * s))) j-is
    ∙ ap (λ (t : ℕ). f (get_or row p d) (strided f row d s n t)) (once p s)
    ∙ ap (λ (t : ℕ). f (get_or row p d) (strided f row d s t (p + s))) (sym (zero-add n))
    ∙ ap (λ (t : ℕ). f (get_or row p d) (strided f row d s (t + n) (p + s))) (sym j-is)
    ∙ ap (λ (t : ℕ). strided f row d s t p) (sym (suc-add j n))
  where
    once : (p s : ℕ) → p + suc 0 * s ≡ p + s
    once p s = omega arith
strided-joined f laws row d s (suc j) (suc m) n p meets le =
    laws.associates (get_or row p d) (strided f row d s m (p + s)) (strided f row d s n (p + suc j * s))
    ∙ ap (λ (t : ℕ). f (get_or row p d) (f (strided f row d s m (p + s)) (strided f row d s n t))) (over p j s)
    ∙ ap (f (get_or row p d)) (strided-joined f laws row d s j m n (p + s) (omega arith) (omega arith))
    ∙ ap (λ (t : ℕ). strided f row d s t p) (sym (suc-add j n))
  where
    over : (p j s : ℕ) → p + suc j * s ≡ p + s + j * s
    over p j s = omega arith

-- a row of which the samples below left are the extrema of `taken` samples, of `len` samples in all
pub record Taken {A : Type 0} (f : A → A → A) (row : List A) (len s k taken left : ℕ) (now : List A) : Type 0 where
  pub positive : 0 < taken
  pub within : taken ≤ k
  pub size : length now ≡ length row
  pub left_is : left + taken * s ≡ len + s
  pub done : (p : ℕ) (d : A) → p < left → get_or now p d ≡ strided f row d s (taken - 1) p
  pub past : (p : ℕ) (d : A) → len + 63 ≤ p → get_or now p d ≡ get_or row p d

-- no more samples are left than there are
pub taken_within : {A : Type 0} (f : A → A → A) (row : List A) (len s k taken left : ℕ) (now : List A) → Taken f row len s k taken left now → left ≤ len
taken_within f row len s k taken left now before =
    let some : 1 ≤ taken = before.positive in
    let most = mul-le-mul_left s some in omega (arith, most, before.left_is)

-- a pass that takes j more
pub taken_more : {A : Type 0} (f : A → A → A) → IsExtremum f → (row : List A) (len s k taken left j shift rest more count : ℕ) (now made : List A) → Taken f row len s k taken left now
    → j ≤ taken → taken + j ≤ k → k * s < len + s → shift ≡ j * s → rest ≡ left - shift → more ≡ taken + j → length made ≡ length now → rest ≤ count
    → ((p : ℕ) (d : A) → p < count → get_or made p d ≡ f (get_or now p d) (get_or now (p + shift) d))
    → count ≤ rest + 63 → ((p : ℕ) (d : A) → count ≤ p → get_or made p d ≡ get_or now p d)
    → Taken f row len s k more rest made
taken_more f laws row len s k taken left j shift rest more count now made before short within room shift-is rest-is more-is size enough made-is few same =
    let most = mul-le-mul_left s within in
    let inside = taken_within f row len s k taken left now before in
    let fits : shift ≤ left = omega (arith, most, before.left_is) in
    record {
      positive = omega (arith, before.positive);
      within = omega arith;
      size = size ∙ before.size;
      left_is = rw (more-is, rest-is) (omega (arith, before.left_is));
      done = λ p d lt.
          made-is p d (omega arith)
          ∙ ap (λ (t : _). f t (get_or now (p + shift) d)) (before.done p d (omega arith))
          ∙ ap (f (strided f row d s (taken - 1) p)) (before.done (p + shift) d (omega arith) ∙ ap (λ (t : ℕ). strided f row d s (taken - 1) (p + t)) shift-is)
          ∙ strided-joined f laws row d s j (taken - 1) (taken - 1) p (omega (arith, before.positive)) (omega arith)
          ∙ ap (λ (t : ℕ). strided f row d s t p) (count_on before.positive);
      past = λ p d far. same p d (omega arith) ∙ before.past p d far;
    }
  where
    count_on : 0 < taken → j + (taken - 1) ≡ more - 1
    count_on positive = omega (arith, more-is)

pub taken_fits : {A : Type 0} (f : A → A → A) (row : List A) (len s k taken left j : ℕ) (now : List A) → Taken f row len s k taken left now → taken + j ≤ k → k * s < len + s → j * s ≤ left
taken_fits f row len s k taken left j now before within room =
    let most = mul-le-mul_left s within in omega (arith, most, before.left_is)

pub taken_all : {A : Type 0} (f : A → A → A) (row : List A) (len s k taken left : ℕ) (now : List A) → Taken f row len s k taken left now → taken ≡ k
    → (p : ℕ) (d : A) → p + k * s < len + s → get_or now p d ≡ strided f row d s (k - 1) p
taken_all f row len s k taken left now made same p d lt =
    let below : p < left = omega (arith, made.left_is, ap (λ (t : ℕ). t * s) same) in
    made.done p d below ∙ ap (λ (t : ℕ). strided f row d s (t - 1) p) same
