-- Three columns of three levels in order, and the median of them: by the principle of zeros and ones (Knuth, volume 3), it is
-- enough to look at how many levels are below a limit.
use Rattle.std.proofs.Common.{◌≡◌, ℕ, ◌+◌, ◌≤◌, ◌<◌, Bool, true, false, ◌&&◌, ◌||◌, min, max, cond, refl, arith}
use Rattle.std.specs.Prelude.{nat_lt, nat_le}
use Rattle.std.proofs.lemmas.Bool.{agree_below, agree_below_at}
use Rattle.std.proofs.lemmas.Bool.Decides.{nat_tests}
use Rattle.mw_rank_medians.specs.Numbered.{below, IsNthLevel, middle}
use Rattle.mw_rank_lent.specs.declared.nine.Sorted.{Sorted}
use Rattle.mw_rank_lent.specs.Sorted.{AreSorted}

-- what the lower and the higher of two levels are below
lt-min : (a b t : ℕ) → nat_lt (min a b) t ≡ (nat_lt a t || nat_lt b t)
lt-min a b t = grind (arith, nat_tests)

lt-max : (a b t : ℕ) → nat_lt (max a b) t ≡ (nat_lt a t && nat_lt b t)
lt-max a b t = grind (arith, nat_tests)

-- whether two tests of three numbers agree where these are below three limits
abbrev agree_on_three : (ℕ → ℕ → ℕ → Bool) → (ℕ → ℕ → ℕ → Bool) → ℕ → ℕ → ℕ → Bool
agree_on_three f g a b c = agree_below (λ m. agree_below (λ n. agree_below (f m n) (g m n) c) (λ n. true) b) (λ m. true) a

agree_at : (f g : ℕ → ℕ → ℕ → Bool) (a b c m n o : ℕ) → agree_on_three f g a b c ≡ true → m < a → n < b → o < c → f m n o ≡ g m n o
agree_at f g a b c m n o e m-low n-low o-low =
    agree_below_at (f m n) (g m n) c o (agree_below_at (λ n. agree_below (f m n) (g m n) c) (λ n. true) b n (agree_below_at (λ m. agree_below (λ n. agree_below (f m n) (g m n) c) (λ n. true) b) (λ m. true) a m e m-low) n-low) o-low

abbrev one : Bool → ℕ
one b = cond b 1 0

three_few : (p q r : Bool) → one p + one q + one r ≤ 3
three_few true true true = omega arith
three_few true true false = omega arith
three_few true false true = omega arith
three_few true false false = omega arith
three_few false true true = omega arith
three_few false true false = omega arith
three_few false false true = omega arith
three_few false false false = omega arith

lowest : (p q r : Bool) → ((p || q) || ((p && q) || r)) ≡ nat_le 1 (one p + one q + one r)
lowest true true true = refl
lowest true true false = refl
lowest true false true = refl
lowest true false false = refl
lowest false true true = refl
lowest false true false = refl
lowest false false true = refl
lowest false false false = refl

middlemost : (p q r : Bool) → ((p || q) && ((p && q) || r)) ≡ nat_le 2 (one p + one q + one r)
middlemost true true true = refl
middlemost true true false = refl
middlemost true false true = refl
middlemost true false false = refl
middlemost false true true = refl
middlemost false true false = refl
middlemost false false true = refl
middlemost false false false = refl

highest : (p q r : Bool) → ((p && q) && r) ≡ nat_le 3 (one p + one q + one r)
highest true true true = refl
highest true true false = refl
highest true false true = refl
highest true false false = refl
highest false true true = refl
highest false true false = refl
highest false false true = refl
highest false false false = refl

-- three levels after three exchanges
pub three_ordered : (a b c : ℕ) (count : ℕ → ℕ) → ((t : ℕ) → count t ≡ below a t + below b t + below c t)
    → AreSorted count (record { low = min (min a b) (min (max a b) c); middle = max (min a b) (min (max a b) c); high = max (max a b) c })
three_ordered a b c count is = record {
  few = λ t. rw (is t) (three_few (nat_lt a t) (nat_lt b t) (nat_lt c t));
  low = λ t. rw (is t, lt-min (min a b) (min (max a b) c) t, lt-min a b t, lt-min (max a b) c t, lt-max a b t) (lowest (nat_lt a t) (nat_lt b t) (nat_lt c t));
  middle = λ t. rw (is t, lt-max (min a b) (min (max a b) c) t, lt-min a b t, lt-min (max a b) c t, lt-max a b t) (middlemost (nat_lt a t) (nat_lt b t) (nat_lt c t));
  high = λ t. rw (is t, lt-max (max a b) c t, lt-max a b t) (highest (nat_lt a t) (nat_lt b t) (nat_lt c t));
}

abbrev middle_test : Bool → Bool → Bool → Bool
middle_test p q r = (p || q) && ((p && q) || r)

lt-middle : (a b c t : ℕ) → nat_lt (middle a b c) t ≡ middle_test (nat_lt a t) (nat_lt b t) (nat_lt c t)
lt-middle a b c t = rw (lt-max (min a b) (min (max a b) c) t, lt-min a b t, lt-min (max a b) c t, lt-max a b t) refl

-- whether the median is below a limit, by how many levels of three columns in order are
abbrev nine_test : ℕ → ℕ → ℕ → Bool
nine_test m n o =
    middle_test ((nat_le 1 m && nat_le 1 n) && nat_le 1 o) (middle_test (nat_le 2 m) (nat_le 2 n) (nat_le 2 o)) ((nat_le 3 m || nat_le 3 n) || nat_le 3 o)

nine_counts : agree_on_three nine_test (λ m n o. nat_le 5 (m + n + o)) 4 4 4 ≡ true
nine_counts = refl

-- number 5 of three columns of three in order
pub median_found : (x y z : Sorted ℕ) (f g h : ℕ → ℕ) → AreSorted f x → AreSorted g y → AreSorted h z
    → IsNthLevel (λ t. f t + g t + h t) 5 (middle (max (max x.low y.low) z.low) (middle x.middle y.middle z.middle) (min (min x.high y.high) z.high))
median_found x y z f g h of-x of-y of-z = λ t.
    let low = max (max x.low y.low) z.low in
    let mid = middle x.middle y.middle z.middle in
    let high = min (min x.high y.high) z.high in
    rw (lt-middle low mid high t, lt-max (max x.low y.low) z.low t, lt-max x.low y.low t, lt-middle x.middle y.middle z.middle t, lt-min (min x.high y.high) z.high t, lt-min x.high y.high t, of-x.low t, of-y.low t, of-z.low t, of-x.middle t, of-y.middle t, of-z.middle t, of-x.high t, of-y.high t, of-z.high t)
    (agree_at nine_test (λ m n o. nat_le 5 (m + n + o)) 4 4 4 (f t) (g t) (h t) nine_counts (omega (arith, of-x.few t)) (omega (arith, of-y.few t)) (omega (arith, of-z.few t)))
