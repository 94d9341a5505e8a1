-- Tests of levels, and tests that agree on all small numbers, as a check computes.
use Rattle.std.proofs.Common.{◌≡◌, ℕ, ◌<◌, Bool, true, ◌&&◌, ◌||◌, min, max, arith}
use Rattle.std.specs.Prelude.{nat_lt}
use Rattle.std.proofs.lemmas.Bool.{agree_below, agree_below_at}
use Rattle.std.proofs.lemmas.Bool.Decides.{nat_tests}

-- what the lower and the higher of two levels are below
pub lt-min : (a b t : ℕ) → nat_lt (min a b) t ≡ (nat_lt a t || nat_lt b t)
lt-min a b t = grind (arith, nat_tests)

pub lt-max : (a b t : ℕ) → nat_lt (max a b) t ≡ (nat_lt a t && nat_lt b t)
lt-max a b t = grind (arith, nat_tests)

-- whether two tests of three numbers agree where these are below three limits
abbrev pub agree_on_three : (ℕ → ℕ → ℕ → Bool) → (ℕ → ℕ → ℕ → Bool) → ℕ → ℕ → ℕ → Bool
agree_on_three f g a b c = agree_below (λ m. agree_below (λ n. agree_below (f m n) (g m n) c) (λ n. true) b) (λ m. true) a

pub agree_at : (f g : ℕ → ℕ → ℕ → Bool) (a b c m n o : ℕ) → agree_on_three f g a b c ≡ true → m < a → n < b → o < c → f m n o ≡ g m n o
agree_at f g a b c m n o e m-low n-low o-low =
    agree_below_at (f m n) (g m n) c o (agree_below_at (λ n. agree_below (f m n) (g m n) c) (λ n. true) b n (agree_below_at (λ m. agree_below (λ n. agree_below (f m n) (g m n) c) (λ n. true) b) (λ m. true) a m e m-low) n-low) o-low

-- both agree on all pairs of numbers below these
abbrev pub agree_on_two : (ℕ → ℕ → Bool) → (ℕ → ℕ → Bool) → ℕ → ℕ → Bool
agree_on_two f g a b = agree_below (λ m. agree_below (f m) (g m) b) (λ m. true) a

pub agree_at_two : (f g : ℕ → ℕ → Bool) (a b m n : ℕ) → agree_on_two f g a b ≡ true → m < a → n < b → f m n ≡ g m n
agree_at_two f g a b m n e m-low n-low = agree_below_at (f m) (g m) b n (agree_below_at (λ m. agree_below (f m) (g m) b) (λ m. true) a m e m-low) n-low
