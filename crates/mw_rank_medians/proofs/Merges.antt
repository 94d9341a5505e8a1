-- Merges of levels in order: which of the results are below a limit follows from how many of the levels are.
use Rattle.std.proofs.Common.{◌≡◌, ℕ, ◌+◌, ◌≤◌, Bool, true, false, ◌&&◌, ◌||◌, min, max, cond, refl, ap, sym, arith, ◌∙◌}
use Rattle.std.specs.Prelude.{nat_lt, nat_le}
use Rattle.mw_rank_medians.specs.declared.nine.Three.{Three}
use Rattle.mw_rank_medians.specs.declared.five.Two.{Two}
use Rattle.mw_rank_medians.specs.declared.five.Five.{Five}
use Rattle.mw_rank_medians.specs.declared.five.Six.{Six}
use Rattle.mw_rank_medians.specs.declared.five.Ten.{Ten}
use Rattle.mw_rank_medians.specs.Networks.{two_with_three, five_with_five, middle_of_twenty, last_of}
use Rattle.mw_rank_medians.specs.Numbered.{below, IsNthLevel, AreTwo, AreThree, AreFive, AreTen, AreMiddle}
use Rattle.mw_rank_medians.proofs.Tests.{lt-min, lt-max, agree_on_two, agree_at_two}

abbrev or : Bool → Bool → Bool
or p q = p || q

abbrev and : Bool → Bool → Bool
and p q = p && q

-- which levels are below a limit

abbrev two_below : Two ℕ → ℕ → Two Bool
two_below x t = record { low = nat_lt x.low t; high = nat_lt x.high t }

abbrev three_below : Three ℕ → ℕ → Three Bool
three_below x t = record { low = nat_lt x.low t; middle = nat_lt x.middle t; high = nat_lt x.high t }

abbrev five_below : Five ℕ → ℕ → Five Bool
five_below x t = record { first = nat_lt x.first t; second = nat_lt x.second t; third = nat_lt x.third t; fourth = nat_lt x.fourth t; fifth = nat_lt x.fifth t }

abbrev six_below : Six ℕ → ℕ → Six Bool
six_below x t = record { first = nat_lt x.first t; second = nat_lt x.second t; third = nat_lt x.third t; fourth = nat_lt x.fourth t; fifth = nat_lt x.fifth t; sixth = nat_lt x.sixth t }

abbrev ten_below : Ten ℕ → ℕ → Ten Bool
ten_below x t = record { odd = five_below x.odd t; even = five_below x.even t }

-- which of levels in order are below a limit that n of them are below

abbrev two_of : ℕ → Two Bool
two_of n = record { low = nat_le 1 n; high = nat_le 2 n }

abbrev three_of : ℕ → Three Bool
three_of n = record { low = nat_le 1 n; middle = nat_le 2 n; high = nat_le 3 n }

abbrev five_of : ℕ → Five Bool
five_of n = record { first = nat_le 1 n; second = nat_le 2 n; third = nat_le 3 n; fourth = nat_le 4 n; fifth = nat_le 5 n }

abbrev six_of : ℕ → Six Bool
six_of n = record { first = nat_le 8 n; second = nat_le 9 n; third = nat_le 10 n; fourth = nat_le 11 n; fifth = nat_le 12 n; sixth = nat_le 13 n }

abbrev ten_of : ℕ → Ten Bool
ten_of n = record { odd = record { first = nat_le 1 n; second = nat_le 3 n; third = nat_le 5 n; fourth = nat_le 7 n; fifth = nat_le 9 n }; even = record { first = nat_le 2 n; second = nat_le 4 n; third = nat_le 6 n; fourth = nat_le 8 n; fifth = nat_le 10 n } }

two-same : (a0 a1 b0 b1 : Bool) → a0 ≡ b0 → a1 ≡ b1 → let p : Two Bool = record { low = a0; high = a1 } in let q : Two Bool = record { low = b0; high = b1 } in p ≡ q
two-same a0 a1 b0 b1 e0 e1 = cc

three-same : (a0 a1 a2 b0 b1 b2 : Bool) → a0 ≡ b0 → a1 ≡ b1 → a2 ≡ b2 → let p : Three Bool = record { low = a0; middle = a1; high = a2 } in let q : Three Bool = record { low = b0; middle = b1; high = b2 } in p ≡ q
three-same a0 a1 a2 b0 b1 b2 e0 e1 e2 = cc

five-same : (a0 a1 a2 a3 a4 b0 b1 b2 b3 b4 : Bool) → a0 ≡ b0 → a1 ≡ b1 → a2 ≡ b2 → a3 ≡ b3 → a4 ≡ b4 → let p : Five Bool = record { first = a0; second = a1; third = a2; fourth = a3; fifth = a4 } in let q : Five Bool = record { first = b0; second = b1; third = b2; fourth = b3; fifth = b4 } in p ≡ q
five-same a0 a1 a2 a3 a4 b0 b1 b2 b3 b4 e0 e1 e2 e3 e4 = cc

six-same : (a0 a1 a2 a3 a4 a5 b0 b1 b2 b3 b4 b5 : Bool) → a0 ≡ b0 → a1 ≡ b1 → a2 ≡ b2 → a3 ≡ b3 → a4 ≡ b4 → a5 ≡ b5 → let p : Six Bool = record { first = a0; second = a1; third = a2; fourth = a3; fifth = a4; sixth = a5 } in let q : Six Bool = record { first = b0; second = b1; third = b2; fourth = b3; fifth = b4; sixth = b5 } in p ≡ q
six-same a0 a1 a2 a3 a4 a5 b0 b1 b2 b3 b4 b5 e0 e1 e2 e3 e4 e5 = cc

ten-same : (a b c d : Five Bool) → a ≡ b → c ≡ d → let p : Ten Bool = record { odd = a; even = c } in let q : Ten Bool = record { odd = b; even = d } in p ≡ q
ten-same a b c d e f = cc

two_tested : (f : ℕ → ℕ) (x : Two ℕ) → AreTwo f x → (t : ℕ) → two_below x t ≡ two_of (f t)
two_tested f x of t = two-same _ _ _ _ (of.low t) (of.high t)

three_tested : (f : ℕ → ℕ) (x : Three ℕ) → AreThree f x → (t : ℕ) → three_below x t ≡ three_of (f t)
three_tested f x of t = three-same _ _ _ _ _ _ (of.low t) (of.middle t) (of.high t)

five_tested : (f : ℕ → ℕ) (x : Five ℕ) → AreFive f x → (t : ℕ) → five_below x t ≡ five_of (f t)
five_tested f x of t = five-same _ _ _ _ _ _ _ _ _ _ (of.first t) (of.second t) (of.third t) (of.fourth t) (of.fifth t)

six_tested : (f : ℕ → ℕ) (x : Six ℕ) → AreMiddle f x → (t : ℕ) → six_below x t ≡ six_of (f t)
six_tested f x of t = six-same _ _ _ _ _ _ _ _ _ _ _ _ (of.first t) (of.second t) (of.third t) (of.fourth t) (of.fifth t) (of.sixth t)

ten_tested : (f : ℕ → ℕ) (x : Ten ℕ) → AreTen f x → (t : ℕ) → ten_below x t ≡ ten_of (f t)
ten_tested f x of t = ten-same _ _ _ _ (five-same _ _ _ _ _ _ _ _ _ _ (of.first t) (of.third t) (of.fifth t) (of.seventh t) (of.ninth t)) (five-same _ _ _ _ _ _ _ _ _ _ (of.second t) (of.fourth t) (of.sixth t) (of.eighth t) (of.tenth t))

lt-two_with_three : (x : Two ℕ) (y : Three ℕ) (t : ℕ) → five_below (two_with_three min max x y) t ≡ two_with_three or and (two_below x t) (three_below y t)
lt-two_with_three x y t = simp (lt-min, lt-max) refl

-- two in order and three in order make five
pub five_made : (x : Two ℕ) (y : Three ℕ) (f g count : ℕ → ℕ) → AreTwo f x → AreThree g y → ((t : ℕ) → count t ≡ f t + g t) → AreFive count (two_with_three min max x y)
five_made x y f g count of-x of-y is = record {
  few = λ t. omega (arith, is t, of-x.few t, of-y.few t);
  first = λ t. at 1 (λ r. r.first) refl t;
  second = λ t. at 2 (λ r. r.second) refl t;
  third = λ t. at 3 (λ r. r.third) refl t;
  fourth = λ t. at 4 (λ r. r.fourth) refl t;
  fifth = λ t. at 5 (λ r. r.fifth) refl t;
}
  where
    at : (k : ℕ) (part : Five Bool → Bool) → agree_on_two (λ m n. part (two_with_three or and (two_of m) (three_of n))) (λ m n. nat_le k (m + n)) 3 4 ≡ true → (t : ℕ) → part (five_below (two_with_three min max x y) t) ≡ nat_le k (count t)
    at k part e t =
        ap part (lt-two_with_three x y t ∙ ap (λ (p : Two Bool). two_with_three or and p (three_below y t)) (two_tested f x of-x t) ∙ ap (λ (q : Three Bool). two_with_three or and (two_of (f t)) q) (three_tested g y of-y t))
        ∙ agree_at_two (λ m n. part (two_with_three or and (two_of m) (three_of n))) (λ m n. nat_le k (m + n)) 3 4 (f t) (g t) e (omega (arith, of-x.few t)) (omega (arith, of-y.few t))
        ∙ ap (nat_le k) (sym (is t))

lt-five_with_five : (x : Five ℕ) (y : Five ℕ) (t : ℕ) → ten_below (five_with_five min max x y) t ≡ five_with_five or and (five_below x t) (five_below y t)
lt-five_with_five x y t = simp (lt-min, lt-max) refl

-- five in order and five in order make ten
pub ten_made : (x : Five ℕ) (y : Five ℕ) (f g count : ℕ → ℕ) → AreFive f x → AreFive g y → ((t : ℕ) → count t ≡ f t + g t) → AreTen count (five_with_five min max x y)
ten_made x y f g count of-x of-y is = record {
  few = λ t. omega (arith, is t, of-x.few t, of-y.few t);
  first = λ t. at 1 (λ r. r.odd.first) refl t;
  second = λ t. at 2 (λ r. r.even.first) refl t;
  third = λ t. at 3 (λ r. r.odd.second) refl t;
  fourth = λ t. at 4 (λ r. r.even.second) refl t;
  fifth = λ t. at 5 (λ r. r.odd.third) refl t;
  sixth = λ t. at 6 (λ r. r.even.third) refl t;
  seventh = λ t. at 7 (λ r. r.odd.fourth) refl t;
  eighth = λ t. at 8 (λ r. r.even.fourth) refl t;
  ninth = λ t. at 9 (λ r. r.odd.fifth) refl t;
  tenth = λ t. at 10 (λ r. r.even.fifth) refl t;
}
  where
    at : (k : ℕ) (part : Ten Bool → Bool) → agree_on_two (λ m n. part (five_with_five or and (five_of m) (five_of n))) (λ m n. nat_le k (m + n)) 6 6 ≡ true → (t : ℕ) → part (ten_below (five_with_five min max x y) t) ≡ nat_le k (count t)
    at k part e t =
        ap part (lt-five_with_five x y t ∙ ap (λ (p : Five Bool). five_with_five or and p (five_below y t)) (five_tested f x of-x t) ∙ ap (λ (q : Five Bool). five_with_five or and (five_of (f t)) q) (five_tested g y of-y t))
        ∙ agree_at_two (λ m n. part (five_with_five or and (five_of m) (five_of n))) (λ m n. nat_le k (m + n)) 6 6 (f t) (g t) e (omega (arith, of-x.few t)) (omega (arith, of-y.few t))
        ∙ ap (nat_le k) (sym (is t))

lt-middle_of_twenty : (x : Ten ℕ) (y : Ten ℕ) (t : ℕ) → six_below (middle_of_twenty min max x y) t ≡ middle_of_twenty or and (ten_below x t) (ten_below y t)
lt-middle_of_twenty x y t = simp (lt-min, lt-max) refl

-- ten in order and ten in order make the middle of twenty
pub middle_made : (x : Ten ℕ) (y : Ten ℕ) (f g count : ℕ → ℕ) → AreTen f x → AreTen g y → ((t : ℕ) → count t ≡ f t + g t) → AreMiddle count (middle_of_twenty min max x y)
middle_made x y f g count of-x of-y is = record {
  few = λ t. omega (arith, is t, of-x.few t, of-y.few t);
  first = λ t. at 8 (λ r. r.first) refl t;
  second = λ t. at 9 (λ r. r.second) refl t;
  third = λ t. at 10 (λ r. r.third) refl t;
  fourth = λ t. at 11 (λ r. r.fourth) refl t;
  fifth = λ t. at 12 (λ r. r.fifth) refl t;
  sixth = λ t. at 13 (λ r. r.sixth) refl t;
}
  where
    at : (k : ℕ) (part : Six Bool → Bool) → agree_on_two (λ m n. part (middle_of_twenty or and (ten_of m) (ten_of n))) (λ m n. nat_le k (m + n)) 11 11 ≡ true → (t : ℕ) → part (six_below (middle_of_twenty min max x y) t) ≡ nat_le k (count t)
    at k part e t =
        ap part (lt-middle_of_twenty x y t ∙ ap (λ (p : Ten Bool). middle_of_twenty or and p (ten_below y t)) (ten_tested f x of-x t) ∙ ap (λ (q : Ten Bool). middle_of_twenty or and (ten_of (f t)) q) (ten_tested g y of-y t))
        ∙ agree_at_two (λ m n. part (middle_of_twenty or and (ten_of m) (ten_of n))) (λ m n. nat_le k (m + n)) 11 11 (f t) (g t) e (omega (arith, of-x.few t)) (omega (arith, of-y.few t))
        ∙ ap (nat_le k) (sym (is t))

lt-last_of : (x : Six ℕ) (y : Five ℕ) (t : ℕ) → nat_lt (last_of min max x y) t ≡ last_of or and (six_below x t) (five_below y t)
lt-last_of x y t = simp (lt-min, lt-max) refl

-- number 13 of twenty and five
pub median_made : (x : Six ℕ) (y : Five ℕ) (f g count : ℕ → ℕ) → AreMiddle f x → AreFive g y → ((t : ℕ) → count t ≡ f t + g t) → IsNthLevel count 13 (last_of min max x y)
median_made x y f g count of-x of-y is t =
    lt-last_of x y t
    ∙ ap (λ (p : Six Bool). last_of or and p (five_below y t)) (six_tested f x of-x t)
    ∙ ap (λ (q : Five Bool). last_of or and (six_of (f t)) q) (five_tested g y of-y t)
    ∙ agree_at_two (λ m n. last_of or and (six_of m) (five_of n)) (λ m n. nat_le 13 (m + n)) 21 6 (f t) (g t) refl (omega (arith, of-x.few t)) (omega (arith, of-y.few t))
    ∙ ap (nat_le 13) (sym (is t))

abbrev one : Bool → ℕ
one b = cond b 1 0

two_few : (p q : Bool) → one p + one q ≤ 2
two_few true true = omega arith
two_few true false = omega arith
two_few false true = omega arith
two_few false false = omega arith

lower_of_two : (p q : Bool) → (p || q) ≡ nat_le 1 (one p + one q)
lower_of_two true true = refl
lower_of_two true false = refl
lower_of_two false true = refl
lower_of_two false false = refl

higher_of_two : (p q : Bool) → (p && q) ≡ nat_le 2 (one p + one q)
higher_of_two true true = refl
higher_of_two true false = refl
higher_of_two false true = refl
higher_of_two false false = refl

-- an exchange puts two levels in order
pub two_made : (x : Two ℕ) (a b : ℕ) → x.low ≡ min a b → x.high ≡ max a b → AreTwo (λ t. below a t + below b t) x
two_made x a b low high = record {
  few = λ t. two_few (nat_lt a t) (nat_lt b t);
  low = λ t. ap (λ (v : ℕ). nat_lt v t) low ∙ lt-min a b t ∙ lower_of_two (nat_lt a t) (nat_lt b t);
  high = λ t. ap (λ (v : ℕ). nat_lt v t) high ∙ lt-max a b t ∙ higher_of_two (nat_lt a t) (nat_lt b t);
}
