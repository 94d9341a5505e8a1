-- Networks of exchanges, by what is the lower and what the higher of two. With `min` and `max` they put levels in order; with
-- "or" and "and" they say which of the results are below a limit, by which of the levels are.
use Rattle.mw_rank_medians.specs.declared.nine.Three.{Three}
use Rattle.mw_rank_medians.specs.declared.five.Two.{Two}
use Rattle.mw_rank_medians.specs.declared.five.Four.{Four}
use Rattle.mw_rank_medians.specs.declared.five.Five.{Five}
use Rattle.mw_rank_medians.specs.declared.five.Six.{Six}
use Rattle.mw_rank_medians.specs.declared.five.Ten.{Ten}

-- those of odd numbers, and those of even ones
abbrev pub odd_in : {A : Type 0} → Five A → Three A
odd_in x = record { low = x.first; middle = x.third; high = x.fifth }

abbrev pub even_in : {A : Type 0} → Five A → Two A
even_in x = record { low = x.second; high = x.fourth }

abbrev pub ends_in : {A : Type 0} → Three A → Two A
ends_in x = record { low = x.low; high = x.high }

-- two in order and two in order, merged
abbrev pub two_with_two : {A : Type 0} → (A → A → A) → (A → A → A) → Two A → Two A → Four A
two_with_two lo hi x y = record {
  first = lo x.low y.low;
  second = lo (hi x.low y.low) (lo x.high y.high);
  third = hi (hi x.low y.low) (lo x.high y.high);
  fourth = hi x.high y.high;
}

abbrev pub two_with_three : {A : Type 0} → (A → A → A) → (A → A → A) → Two A → Three A → Five A
two_with_three lo hi x y = record {
  first = lo x.low y.low;
  second = lo (lo x.high y.middle) (lo (hi x.low y.low) y.high);
  third = hi (lo x.high y.middle) (lo (hi x.low y.low) y.high);
  fourth = lo (hi x.high y.middle) (hi (hi x.low y.low) y.high);
  fifth = hi (hi x.high y.middle) (hi (hi x.low y.low) y.high);
}

abbrev pub three_with_three : {A : Type 0} → (A → A → A) → (A → A → A) → Three A → Three A → Six A
three_with_three lo hi x y =
    let odd = two_with_two lo hi (ends_in x) (ends_in y) in
    record {
      first = odd.first;
      second = lo (lo x.middle y.middle) odd.second;
      third = hi (lo x.middle y.middle) odd.second;
      fourth = lo (hi x.middle y.middle) odd.third;
      fifth = hi (hi x.middle y.middle) odd.third;
      sixth = odd.fourth;
    }

-- ten of which the odd numbers and the even ones were merged apart
abbrev pub ten_of : {A : Type 0} → (A → A → A) → (A → A → A) → Six A → Four A → Ten A
ten_of lo hi odd even = record {
  odd = record { first = odd.first; second = hi even.first odd.second; third = hi even.second odd.third; fourth = hi even.third odd.fourth; fifth = hi even.fourth odd.fifth };
  even = record { first = lo even.first odd.second; second = lo even.second odd.third; third = lo even.third odd.fourth; fourth = lo even.fourth odd.fifth; fifth = odd.sixth };
}

abbrev pub five_with_five : {A : Type 0} → (A → A → A) → (A → A → A) → Five A → Five A → Ten A
five_with_five lo hi x y = ten_of lo hi (three_with_three lo hi (odd_in x) (odd_in y)) (two_with_two lo hi (even_in x) (even_in y))

-- numbers 2 and 3 of two and two
abbrev pub middle_of_four : {A : Type 0} → (A → A → A) → (A → A → A) → Two A → Two A → Two A
middle_of_four lo hi x y = record { low = lo (hi x.low y.low) (lo x.high y.high); high = hi (hi x.low y.low) (lo x.high y.high) }

-- numbers 3 and 4 of three and three
abbrev pub middle_of_six : {A : Type 0} → (A → A → A) → (A → A → A) → Three A → Three A → Two A
middle_of_six lo hi x y =
    let odd = middle_of_four lo hi (ends_in x) (ends_in y) in
    record { low = hi (lo x.middle y.middle) odd.low; high = lo (hi x.middle y.middle) odd.high }

-- numbers 4, 5 and 6 of five and five
abbrev pub low_of_ten : {A : Type 0} → (A → A → A) → (A → A → A) → Five A → Five A → Three A
low_of_ten lo hi x y =
    let odd = middle_of_six lo hi (odd_in x) (odd_in y) in
    let even = middle_of_four lo hi (even_in x) (even_in y) in
    record { low = lo even.low odd.low; middle = hi even.low odd.low; high = lo even.high odd.high }

-- numbers 5, 6 and 7 of five and five
abbrev pub high_of_ten : {A : Type 0} → (A → A → A) → (A → A → A) → Five A → Five A → Three A
high_of_ten lo hi x y =
    let odd = middle_of_six lo hi (odd_in x) (odd_in y) in
    let even = middle_of_four lo hi (even_in x) (even_in y) in
    record { low = hi even.low odd.low; middle = lo even.high odd.high; high = hi even.high odd.high }

-- numbers 8 to 13 of ten and ten, of which the odd numbers and the even ones were merged apart
abbrev pub six_of : {A : Type 0} → (A → A → A) → (A → A → A) → Three A → Three A → Six A
six_of lo hi odd even = record {
  first = lo even.low odd.low;
  second = hi even.low odd.low;
  third = lo even.middle odd.middle;
  fourth = hi even.middle odd.middle;
  fifth = lo even.high odd.high;
  sixth = hi even.high odd.high;
}

abbrev pub middle_of_twenty : {A : Type 0} → (A → A → A) → (A → A → A) → Ten A → Ten A → Six A
middle_of_twenty lo hi x y = six_of lo hi (high_of_ten lo hi x.odd y.odd) (low_of_ten lo hi x.even y.even)

-- number 13 of 25, by numbers 8 to 13 of twenty and the other five
abbrev pub last_of : {A : Type 0} → (A → A → A) → (A → A → A) → Six A → Five A → A
last_of lo hi x y = lo (lo (lo (hi x.first y.fifth) (hi x.second y.fourth)) (lo (hi x.third y.third) (hi x.fourth y.second))) (lo (hi x.fifth y.first) x.sixth)
