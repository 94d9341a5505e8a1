-- Names, numbers and fixed words: what is read is spelled so, and what is spelled so is read.
use Rattle.std.proofs.Common.{◌≡◌, ℕ, zero, suc, ◌+◌, ◌-◌, ◌*◌, ◌<◌, ◌≤◌, Bool, true, false, cond, List, [], ◌∷◌, length, get_or, refl, sym, ap, ◌∙◌, arith, rules, Option, None, Some, inl, inr, ◌⊎◌, decimal, fold, ◌==◌, ◌&&◌, nat_le}
use Rattle.std.specs.List.{list_all}
use Rattle.std.specs.Str.{bytes_eq}
use Rattle.std.proofs.lemmas.Bool.{and_parts, and_from, le-leb, leb-true, ne_eqb, eq-eqb, eqb-true, cond-true}
use Rattle.std.proofs.lemmas.Slice.Eq.{bytes_eq-Decides}
use Rattle.std.proofs.lemmas.Str.Parse.{IsNumeralModel, numerals_by_fold, digits_value_short}
use Rattle.std.proofs.lemmas.Fmt.{decimal-digits_value, digits_decimal, digits_value-decimal, length-decimal-le, decimal_nonempty, first_decimal, decimal_digit}
use Rattle.mw_model.specs.declared.names.Name.{Name}
use Rattle.mw_model.specs.Names.{is_name, name_of, spelling}
use Rattle.mw_model.proofs.Spellings.{spelling_of}
use Rattle.mw_model.specs.Lines.{IsName}
use Rattle.mw_session_intake.specs.Reading.{is_digit, is_number, digits_number, number_word, name_word, name_in, first_number, rest, at_end, ◌>>=◌}

pub own : IsNumeralModel (λ ds. list_all is_digit ds ≡ true) digits_number
own = numerals_by_fold (λ ds. list_all is_digit ds ≡ true) (search rules) (λ n ds. fold (λ k b. 10 * k + (b - 48)) n ds) (search rules)

-- the two ways on of a test
pub if_some : {A : Type 0} (b : Bool) (x y : Option A) (z : A) → cond b x y ≡ Some z → ((b ≡ true) × (x ≡ Some z)) ⊎ (y ≡ Some z)
if_some true x y z e = inl (refl, e)
if_some false x y z e = inr e

-- the two parts of a reading
pub bind_some : {A B : Type 0} (o : Option A) (f : A → Option B) (y : B) → (o >>= f) ≡ Some y → (x : A) × (o ≡ Some x) × (f x ≡ Some y)
bind_some None f y e = cc
bind_some (Some x) f y e = (x, refl, e)

pub text_is : (word text : List ℕ) → bytes_eq word text ≡ true → word ≡ text
text_is word text h = (bytes_eq-Decides word text).0 h

pub end_some : {A : Type 0} (ws : List (List ℕ)) (x y : A) → at_end ws x ≡ Some y → (ws ≡ []) × (x ≡ y)
end_some [] x y e = (refl, cc)
end_some (w ∷ ws) x y e = cc

only_name : (b : Bool) (word : List ℕ) (name : Name) → is_name word ≡ b → cond b (Some (name_of word)) None ≡ Some name → (spelling name ≡ word) × IsName name
only_name true word name h e =
    let same : name_of word ≡ name = cc in
    (rw (← same) (spelling_of word h), (word, h, sym same))
only_name false word name h e = cc

-- what is read as a name spells it
pub name_read : (word : List ℕ) (name : Name) → name_word word ≡ Some name → (word ≡ spelling name) × IsName name
name_read word name e = let p = only_name (is_name word) word name refl e in (sym p.0, p.1)

-- the spelling of a name is read as the name
pub name_spelled : (name : Name) → IsName name → name_word (spelling name) ≡ Some name
name_spelled name h =
    let t : spelling name ≡ h.0 = ap (λ n. spelling n) h.2 ∙ spelling_of h.0 h.1 in
    rw (t, h.1) (ap Some (sym h.2))

lone_zero : (b : Bool) (ds : List ℕ) → (get_or ds 0 0 ≡ 48 → b ≡ true) → cond b (length ds == 1) true ≡ true → get_or ds 0 0 ≡ 48 → length ds ≡ 1
lone_zero true ds f h e = eqb-true (length ds) 1 h
lone_zero false ds f h e = let bad = f e in cc

only_number : (b : Bool) (word : List ℕ) (n : ℕ) → is_number word ≡ b → cond b (Some (digits_number word)) None ≡ Some n → (decimal n ≡ word) × (n < 1000000000)
only_number true word n h e =
    let p = and_parts (nat_le 1 (length word) && nat_le (length word) 9 && list_all is_digit word) (cond (get_or word 0 0 == 48) (length word == 1) true) h in
    let q = and_parts (nat_le 1 (length word) && nat_le (length word) 9) (list_all is_digit word) p.0 in
    let r = and_parts (nat_le 1 (length word)) (nat_le (length word) 9) q.0 in
    let some : 1 ≤ length word = leb-true 1 (length word) r.0 in
    let short : length word ≤ 9 = leb-true (length word) 9 r.1 in
    let small = digits_value_short own word 9 q.1 short in
    let zero_alone = lone_zero (get_or word 0 0 == 48) word (eq-eqb (get_or word 0 0) 48) p.1 in
    let same : digits_number word ≡ n = cc in
    (rw (← same) (decimal-digits_value own word q.1 (omega arith) zero_alone (omega (arith, small))), rw (← same) (omega (arith, small)))
only_number false word n h e = cc

-- what is read as a number is its decimal text
pub number_read : (word : List ℕ) (n : ℕ) → number_word word ≡ Some n → (word ≡ decimal n) × (n < 1000000000)
number_read word n e = let p = only_number (is_number word) word n refl e in (sym p.0, p.1)

first_digit : (n : ℕ) → n < 1000000000 → cond (get_or (decimal n) 0 0 == 48) (length (decimal n) == 1) true ≡ true
first_digit zero h = rw (decimal_digit 0 (omega arith)) refl
first_digit (suc n) h =
    let first = first_decimal (suc n) (omega arith) (omega arith) in
    rw (ne_eqb (get_or (decimal (suc n)) 0 0) 48 (λ e. omega (arith, e, first))) refl

-- the decimal text of a number of at most nine digits is read as the number
pub number_spelled : (n : ℕ) → n < 1000000000 → number_word (decimal n) ≡ Some n
number_spelled n h =
    let short = length-decimal-le 9 n (omega arith) (omega arith) (omega arith) in
    let some : 1 ≤ length (decimal n) = omega (arith, decimal_nonempty n (omega arith)) in
    let lengths = and_from (nat_le 1 (length (decimal n))) (nat_le (length (decimal n)) 9) (le-leb 1 (length (decimal n)) some) (le-leb (length (decimal n)) 9 short) in
    let digits = and_from (nat_le 1 (length (decimal n)) && nat_le (length (decimal n)) 9) (list_all is_digit (decimal n)) lengths (digits_decimal own n (omega arith)) in
    let all = and_from (nat_le 1 (length (decimal n)) && nat_le (length (decimal n)) 9 && list_all is_digit (decimal n)) (cond (get_or (decimal n) 0 0 == 48) (length (decimal n) == 1) true) digits (first_digit n h) in
    cond-true (is_number (decimal n)) (Some (digits_number (decimal n))) None all ∙ ap Some (digits_value-decimal own n (omega arith))

-- a reading that begins with a name
pub name_first : {B : Type 0} (ws : List (List ℕ)) (f : Name → Option B) (y : B) → (name_in ws >>= f) ≡ Some y →
    (name : Name) × (ws ≡ spelling name ∷ rest ws) × IsName name × (f name ≡ Some y)
name_first [] f y e = cc
name_first (w ∷ ws) f y e =
    let b = bind_some (name_word w) f y e in
    let r = name_read w b.0 b.1 in
    (b.0, ap (λ v. v ∷ ws) r.0, r.1, b.2)

-- a reading that begins with a number
pub number_first : {B : Type 0} (ws : List (List ℕ)) (f : ℕ → Option B) (y : B) → (first_number ws >>= f) ≡ Some y →
    (n : ℕ) × (ws ≡ decimal n ∷ rest ws) × (n < 1000000000) × (f n ≡ Some y)
number_first [] f y e = cc
number_first (w ∷ ws) f y e =
    let b = bind_some (number_word w) f y e in
    let r = number_read w b.0 b.1 in
    (b.0, ap (λ v. v ∷ ws) r.0, r.1, b.2)
