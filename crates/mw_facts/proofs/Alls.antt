-- What holds of each element of a list, by recursion on the list. `All` has its like in std.
use Rattle.std.proofs.Common.{◌≡◌, ℕ, zero, suc, ◌<◌, List, [], ◌∷◌, ◌++◌, length, get_or, take, drop, map, flat_map, refl, ap, ◌∙◌, arith, subst, ◌≤◌}
use Rattle.std.specs.List.{AllByRecursion, Contains}
use Rattle.std.proofs.lemmas.List.Elements.{All-from_recursion, All-contains}
use Rattle.std.proofs.lemmas.List.{take_all}

pub all-weaker : {A : Type 0} (P Q : A → Type 0) (xs : List A) → ((x : A) → P x → Q x) → AllByRecursion P xs → AllByRecursion Q xs
all-weaker P Q [] f all = tt
all-weaker P Q (x ∷ xs) f all = (f x all.0, all-weaker P Q xs f all.1)

pub all-both : {A : Type 0} (P Q R : A → Type 0) (xs : List A) → ((x : A) → P x → Q x → R x) → AllByRecursion P xs → AllByRecursion Q xs → AllByRecursion R xs
all-both P Q R [] f all also = tt
all-both P Q R (x ∷ xs) f all also = (f x all.0 also.0, all-both P Q R xs f all.1 also.1)

pub all-append : {A : Type 0} (P : A → Type 0) (xs ys : List A) → AllByRecursion P xs → AllByRecursion P ys → AllByRecursion P (xs ++ ys)
all-append P [] ys all more = more
all-append P (x ∷ xs) ys all more = (all.0, all-append P xs ys all.1 more)

pub all-push : {A : Type 0} (P : A → Type 0) (xs : List A) (x : A) → AllByRecursion P xs → P x → AllByRecursion P (xs ++ x ∷ [])
all-push P xs x all here = all-append P xs (x ∷ []) all (here, tt)

pub all-append_left : {A : Type 0} (P : A → Type 0) (xs ys : List A) → AllByRecursion P (xs ++ ys) → AllByRecursion P xs
all-append_left P [] ys all = tt
all-append_left P (x ∷ xs) ys all = (all.0, all-append_left P xs ys all.1)

pub all-append_right : {A : Type 0} (P : A → Type 0) (xs ys : List A) → AllByRecursion P (xs ++ ys) → AllByRecursion P ys
all-append_right P [] ys all = all
all-append_right P (x ∷ xs) ys all = all-append_right P xs ys all.1

pub all-take : {A : Type 0} (P : A → Type 0) (n : ℕ) (xs : List A) → AllByRecursion P xs → AllByRecursion P (take n xs)
all-take P zero xs all = tt
all-take P (suc n) [] all = tt
all-take P (suc n) (x ∷ xs) all = (all.0, all-take P n xs all.1)

pub all-take_whole : {A : Type 0} (P : A → Type 0) (xs : List A) (i : ℕ) → length xs ≤ i → AllByRecursion P (take i xs) → AllByRecursion P xs
all-take_whole P xs i past all = subst (AllByRecursion P) (take_all i xs past) all

pub all-drop : {A : Type 0} (P : A → Type 0) (n : ℕ) (xs : List A) → AllByRecursion P xs → AllByRecursion P (drop n xs)
all-drop P zero xs all = all
all-drop P (suc n) [] all = tt
all-drop P (suc n) (x ∷ xs) all = all-drop P n xs all.1

pub all-get_or : {A : Type 0} (P : A → Type 0) (xs : List A) (i : ℕ) (d : A) → i < length xs → AllByRecursion P xs → P (get_or xs i d)
all-get_or P [] i d lt all = absurd (omega arith)
all-get_or P (x ∷ xs) zero d lt all = all.0
all-get_or P (x ∷ xs) (suc i) d lt all = all-get_or P xs i d (omega arith) all.1

pub all-contains : {A : Type 0} (P : A → Type 0) (xs : List A) (x : A) → AllByRecursion P xs → Contains xs x → P x
all-contains P xs x all has = All-contains P xs x (All-from_recursion P xs all) has

pub all-each_contained : {A : Type 0} (P : A → Type 0) (xs : List A) → ((x : A) → Contains xs x → P x) → AllByRecursion P xs
all-each_contained P [] each = tt
all-each_contained P (x ∷ xs) each = (each x (0, omega arith, refl), all-each_contained P xs (λ y has. each y (suc has.0, (let lt = has.1 in omega arith), has.2)))

-- two functions that agree at each element
pub map-same : {A B : Type 0} (f g : A → B) (xs : List A) → AllByRecursion (λ x. f x ≡ g x) xs → map f xs ≡ map g xs
map-same f g [] same = refl
map-same f g (x ∷ xs) same = rw (same.0, map-same f g xs same.1) refl

pub flat_map-same : {A B : Type 0} (f g : B → List A) (xs : List B) → ((x : B) → f x ≡ g x) → flat_map f xs ≡ flat_map g xs
flat_map-same f g [] same = refl
flat_map-same f g (x ∷ xs) same = ap (λ (t : List _). t ++ flat_map f xs) (same x) ∙ ap (λ (t : List _). g x ++ t) (flat_map-same f g xs same)
