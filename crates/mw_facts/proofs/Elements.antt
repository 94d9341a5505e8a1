-- Elements of joined and cut lists, and lists that have the same elements.
use Rattle.std.proofs.Common.{◌≡◌, ℕ, zero, suc, ◌+◌, ◌-◌, ◌<◌, ◌≤◌, List, [], ◌∷◌, ◌++◌, length, take, drop, get_or, slice_get, refl, ap, sym, ◌∙◌, arith, length-take, zero-add, take_at, replicate}
use Rattle.std.proofs.Math.Nat.{suc-add}
use Rattle.std.proofs.lemmas.List.{get_or_append_left, get_or_push}
use Rattle.std.proofs.lemmas.Option.{slice_get_past, same_Some}

pub slice_get-append_left : {A : Type 0} (xs ys : List A) (i : ℕ) → i < length xs → slice_get (xs ++ ys) i ≡ slice_get xs i
slice_get-append_left [] ys i lt = absurd (omega arith)
slice_get-append_left (x ∷ xs) ys zero lt = refl
slice_get-append_left (x ∷ xs) ys (suc i) lt = slice_get-append_left xs ys i (omega arith)

pub slice_get-append-add : {A : Type 0} (xs ys : List A) (n i : ℕ) → length xs ≡ n → slice_get (xs ++ ys) (n + i) ≡ slice_get ys i
slice_get-append-add [] ys zero i e = ap (slice_get ys) (zero-add i)
slice_get-append-add [] ys (suc n) i e = absurd (omega arith)
slice_get-append-add (x ∷ xs) ys zero i e = absurd (omega arith)
slice_get-append-add (x ∷ xs) ys (suc n) i e = ap (slice_get (x ∷ (xs ++ ys))) (suc-add n i) ∙ slice_get-append-add xs ys n i (omega arith)

slice_get-append_right : {A : Type 0} (xs ys : List A) (i : ℕ) → length xs ≤ i → slice_get (xs ++ ys) i ≡ slice_get ys (i - length xs)
slice_get-append_right xs ys i le = ap (slice_get (xs ++ ys)) (behind (length xs) i le) ∙ slice_get-append-add xs ys (length xs) (i - length xs) refl
  where
    behind : (n i : ℕ) → n ≤ i → i ≡ n + (i - n)
    behind n i le = omega arith

pub slice_get-drop : {A : Type 0} (a : ℕ) (xs : List A) (i : ℕ) → slice_get (drop a xs) i ≡ slice_get xs (a + i)
slice_get-drop zero xs i = ap (slice_get xs) (sym (zero-add i))
slice_get-drop (suc a) [] i = slice_get_past [] i (omega arith) ∙ sym (slice_get_past [] (suc a + i) (omega arith))
slice_get-drop (suc a) (x ∷ xs) i = slice_get-drop a xs i ∙ ap (slice_get (x ∷ xs)) (sym (suc-add a i))

pub slice_get-take : {A : Type 0} (m : ℕ) (xs : List A) (i : ℕ) → i < m → slice_get (take m xs) i ≡ slice_get xs i
slice_get-take zero xs i lt = absurd (omega arith)
slice_get-take (suc m) [] i lt = refl
slice_get-take (suc m) (x ∷ xs) zero lt = refl
slice_get-take (suc m) (x ∷ xs) (suc i) lt = slice_get-take m xs i (omega arith)

-- a list with a row written over it from place a on
pub slice_get-put_below : {A : Type 0} (a : ℕ) (row xs rest : List A) (i : ℕ) → a ≤ length xs → i < a → slice_get (take a xs ++ (row ++ rest)) i ≡ slice_get xs i
slice_get-put_below a row xs rest i le lt = slice_get-append_left (take a xs) (row ++ rest) i (omega (arith, length-take a xs)) ∙ slice_get-take a xs i lt

pub slice_get-put_within : {A : Type 0} (a : ℕ) (row xs rest : List A) (i : ℕ) → a ≤ length xs → i < length row → slice_get (take a xs ++ (row ++ rest)) (a + i) ≡ slice_get row i
slice_get-put_within a row xs rest i le lt = slice_get-append-add (take a xs) (row ++ rest) a i (omega (arith, length-take a xs)) ∙ slice_get-append_left row rest i lt

pub slice_get-put_above : {A : Type 0} (a k : ℕ) (row xs : List A) (i : ℕ) → a ≤ length xs → length row ≡ k → a + k ≤ i → slice_get (take a xs ++ (row ++ drop k (drop a xs))) i ≡ slice_get xs i
slice_get-put_above a k row xs i le len from =
    slice_get-append_right (take a xs) (row ++ drop k (drop a xs)) i (omega (arith, length-take a xs))
    ∙ slice_get-append_right row (drop k (drop a xs)) (i - length (take a xs)) (omega (arith, length-take a xs))
    ∙ slice_get-drop k (drop a xs) (i - length (take a xs) - length row)
    ∙ slice_get-drop a xs (k + (i - length (take a xs) - length row))
    ∙ ap (slice_get xs) (back (length (take a xs)) a k (length row) i (omega (arith, length-take a xs)) len from)
  where
    back : (t a k r i : ℕ) → t ≡ a → r ≡ k → a + k ≤ i → a + (k + (i - t - r)) ≡ i
    back t a k r i p q le = omega arith

pub same_elements : {A : Type 0} (xs ys : List A) → length xs ≡ length ys → ((k : ℕ) → k < length xs → slice_get xs k ≡ slice_get ys k) → xs ≡ ys
same_elements [] [] len same = refl
same_elements [] (y ∷ ys) len same = absurd (omega arith)
same_elements (x ∷ xs) [] len same = absurd (omega arith)
same_elements (x ∷ xs) (y ∷ ys) len same =
    ap (λ (t : _). t ∷ xs) (same_Some x y (same zero (omega arith)))
    ∙ ap (λ (t : List _). y ∷ t) (same_elements xs ys (omega arith) (λ k lt. same (suc k) (omega arith)))

-- a list with one element more
pub get_or-push_below : {A : Type 0} (xs : List A) (x d : A) (i : ℕ) → i < length xs → get_or (xs ++ x ∷ []) i d ≡ get_or xs i d
get_or-push_below xs x d i lt = get_or_append_left xs (x ∷ []) d i lt

pub get_or-push_last : {A : Type 0} (xs : List A) (x d : A) (i : ℕ) → i ≡ length xs → get_or (xs ++ x ∷ []) i d ≡ x
get_or-push_last xs x d i e = get_or_push xs x d i (sym e)

-- what is written over the front of a list is read back
pub take-written : {A : Type 0} (xs ys : List A) (n : ℕ) → length ys ≡ n → take n (ys ++ drop (length ys) xs) ≡ ys
take-written xs ys n len = take_at ys (drop (length ys) xs) n len

pub append-empty : {A : Type 0} (xs ys : List A) → xs ++ ys ≡ [] → (xs ≡ []) × (ys ≡ [])
append-empty [] ys e = (refl, e)
append-empty (x ∷ xs) ys e = absurd cc

pub get_or-replicate_same : {A : Type 0} (m i : ℕ) (n : A) → get_or (replicate m n) i n ≡ n
get_or-replicate_same zero i n = refl
get_or-replicate_same (suc m) zero n = refl
get_or-replicate_same (suc m) (suc i) n = get_or-replicate_same m i n
