-- Elements of a list of which k places from place a on were written over.
use Rattle.std.proofs.Common.{◌≡◌, ℕ, ◌+◌, ◌-◌, ◌<◌, ◌≤◌, List, ◌++◌, length, take, drop, get_or, ap, arith, ◌∙◌, length-append, length-take, length-drop}
use Rattle.std.proofs.lemmas.List.{get_or_append_left, get_or-append_right, get_or-take, get_or-drop}
use borrow.Rule.Slice.PartMut.{put_mid, post_of}

pub length-put_mid : {A : Type 0} (a k : ℕ) (xs ys : List A) → length ys ≡ k → a + k ≤ length xs → length (put_mid a k xs ys) ≡ length xs
length-put_mid a k xs ys len le = omega (arith, length-append (take a xs) (ys ++ post_of a k xs), length-append ys (post_of a k xs), length-take a xs, length-drop k (drop a xs), length-drop a xs)

pub get_or-put_mid_below : {A : Type 0} (a k : ℕ) (xs ys : List A) (i : ℕ) (d : A) → a ≤ length xs → i < a → get_or (put_mid a k xs ys) i d ≡ get_or xs i d
get_or-put_mid_below a k xs ys i d le lt = get_or_append_left (take a xs) (ys ++ post_of a k xs) d i (omega (arith, length-take a xs)) ∙ get_or-take a xs i d lt

pub get_or-put_mid_within : {A : Type 0} (a k : ℕ) (xs ys : List A) (i : ℕ) (d : A) → a ≤ length xs → a ≤ i → i < a + length ys → get_or (put_mid a k xs ys) i d ≡ get_or ys (i - a) d
get_or-put_mid_within a k xs ys i d le from to =
    get_or-append_right (take a xs) (ys ++ post_of a k xs) a i d (omega (arith, length-take a xs)) from ∙ get_or_append_left ys (post_of a k xs) d (i - a) (omega arith)

pub get_or-put_mid_above : {A : Type 0} (a k : ℕ) (xs ys : List A) (i : ℕ) (d : A) → a ≤ length xs → length ys ≡ k → a + k ≤ i → get_or (put_mid a k xs ys) i d ≡ get_or xs i d
get_or-put_mid_above a k xs ys i d le len from =
    get_or-append_right (take a xs) (ys ++ post_of a k xs) a i d (omega (arith, length-take a xs)) (omega arith)
    ∙ get_or-append_right ys (post_of a k xs) k (i - a) d len (omega arith)
    ∙ get_or-drop k (drop a xs) (i - a - k) d
    ∙ get_or-drop a xs (k + (i - a - k)) d
    ∙ ap (λ (t : ℕ). get_or xs t d) (back a k i from)
  where
    back : (a k i : ℕ) → a + k ≤ i → a + (k + (i - a - k)) ≡ i
    back a k i le = omega arith
