-- Rows that are made where they are to stand: rows in three parts.
use Rattle.std.proofs.Common.{◌≡◌, ℕ, ◌+◌, ◌*◌, ◌≤◌, List, [], ◌∷◌, ◌++◌, map, length, take, drop, refl, ap, sym, arith, ◌∙◌, length-append}
use Rattle.std.proofs.lemmas.List.{drop-drop, map-append}
use Rattle.std.proofs.Math.Seq.{take-add}
use Rattle.mw_model.specs.Pictures.{Picture}
use Rattle.mw_c_strips.specs.Rows.{rows_from}

-- ---- rows in parts

-- so many samples and so many behind them
rows_on : (f : Picture) (first next m n : ℕ) → next * f.width ≡ first * f.width + m → rows_from first (m + n) f ≡ rows_from first m f ++ rows_from next n f
rows_on f first next m n is =
    take-add m n (drop (first * f.width) f.samples)
    ∙ ap (λ (xs : List ℕ). rows_from first m f ++ take n xs) (drop-drop m (first * f.width) f.samples ∙ ap (λ (t : ℕ). drop t f.samples) (sym is))

-- rows and those behind them, written into the two parts of an array
pub rows_beside : {A : Type 0} (level : A → ℕ) (f : Picture) (first next : ℕ) (front back : List A) → next * f.width ≡ first * f.width + length front
    → map level front ≡ rows_from first (length front) f → map level back ≡ rows_from next (length back) f → map level (front ++ back) ≡ rows_from first (length (front ++ back)) f
rows_beside level f first next front back is one two =
    map-append level front back
    ∙ ap (λ (xs : List ℕ). xs ++ map level back) one
    ∙ ap (λ (xs : List ℕ). rows_from first (length front) f ++ xs) two
    ∙ sym (rows_on f first next (length front) (length back) is)
    ∙ ap (λ (n : ℕ). rows_from first n f) (sym (length-append front back))

-- no row is made of none
pub none_made : {A : Type 0} (level : A → ℕ) (f : Picture) (first : ℕ) (cells : List A) → length cells ≡ 0 → map level cells ≡ rows_from first (length cells) f
none_made level f first [] none = refl
none_made level f first (x ∷ xs) none = absurd (omega (arith, none))

-- ---- rows before the middle, in it and behind it

-- no sample stands between a row and itself
pub nothing_between : (a b m n : ℕ) → a ≤ b → b ≤ a → b * m ≡ a * m + n → n ≡ 0
nothing_between a b m n le back is =
    let same : b * m ≡ a * m = ap (λ (t : ℕ). t * m) (omega (arith, le, back)) in
    omega (arith, same, is)

-- rows in three parts of an array
pub rows_in_three : {A : Type 0} (level : A → ℕ) (f : Picture) (first from to count : ℕ) (head made tail : List A) → from * f.width ≡ first * f.width + length head → to * f.width ≡ from * f.width + length made
    → count ≡ length head + (length made + length tail) → map level head ≡ rows_from first (length head) f → map level made ≡ rows_from from (length made) f → map level tail ≡ rows_from to (length tail) f
    → map level (head ++ (made ++ tail)) ≡ rows_from first count f
rows_in_three level f first from to count head made tail above middle all one two three =
    rows_beside level f first from head (made ++ tail) above one (rows_beside level f from to made tail middle two three)
    ∙ ap (λ (n : ℕ). rows_from first n f) (omega (arith, all, length-append head (made ++ tail), length-append made tail))
