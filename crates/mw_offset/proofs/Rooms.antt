-- Rows and runs that fit into lists.
use Rattle.std.proofs.Common.{◌≡◌, ℕ, zero, suc, ◌+◌, ◌-◌, ◌*◌, ◌<◌, ◌≤◌, List, length, take, drop, get_or, ap, arith, ◌∙◌, length-take, length-drop}
use Rattle.std.proofs.Math.Nat.{mul-le-mul_left}
use Rattle.std.proofs.lemmas.List.{get_or-take, get_or-drop}
use Rattle.std.proofs.lemmas.Simd.{get_or-zip2, length-zip2}
use Rattle.mw_line.proofs.Folds.{IsExtremum}
use lib.Lanes.{zip2}

pub row_fits : (y high wide width n : ℕ) → y < high → (high - 1) * wide + width ≤ n → y * wide + width ≤ n
row_fits y high wide width n lt room = let le : y ≤ high - 1 = omega arith in omega (arith, mul-le-mul_left wide le, room)

-- a part of a list, merged into another
pub part_merged : {A : Type 0} (f : A → A → A) (out cells made : List A) (start m q : ℕ) (d : A) → start + length out ≤ length cells → m ≡ length out → made ≡ zip2 f out (take m (drop start cells)) → q < length out
    → get_or made q d ≡ f (get_or out q d) (get_or cells (start + q) d)
part_merged f out cells made start m q d room m-is made-is lt =
    let part = take m (drop start cells) in
    let len : length part ≡ length out = omega (arith, length-take m (drop start cells), length-drop start cells) in
    ap (λ (t : List _). get_or t q d) made-is
    ∙ get_or-zip2 f out part q d d d lt (omega arith)
    ∙ ap (f (get_or out q d)) (get_or-take m (drop start cells) q d (omega arith) ∙ get_or-drop start cells q d)

pub part_size : {A : Type 0} (f : A → A → A) (out cells made : List A) (start m : ℕ) → start + length out ≤ length cells → m ≡ length out → made ≡ zip2 f out (take m (drop start cells)) → length made ≡ length out
part_size f out cells made start m room m-is made-is =
    let part = take m (drop start cells) in
    ap length made-is ∙ length-zip2 f out part (omega (arith, length-take m (drop start cells), length-drop start cells))

-- one part merged twice
pub merged_again : {A : Type 0} (f : A → A → A) → IsExtremum f → (a b : A) → f (f a b) b ≡ f a b
merged_again f laws a b = laws.associates a b b ∙ ap (f a) (laws.is_idempotent b)

pub one_less : (k w : ℕ) → 0 < k → (k - 1) * w + w ≡ k * w
one_less zero w positive = absurd (omega arith)
one_less (suc k) w positive = let e : suc k - 1 ≡ k = omega arith in rw e (omega arith)
