-- Beginnings of one list.
use Rattle.std.proofs.Common.{◌≡◌, ℕ, ◌≤◌, IsTrue, nat_le, List, [], ◌∷◌, ◌++◌, length, refl, ap, sym, ◌∙◌, arith, append_assoc}
use Rattle.std.proofs.lemmas.Bool.Decides.{nat_tests}
use mathlib.Core.List.{IsPrefix}
use Rattle.mw_pool_passes.specs.mw_step_task.WindowTasks.{WindowTask}
use Rattle.mw_pool.specs.Rolls.{EndsWith, StandsIn}

pub le-true : (a b : ℕ) → IsTrue (nat_le a b) → a ≤ b
le-true a b h = grind (arith, nat_tests, h)

-- of two beginnings of one list the shorter begins the longer
pub prefix-shorter : {A : Type 0} (xs ys zs : List A) → IsPrefix xs zs → IsPrefix ys zs → length xs ≤ length ys → IsPrefix xs ys
prefix-shorter [] ys zs p q le = (ys, refl)
prefix-shorter (x ∷ xs) [] zs p q le = absurd (omega arith)
prefix-shorter (x ∷ xs) (y ∷ ys) [] p q le = absurd (cc (p.1))
prefix-shorter (x ∷ xs) (y ∷ ys) (z ∷ zs) p q le =
    let heads : x ≡ y = cc (p.1, q.1) in
    let rest = prefix-shorter xs ys zs (p.0, cc (p.1)) (q.0, cc (q.1)) (omega arith) in
    (rest.0, cc (heads, rest.1))

-- a beginning as long as the whole is the whole
pub prefix-whole : {A : Type 0} (xs ys : List A) → IsPrefix xs ys → length ys ≤ length xs → xs ≡ ys
prefix-whole [] [] p le = refl
prefix-whole [] (y ∷ ys) p le = absurd (omega arith)
prefix-whole (x ∷ xs) [] p le = absurd (cc (p.1))
prefix-whole (x ∷ xs) (y ∷ ys) p le =
    let rest = prefix-whole xs ys (p.0, cc (p.1)) (omega arith) in cc (p.1, rest)

-- what ends a beginning stands in the whole
pub ends_stands : (seen roll : List WindowTask) (w : WindowTask) → EndsWith seen w → IsPrefix seen roll → StandsIn roll w
ends_stands seen roll w ends begins =
    (ends.0, begins.0, sym begins.1 ∙ ap (λ l. l ++ begins.0) ends.1 ∙ append_assoc ends.0 (w ∷ []) begins.0)
