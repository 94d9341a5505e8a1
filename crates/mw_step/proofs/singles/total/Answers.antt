use Rattle.std.proofs.Common.{◌≡◌, ◌+◌, ◌-◌, ◌≤◌, ℕ, List, take, drop, length, get_or, ap, sym, arith, ◌∙◌}
use Rattle.std.specs.Prelude.{sum_by}
use Rattle.std.proofs.Math.Seq.{take-add}
use Rattle.std.proofs.lemmas.List.{take_all}
use Rattle.std.proofs.lemmas.List.Sums.{sum_by-append, sum_by_more}
use Rattle.mw_step.proofs.singles.total.Goals as goal

block_more : {A : Type 0} (f : A → ℕ) (xs : List A) (at m : ℕ) → m ≡ 64 → sum_by f (take (at + 64) xs) ≡ sum_by f (take at xs) + sum_by f (take m (drop at xs))
block_more f xs at m m-is =
    ap (sum_by f) (take-add at 64 xs) ∙ sum_by-append f (take at xs) (take 64 (drop at xs)) ∙ ap (λ (n : ℕ). sum_by f (take at xs) + sum_by f (take n (drop at xs))) (sym m-is)

one_more : {A : Type 0} (f : A → ℕ) (xs : List A) (at level : ℕ) (x : A) (lt : at + 1 ≤ length xs) → x ≡ get_or xs at x → level ≡ f x → sum_by f (take (at + 1) xs) ≡ sum_by f (take at xs) + level
one_more f xs at level x lt x-is level-is = sum_by_more f xs at x (omega arith) ∙ ap (λ (n : ℕ). sum_by f (take at xs) + n) (ap f (sym x-is) ∙ sym level-is)

pub by_block-preserved : goal.by_block-preserved
by_block-preserved g c =
    let at = c.by_block.at in
    let more = block_more g.P.Pixel.level c.args.samples.now at (at + 64 - at) (omega arith) in
    let block = c.sum-total.ensures.sum in
    let known = c.by_block.invariant in
    record { is = omega (arith, more, block, known.is); small = omega (arith, known.small, c.sum-total.ensures.small); within = omega arith }

pub by_one-preserved : goal.by_one-preserved
by_one-preserved g c =
    let at = c.by_one.at in
    let known = c.by_one.invariant in
    let more = one_more g.P.Pixel.level c.args.samples.now at c.value.result c.index-samples-at.result (omega arith) c.index-samples-at.is c.value.ensures.level in
    record { is = omega (arith, more, known.is); small = omega (arith, known.small); within = omega arith }

pub returns : goal.returns
returns g c =
    let known = c.by_one.invariant in
    known.is ∙ ap (sum_by g.P.Pixel.level) (take_all c.by_one.at c.args.samples.now (omega arith))
