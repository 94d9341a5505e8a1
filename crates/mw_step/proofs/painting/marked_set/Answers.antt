use Rattle.std.proofs.Common.{◌≡◌, ℕ, ◌-◌, max, ap, arith, refl, ◌∙◌, sym}
use Rattle.std.specs.Prelude.{◌==◌, if◌then◌else◌}
use lib.Lanes.{zip2}
use Rattle.mw_step.proofs.Levels.{each_pair}
use Rattle.mw_step.proofs.painting.marked_set.Goals as goal

pub returns-then-v-eq1-clause-cells : goal.returns-then-v-eq1-clause-cells
returns-then-v-eq1-clause-cells c =
    let a = c.args.a.now in
    let set = c.args.set.now in
    c.in_ok-join.ensures.cells
    ∙ each_pair max (λ (s m : ℕ). if m == 1 then 1 else s) a.cells set.cells c.is_sound.ensures.small c.is_sound-2.ensures.small (c.join.ensures.first ∙ sym c.join.ensures.second) refl refl refl refl
    ∙ ap (λ (v : ℕ). zip2 (λ (s m : ℕ). if m == 1 then v else s) a.cells set.cells) (sym c.if-v-eq1.true)

pub returns-clause-cells : goal.returns-clause-cells
returns-clause-cells c =
    let a = c.args.a.now in
    let set = c.args.set.now in
    let v-is : c.args.v ≡ 0 = omega (arith, c.requires.level, c.if-v-eq1.false) in
    c.in_ok-minus.ensures.cells
    ∙ each_pair (λ (m n : ℕ). m - n) (λ (s m : ℕ). if m == 1 then 0 else s) a.cells set.cells c.is_sound.ensures.small c.is_sound-2.ensures.small (c.minus.ensures.first ∙ sym c.minus.ensures.second) refl refl refl refl
    ∙ ap (λ (v : ℕ). zip2 (λ (s m : ℕ). if m == 1 then v else s) a.cells set.cells) (sym v-is)
