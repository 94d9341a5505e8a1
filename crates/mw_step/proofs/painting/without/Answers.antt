use Rattle.std.proofs.Common.{ℕ, ◌-◌, ap, refl, ◌∙◌, sym}
use Rattle.std.specs.Prelude.{◌==◌, ◌&&◌, if◌then◌else◌}
use Rattle.mw_model.specs.Windows.{View}
use Rattle.mw_step.proofs.Levels.{each_pair}
use Rattle.mw_step.proofs.painting.without.Goals as goal

pub returns-clause-places : goal.returns-clause-places
returns-clause-places c =
    let a = c.args.a.now in
    let b = c.args.b.now in
    ap (λ (w : View ℕ). w.cells) c.new.ensures
    ∙ c.in_ok-rest.ensures.cells
    ∙ each_pair (λ (m n : ℕ). m - n) (λ (m n : ℕ). if m == 1 && n == 0 then 1 else 0) a.cells b.cells c.is_sound.ensures.small c.is_sound-2.ensures.small (c.minus.ensures.first ∙ sym c.minus.ensures.second) refl refl refl refl
