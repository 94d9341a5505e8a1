use Rattle.std.proofs.Common.{ℕ, map, ap, ◌∙◌}
use Rattle.std.specs.Prelude.{nat_le, if◌then◌else◌}
use Rattle.mw_model.specs.Windows.{View}
use Rattle.mw_step.proofs.SetRanks.{set_ranks}
use Rattle.mw_step.proofs.ranks.rank_by_levels.Goals as goal

pub returns : goal.returns
returns c =
    let made = c.in_ok-at_least in
    let levels-is = c.new-levels.ensures in
    set_ranks c.args.k c.in_ok-window.window c.args.set.now c.args.offsets.now c.args.tile c.in_ok-ranks.ranks made.field-0 c.in_ok-window.ensures c.is_sound.ensures.small c.in_ok-ranks.ensures.over_window
    (made.ensures.width ∙ ap (λ (w : View ℕ). w.place.width) levels-is) (made.ensures.height ∙ ap (λ (w : View ℕ). w.place.height) levels-is)
    (made.ensures.cells ∙ ap (λ (w : View ℕ). map (λ (s : ℕ). if nat_le 1 s then 1 else 0) w.cells) levels-is)
