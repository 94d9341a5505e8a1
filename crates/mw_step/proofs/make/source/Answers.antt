use Rattle.std.proofs.Common.{◌≡◌, arith, ap, get_or, List, sym, subst, ◌∙◌}
use Rattle.mw_model.proofs.mw_facts.Alls.{all-get_or}
use Rattle.mw_step_task.specs.mw_tile.Windows.{SourceWindow}
use Rattle.mw_step_task.specs.WindowTasks.{IsRead, window_at}
use Rattle.mw_step.proofs.make.source.Goals as goal

pub returns-clause-read : goal.returns-clause-read
returns-clause-read c =
    let t = c.args.work.now in
    let u = c.index-windows-k.result in
    let P : SourceWindow → Type 0 = IsRead t.step t.rect (window_at t.windows 0).view.frame_width (window_at t.windows 0).view.frame_height in
    let count = c.windows-fits.ensures.fits.count in
    let is : u ≡ get_or t.windows c.args.k u = c.index-windows-k.is ∙ ap (λ (ws : List SourceWindow). get_or ws c.args.k u) c.requires.windows in
    subst P (sym is) (all-get_or P t.windows c.args.k u (omega (arith, count, c.requires.number)) c.windows-fits.ensures.fits.each)
