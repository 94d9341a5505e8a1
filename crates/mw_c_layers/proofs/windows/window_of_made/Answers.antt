use Rattle.std.proofs.Common.{◌≡◌, sym, subst}
use Rattle.std.proofs.lemmas.Result.{IfOk-weaker}
use Rattle.mw_tile.specs.Windows.{SourceWindow, window_of}
use Rattle.mw_step_task.specs.WindowTasks.{IsBounded}
use Rattle.mw_step_task.proofs.Cut.{window_bounded_cut}
use Rattle.mw_c_layers.proofs.Cutting.{strip_inside}
use Rattle.mw_c_layers.proofs.windows.window_of_made.Goals as goal

pub of_image-requires : goal.of_image-requires
of_image-requires c = strip_inside c.args.place c.args.f.now c.requires

pub returns-clause-bounded : goal.returns-clause-bounded
returns-clause-bounded c =
    let f = c.args.f.now in
    let r = c.args.place in
    IfOk-weaker c.of_image.result (λ (w : SourceWindow). w ≡ window_of r f) IsBounded
    (λ w is. subst IsBounded (sym is) (window_bounded_cut f r c.view-picture.ensures.picture (strip_inside r f c.requires))) c.of_image.ensures
