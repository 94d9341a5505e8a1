use Rattle.std.proofs.Common.{◌≡◌, sym, subst}
use Rattle.std.proofs.lemmas.Result.{IfOk-weaker}
use Rattle.mw_tile.specs.Windows.{SourceWindow, window_of}
use Rattle.mw_step_task.specs.WindowTasks.{IsBounded}
use Rattle.mw_step_task.proofs.Cut.{window_bounded_cut}
use Rattle.mw_c_arrays.specs.Sources.{picture_in}
use Rattle.mw_c_arrays.proofs.SourceImages.{source_image}
use Rattle.mw_c_layers.proofs.Cutting.{strip_inside}
use Rattle.mw_c_layers.proofs.windows.window_of_array.Goals as goal

pub returns-clause-window : goal.returns-clause-window
returns-clause-window c = c.standing.ensures (picture_in c.args.f) (sym c.width.ensures) (sym c.height.ensures) c.in_ok-image.ensures

pub returns-clause-bounded : goal.returns-clause-bounded
returns-clause-bounded c =
    let f = picture_in c.args.f in
    let window = c.standing.ensures f (sym c.width.ensures) (sym c.height.ensures) c.in_ok-image.ensures in
    IfOk-weaker c.standing.result (λ (w : SourceWindow). w ≡ window_of c.args.place f) IsBounded
    (λ w is. subst IsBounded (sym is) (window_bounded_cut f c.args.place (source_image c.args.f c.requires.sound).picture (strip_inside c.args.place f c.requires.strip))) window
