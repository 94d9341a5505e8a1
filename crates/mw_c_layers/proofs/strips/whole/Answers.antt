use Rattle.std.proofs.Common.{◌≡◌, ℕ, subst, sym}
use Rattle.std.proofs.lemmas.Result.{IfOk-weaker}
use Rattle.mw_model.specs.Rectangles.{IsWithin}
use Rattle.mw_tile.specs.Windows.{SourceWindow, window_of}
use Rattle.mw_step_task.specs.WindowTasks.{IsBounded}
use Rattle.mw_step_task.proofs.Cut.{window_bounded_cut}
use Rattle.mw_c_layers.proofs.strips.whole.Goals as goal

pub returns-clause-bounded : goal.returns-clause-bounded
returns-clause-bounded c =
    let f = c.args.image.now in
    let r = c.whole_frame.result in
    let within = subst (λ (m : ℕ). IsWithin r m f.height) c.width.ensures (subst (λ (n : ℕ). IsWithin r c.width.result n) c.height.ensures c.whole_frame.ensures.within) in
    IfOk-weaker c.of_image.result (λ (w : SourceWindow). w ≡ window_of r f) IsBounded (λ w is. subst IsBounded (sym is) (window_bounded_cut f r c.view-picture.ensures.picture within)) c.of_image.ensures
