use Rattle.std.proofs.Common.{◌≡◌, ℕ, List, ap, sym, subst, ◌∙◌, refl}
use Rattle.std.specs.List.{AllByRecursion}
use Rattle.std.proofs.lemmas.Result.{IfOk-weaker}
use Rattle.mw_model.specs.Flat.{minus}
use Rattle.mw_model.specs.Pictures.{Picture}
use Rattle.mw_model.specs.Rectangles.{rect}
use Rattle.mw_model.specs.PlanSteps.{Minus}
use Rattle.mw_tile.specs.Windows.{SourceWindow}
use Rattle.mw_step_task.specs.WindowTasks.{IsBounded}
use Rattle.mw_c_layers.specs.Parts.{made_picture}
use Rattle.mw_c_layers.proofs.Cutting.{two_fit, two_made}
use Rattle.mw_c_layers.proofs.Formulas.{two_windows}
use Rattle.mw_c_layers.proofs.strips.less.Goals as goal

pub made_of-requires : goal.made_of-requires
made_of-requires c =
    let a = c.args.a.now in
    let b = c.args.b.now in
    let ws = c.in_ok-windows.windows.items in
    let r = c.whole_frame-frame.result in
    let whole : r ≡ rect 0 0 a.width a.height = c.whole_frame-frame.ensures.value ∙ ap (λ (m : ℕ). rect 0 0 m c.height.result) c.width.ensures ∙ ap (λ (n : ℕ). rect 0 0 a.width n) c.height.ensures in
    let windows = two_windows a b r c.in_ok-first.first c.in_ok-second.second ws c.requires.alike whole c.in_ok-first.ensures.window c.in_ok-second.ensures.window c.in_ok-windows.ensures in
    record {
      fits = two_fit a b r ws c.requires.alike whole windows c.requires.wide c.requires.high;
      unsummed = refl;
      bounded = subst (λ (vs : List SourceWindow). AllByRecursion IsBounded vs) (sym c.in_ok-windows.ensures) (c.in_ok-first.ensures.bounded, (c.in_ok-second.ensures.bounded, tt));
    }

pub returns : goal.returns
returns c =
    let a = c.args.a.now in
    let b = c.args.b.now in
    let ws = c.in_ok-windows.windows.items in
    let r = c.whole_frame-frame.result in
    let whole : r ≡ rect 0 0 a.width a.height = c.whole_frame-frame.ensures.value ∙ ap (λ (m : ℕ). rect 0 0 m c.height.result) c.width.ensures ∙ ap (λ (n : ℕ). rect 0 0 a.width n) c.height.ensures in
    let windows = two_windows a b r c.in_ok-first.first c.in_ok-second.second ws c.requires.alike whole c.in_ok-first.ensures.window c.in_ok-second.ensures.window c.in_ok-windows.ensures in
    IfOk-weaker c.made_of.result (λ (g : Picture). g ≡ made_picture Minus ws r) (λ (g : Picture). g ≡ minus a b) (λ g e. e ∙ two_made a b r ws c.requires.alike whole windows) c.made_of.ensures
