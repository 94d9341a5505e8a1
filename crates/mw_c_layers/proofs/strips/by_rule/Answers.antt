use Rattle.std.proofs.Common.{◌≡◌, ℕ, List, [], ◌∷◌, ap, sym, subst, ◌∙◌}
use Rattle.std.specs.List.{AllByRecursion}
use Rattle.mw_model.specs.declared.offsets.Rect.{Rect}
use Rattle.mw_model.specs.Rectangles.{IsWithin}
use Rattle.mw_model.specs.Tasks.{place_read}
use Rattle.mw_tile.specs.Windows.{SourceWindow, window_of}
use Rattle.mw_step_task.specs.Meanings.{meaning}
use Rattle.mw_step_task.specs.WindowTasks.{IsBounded}
use Rattle.mw_c_layers.specs.Origins.{origin_picture}
use Rattle.mw_c_layers.proofs.OriginImages.{origin_image}
use Rattle.std.proofs.lemmas.Result.{IfOk-weaker}
use Rattle.mw_model.specs.Pictures.{Picture}
use Rattle.mw_c_layers.specs.Layers.{rule_picture}
use Rattle.mw_c_layers.specs.Parts.{IsStrip, made_picture, part_of}
use Rattle.mw_c_lent.proofs.Rows.{read_strip}
use Rattle.mw_c_layers.proofs.Cutting.{place_is, unsummed_step, rule_fits, rule_made, strip_inside}
use Rattle.mw_c_layers.proofs.strips.by_rule.Goals as goal

pub grown-place-requires : goal.grown-place-requires
grown-place-requires c =
    let f = origin_picture c.args.f in
    subst (λ (m : ℕ). IsWithin c.args.strip m c.height.result) (sym c.width.ensures) (subst (λ (n : ℕ). IsWithin c.args.strip f.width n) (sym c.height.ensures) (strip_inside c.args.strip f c.requires.strip))

pub window-requires : goal.window-requires
window-requires c = record {
  sound = c.requires.sound;
  strip = subst (λ (t : Rect). IsStrip t (origin_picture c.args.f)) (sym c.grown-place.ensures.value) (read_strip c.width.result c.height.result c.args.strip c.reach.result (origin_picture c.args.f) c.width.ensures c.height.ensures c.requires.strip);
}

pub made_of-requires : goal.made_of-requires
made_of-requires c =
    let f = origin_picture c.args.f in
    let s = meaning c.in_ok-step.step in
    let ws = c.in_ok-windows.windows.items in
    let place = place_is s f c.args.strip c.grown-place.result c.reach.result c.width.result c.height.result c.width.ensures c.height.ensures c.reach.ensures c.grown-place.ensures.value in
    let windows : ws ≡ window_of (place_read s f.width f.height c.args.strip) f ∷ [] = c.in_ok-windows.ensures ∙ ap (λ (w : SourceWindow). w ∷ []) (c.in_ok-seen.ensures.window ∙ ap (λ (t : Rect). window_of t f) place) in
    record {
      fits = rule_fits c.args.rule s f c.args.strip ws c.in_ok-step.ensures (origin_image c.args.f c.requires.sound) c.requires.strip windows;
      unsummed = unsummed_step c.args.rule s c.in_ok-step.ensures;
      bounded = subst (λ (vs : List SourceWindow). AllByRecursion IsBounded vs) (sym c.in_ok-windows.ensures) (c.in_ok-seen.ensures.bounded, tt);
    }

pub returns : goal.returns
returns c =
    let f = origin_picture c.args.f in
    let s = meaning c.in_ok-step.step in
    let ws = c.in_ok-windows.windows.items in
    let place = place_is s f c.args.strip c.grown-place.result c.reach.result c.width.result c.height.result c.width.ensures c.height.ensures c.reach.ensures c.grown-place.ensures.value in
    let windows : ws ≡ window_of (place_read s f.width f.height c.args.strip) f ∷ [] = c.in_ok-windows.ensures ∙ ap (λ (w : SourceWindow). w ∷ []) (c.in_ok-seen.ensures.window ∙ ap (λ (t : Rect). window_of t f) place) in
    IfOk-weaker c.made_of.result (λ (g : Picture). g ≡ made_picture s ws c.args.strip) (λ (g : Picture). g ≡ part_of (rule_picture c.args.rule f) c.args.strip)
    (λ g e. e ∙ rule_made c.args.rule s f c.args.strip ws c.in_ok-step.ensures c.requires.strip windows) c.made_of.ensures
