use Rattle.std.proofs.Common.{◌≡◌, ◌+◌, ◌*◌, List, length, ap, arith, ◌∙◌}
use Rattle.std.specs.Prelude.{slice_range}
use Rattle.mw_model.specs.declared.offsets.Rect.{Rect}
use Rattle.mw_c_lent.proofs.Rows.{length-range}
use Rattle.mw_c_lent.proofs.Slid.{strip_fits}
use Rattle.mw_c_lent.proofs.differences.own_rows.Goals as goal

pub overflow_add-end : goal.overflow_add-end
overflow_add-end g c =
    let w = c.args.lent.now in
    let size : length c.samples-all.result.now ≡ w.frame_height * w.frame_width = ap (λ (xs : List _). length xs) c.samples-all.ensures.value ∙ c.samples-all.ensures.size ∙ ap (λ (p : Rect). p.height * p.width) c.requires.whole in
    omega (arith, strip_fits w.frame_width w.frame_height (length c.samples-all.result.now) c.args.strip c.requires.strip size)

pub slice_bounds-rows-end : goal.slice_bounds-rows-end
slice_bounds-rows-end g c =
    let w = c.args.lent.now in
    let size : length c.samples-all.result.now ≡ w.frame_height * w.frame_width = ap (λ (xs : List _). length xs) c.samples-all.ensures.value ∙ c.samples-all.ensures.size ∙ ap (λ (p : Rect). p.height * p.width) c.requires.whole in
    strip_fits w.frame_width w.frame_height (length c.samples-all.result.now) c.args.strip c.requires.strip size

pub returns-clause-value : goal.returns-clause-value
returns-clause-value g c =
    let r = c.args.strip in
    ap (λ (xs : List _). slice_range xs (r.y * r.width) (r.y * r.width + r.height * r.width)) c.samples-all.ensures.value

pub returns-clause-size : goal.returns-clause-size
returns-clause-size g c =
    let w = c.args.lent.now in
    let r = c.args.strip in
    let size : length c.samples-all.result.now ≡ w.frame_height * w.frame_width = ap (λ (xs : List _). length xs) c.samples-all.ensures.value ∙ c.samples-all.ensures.size ∙ ap (λ (p : Rect). p.height * p.width) c.requires.whole in
    length-range c.samples-all.result.now (r.y * r.width) (r.height * r.width) (strip_fits w.frame_width w.frame_height (length c.samples-all.result.now) r c.requires.strip size)
