use Rattle.std.proofs.Common.{◌≡◌, ℕ, ◌+◌, ◌-◌, ◌*◌, ◌<◌, length, take, drop, get_or, length-take, length-drop, ap, arith, ◌∙◌, sym}
use Rattle.std.specs.Prelude.{◌==◌, if◌then◌else◌}
use Rattle.mw_model.specs.declared.offsets.Rect.{Rect}
use Rattle.mw_step_task.proofs.mw_pixel_words.Bits.{rows_fit}
use Rattle.mw_step.proofs.Painted.{cells_part, cells_all}
use Rattle.mw_step.proofs.painting.mark_rows.Goals as goal

pub loop-y-preserved : goal.loop-y-preserved
loop-y-preserved g c =
    let set = c.args.set.now in
    let v = c.args.v in
    let w = set.place.width in
    let y = c.loop-y.y in
    let out = c.loop-y.acc in
    let width = c.place-place.result.width in
    let width-is : width ≡ w = ap (λ (r : Rect). r.width) c.place-place.ensures.value in
    let start-is : y * width ≡ y * w = ap (λ (t : ℕ). y * t) width-is in
    let m = y * width + width - y * width in
    let known = c.loop-y.invariant in
    let size = known.size in
    let last : y < set.place.height = omega (arith, c.loop-y-test.true, ap (λ (r : Rect). r.height) c.place-place.ensures.value) in
    let fits = rows_fit y set.place.height w last in
    let part = take m (drop (y * width) out) in
    let whole : length part ≡ m = omega (arith, length-take m (drop (y * width) out), length-drop (y * width) out, c.requires) in
    let next : (y + 1) * w ≡ y * w + w = omega arith in
    cells_part (λ s (x : ℕ). if get_or set.cells x 0 == 1 then v else s) (y * w) (y * width) m ((y + 1) * w) c.args.acc.now out c.mark_row.new.acc (sym start-is) (omega (arith, c.requires)) (c.mark_row.auto.acc ∙ whole) (omega arith) (λ x less here. omega arith)
    (λ x d lt. c.mark_row.ensures x d (omega (arith, whole)) ∙ ap (λ (b : ℕ). if b == 1 then v else get_or part x d) (c.row_of.ensures.samples x (omega arith) ∙ ap (λ (t : ℕ). get_or set.cells (t + x) 0) (sym start-is))) known

pub returns : goal.returns
returns g c =
    let set = c.args.set.now in
    let v = c.args.v in
    let w = set.place.width in
    let y-is : c.loop-y.y ≡ set.place.height = omega (arith, c.loop-y-test.false, c.loop-y.auto.y-end, ap (λ (r : Rect). r.height) c.place-place.ensures.value) in
    let whole : c.loop-y.y * w ≡ set.place.height * w = ap (λ (t : ℕ). t * w) y-is in
    cells_all (λ s (m : ℕ). if m == 1 then v else s) (c.loop-y.y * w) c.args.acc.now c.loop-y.acc set.cells v (omega (arith, c.requires, whole)) (c.requires ∙ sym c.is_sound.ensures.size) c.loop-y.invariant
