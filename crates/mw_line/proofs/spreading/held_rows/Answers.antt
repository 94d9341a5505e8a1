use Rattle.std.proofs.Common.{◌≡◌, ℕ, ◌+◌, ◌-◌, ◌*◌, List, take, drop, get_or, length, length-take, length-drop, ◌≤◌, refl, ap, arith, ◌∙◌}
use Rattle.std.proofs.Math.Nat.{mul-le-mul_left}
use Rattle.mw_model.specs.declared.offsets.Rect.{Rect}
use Rattle.mw_line.proofs.HeldRows.{held_place}
use Rattle.mw_line.proofs.Rows.{row_within}
use Rattle.mw_line.proofs.spreading.held_rows.Goals as goal

pub returns-clause-cells : goal.returns-clause-cells
returns-clause-cells g c = λ x y less row_less.
    let w = c.args.window.now in
    let wide = c.place-wide.result.width in
    let high = c.args.high in
    let from = c.args.row * wide in
    let m = (c.args.row + high) * wide - from in
    let n = c.args.neutral in
    let width-is = ap (λ (t : Rect). t.width) c.place-wide.ensures.value in
    let here = row_within x y w.place.width high less row_less in
    let held = take m (drop from c.samples.result.now) in
    let at = y * w.place.width + x in
    let m-is : m ≡ high * w.place.width = omega (arith, ap (λ (t : ℕ). high * t) width-is) in
    let held-is : held ≡ take m (drop (c.args.row * w.place.width) w.cells) = ap (λ (t : List g.row.P.Denot). take m (drop from t)) c.samples.ensures.value ∙ ap (λ (t : ℕ). take m (drop (c.args.row * t) w.cells)) width-is in
    let fits : (c.args.row + high) * wide ≤ length c.samples.result.now = omega (arith, mul-le-mul_left wide c.requires.inside, c.samples.ensures.size, ap length c.samples.ensures.value, ap (λ (t : ℕ). w.place.height * t) width-is) in
    let size : length held ≡ m = omega (arith, fits, length-take m (drop from c.samples.result.now), length-drop from c.samples.result.now) in
    let widths = ap (λ (t : ℕ). high * t) width-is in
    let ext = c.in_ok-extend_from_slice.ensures.len in
    c.in_ok-resize.ensures.by_index.0 at n (omega (arith, here, widths, m-is, size, ext, c.in_ok-cells.ensures.len)) (omega (arith, here, widths, m-is, size, ext, c.in_ok-cells.ensures.len))
    ∙ c.in_ok-extend_from_slice.ensures.by_index.1 at n refl (omega (arith, c.in_ok-cells.ensures.len))
    ∙ ap (λ (t : ℕ). get_or held t n) (omega (arith, c.in_ok-cells.ensures.len))
    ∙ ap (λ (t : List g.row.P.Denot). get_or t at n) held-is
    ∙ held_place w.place.width w.place.height c.args.row high m w.cells n c.requires.inside m-is x y less row_less
