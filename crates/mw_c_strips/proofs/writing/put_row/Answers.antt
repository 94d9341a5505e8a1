use Rattle.std.proofs.Common.{◌≡◌, ℕ, ◌+◌, ◌-◌, ◌*◌, ◌<◌, ◌≤◌, length, get_or, arith, sym, subst, ap, ◌∙◌, rules}
use Rattle.std.proofs.lemmas.List.{length-set}
use Rattle.mw_model.proofs.ImagePlaces.{sample_bounded}
use Rattle.mw_c_layers.specs.Layers.{formula_picture}
use Rattle.mw_c_layers.proofs.Formulas.{formula_is_picture}
use Rattle.mw_c_strips.proofs.SomeRows.{room_for_cell}
use Rattle.mw_c_lent.proofs.Written.{row_full, row_more}
use Rattle.mw_c_strips.proofs.writing.put_row.Goals as goal

pub sample_of-requires : goal.sample_of-requires
sample_of-requires g c =
    let f = formula_picture c.args.formula in
    let across = c.loop-x-test.true in
    let wide = c.requires.wide in
    let low = sample_bounded f (formula_is_picture c.args.formula c.requires.sound) c.loop-x.x c.args.y (omega (arith, across, wide)) c.requires.down in
    omega (arith, c.level_at-level.ensures, low, g.met.P.Sample.stands_within f.maxval c.requires.stands)

pub offset_bounds-out-start : goal.offset_bounds-out-start
offset_bounds-out-start g c =
    let k : ℕ = c.args.y - c.args.first in
    let row : c.args.y ≡ c.args.first + k = omega (arith, c.requires.behind) in
    let h : k * c.args.width + c.loop-x.x < length c.loop-x.out = room_for_cell c.args.first k c.args.y c.args.width c.loop-x.x (length c.loop-x.out) row c.loop-x-test.true c.loop-x.invariant.room in
    search rules

pub loop-x-init : goal.loop-x-init
loop-x-init g c =
    let same : c.args.y * c.args.width ≡ c.args.y * (formula_picture c.args.formula).width = ap (λ (t : ℕ). c.args.y * t) c.requires.wide in
    record { cells = λ i d lt. c.requires.before i d (omega (arith, lt, same)); room = c.requires.room }

pub loop-x-preserved : goal.loop-x-preserved
loop-x-preserved g c =
    let f = formula_picture c.args.formula in
    let k : ℕ = c.args.y - c.args.first in
    let row : c.args.y ≡ c.args.first + k = omega (arith, c.requires.behind) in
    let within : k * c.args.width + c.loop-x.x < length c.loop-x.out = room_for_cell c.args.first k c.args.y c.args.width c.loop-x.x (length c.loop-x.out) row c.loop-x-test.true c.loop-x.invariant.room in
    let is = c.sample_of.ensures ∙ c.level_at-level.ensures ∙ ap (λ (t : ℕ). get_or f.samples (c.args.y * t + c.loop-x.x) 0) (sym c.requires.wide) in
    record {
      cells = λ i d lt. row_more g.P.Pixel.level f c.args.first k c.args.y c.args.width c.loop-x.x c.loop-x.out c.sample_of.result row c.requires.wide within is c.loop-x.invariant.cells i d (omega (arith, lt));
      room = subst (λ (n : ℕ). (c.args.y + 1) * c.args.width ≤ c.args.first * c.args.width + n) (sym (length-set c.loop-x.out (k * c.args.width + c.loop-x.x) c.sample_of.result)) c.loop-x.invariant.room;
    }

pub returns : goal.returns
returns g c =
    let f = formula_picture c.args.formula in
    let same : c.args.y * c.args.width ≡ c.args.y * f.width = ap (λ (t : ℕ). c.args.y * t) c.requires.wide in
    row_full g.P.Pixel.level f c.args.first c.args.y (c.args.y * c.args.width + c.loop-x.x) c.loop-x.out (omega (arith, same, c.requires.wide)) c.loop-x.invariant.cells
