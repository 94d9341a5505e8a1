use Rattle.std.proofs.Common.{◌≡◌, ℕ, ◌+◌, ◌-◌, ◌*◌, false, true, List, map, ap, sym, arith, ◌∙◌}
use Rattle.std.proofs.lemmas.Result.{IfErr-weaker, IfOk-weaker}
use borrow.Rule.Slice.PartMut.{mid_of, put_mid, put_same}
use Rattle.mw_model.specs.Pictures.{sample}
use Rattle.mw_model.specs.Tasks.{cells_in}
use Rattle.mw_c_layers.specs.Layers.{formula_picture}
use Rattle.mw_c_layers.specs.Parts.{HasImageRows}
use Rattle.mw_c_layers.proofs.Formulas.{formula_is_picture}
use Rattle.mw_c_lent.proofs.Rows.{length-range}
use Rattle.mw_c_lent.proofs.Written.{rows_put}
use Rattle.mw_c_strips.proofs.writing.put_standing.Goals as goal

pub put_in_place-requires-clause-room : goal.put_in_place-requires-clause-room
put_in_place-requires-clause-room g c = length-range c.args.out.now (c.args.done * c.args.strip.width) (c.args.strip.height * c.args.strip.width) c.requires.room

pub returns-clause-made : goal.returns-clause-made
returns-clause-made g c =
    let level = g.P.Pixel.level in
    let r = c.args.strip in
    let f = formula_picture c.args.formula in
    let a : ℕ = c.args.done * r.width in
    let k : ℕ = r.height * r.width in
    let old = c.args.out.now in
    let part = c.put_in_place.new.out in
    let same : a + k - a ≡ k = omega arith in
    IfOk-weaker c.put_in_place.result (λ is. is ≡ true → map level part ≡ cells_in r (sample f))
    (λ is. is ≡ true → (first : ℕ) → r.y ≡ first + c.args.done → HasImageRows level f first r.y old → HasImageRows level f first (r.y + r.height) (put_mid a (a + k - a) old part))
    (λ is made yes first row before.
    rows_put level f r first c.args.done old part (put_mid a (a + k - a) old part) c.requires.strip (formula_is_picture c.args.formula c.requires.sound).size row c.requires.room (made yes)
    (ap (λ (m : ℕ). put_mid a m old part) same) before)
    c.put_in_place.ensures.made

pub returns-clause-left_out : goal.returns-clause-left_out
returns-clause-left_out g c =
    let a : ℕ = c.args.done * c.args.strip.width in
    let k : ℕ = a + c.args.strip.height * c.args.strip.width - a in
    let old = c.args.out.now in
    let part = c.put_in_place.new.out in
    IfOk-weaker c.put_in_place.result (λ is. is ≡ false → part ≡ mid_of a k old) (λ is. is ≡ false → put_mid a k old part ≡ old) (λ is no none. ap (λ (xs : List _). put_mid a k old xs) (no none) ∙ put_same a k old) c.put_in_place.ensures.left_out

pub returns-clause-kept : goal.returns-clause-kept
returns-clause-kept g c =
    let a : ℕ = c.args.done * c.args.strip.width in
    let k : ℕ = a + c.args.strip.height * c.args.strip.width - a in
    let old = c.args.out.now in
    let part = c.put_in_place.new.out in
    IfErr-weaker c.put_in_place.result (λ _. part ≡ mid_of a k old) (λ _. put_mid a k old part ≡ old) (λ e same. ap (λ (xs : List _). put_mid a k old xs) same ∙ put_same a k old) c.put_in_place.ensures.kept
