use Rattle.std.proofs.Common.{◌≡◌, true, false, sym, subst}
use Rattle.std.proofs.lemmas.Result.{IfOk-weaker}
use Rattle.mw_c_arrays.specs.Sources.{picture_in}
use Rattle.mw_c_lent.specs.declared.rules.Rule.{Rule}
use Rattle.mw_c_lent.specs.Rows.{HasImageRows}
use Rattle.mw_c_lent.specs.Rules.{rule_picture}
use Rattle.mw_c_lent.specs.Composites.{first_made}
use Rattle.mw_c_lent.specs.Standing.{seen_from, seen_to}
use Rattle.mw_c_lent.proofs.by_strips.put_next.Goals as goal

pub let_stand-requires-clause-stands : goal.let_stand-requires-clause-stands
let_stand-requires-clause-stands g c =
    let f = picture_in c.args.composition.f in
    let s = c.args.next.standing in
    subst (λ (x : Rule). HasImageRows g.P.Pixel.level (rule_picture x f) s.from s.to c.args.between.now) (sym c.made_first.ensures) c.requires.stands

pub put_composed-requires-clause-stands : goal.put_composed-requires-clause-stands
put_composed-requires-clause-stands g c =
    let k = c.args.composition in
    let f = picture_in k.f in
    let r = c.args.next.strip in
    subst (λ (x : Rule). HasImageRows g.P.Pixel.level (rule_picture x f) (seen_from k.reach r) (seen_to f.height k.reach r) c.let_stand.new.between) c.made_first.ensures (c.in_ok-let_stand.ensures.made c.if-not-branch.false)

pub returns-clause-stands : goal.returns-clause-stands
returns-clause-stands g c =
    let level = g.P.Pixel.level in
    let k = c.args.composition in
    let f = picture_in k.f in
    let r = c.args.next.strip in
    let between = c.let_stand.new.between in
    let stands = subst (λ (x : Rule). HasImageRows level (rule_picture x f) (seen_from k.reach r) (seen_to f.height k.reach r) between) c.made_first.ensures (c.in_ok-let_stand.ensures.made c.if-not-branch.false) in
    IfOk-weaker c.put_composed.result (λ done. done ≡ false → c.put_composed.new.out ≡ c.args.out.now)
    (λ done. done ≡ true → HasImageRows level (rule_picture (first_made k.composite) f) (seen_from k.reach r) (seen_to f.height k.reach r) between)
    (λ done kept yes. stands) c.put_composed.ensures.left_out

pub returns-clause-taken : goal.returns-clause-taken
returns-clause-taken g c = λ none fits suit. c.put_composed.ensures.taken fits suit
