use Rattle.std.proofs.Common.{◌+◌, subst, arith}
use Rattle.mw_c_arrays.specs.Sources.{picture_in}
use Rattle.mw_c_lent.specs.declared.composites.Composite.{Composite}
use Rattle.mw_c_lent.specs.Composites.{LooksWithin, first_made}
use Rattle.mw_c_lent.specs.Rows.{HasImageRows}
use Rattle.mw_c_lent.specs.Rules.{rule_picture}
use Rattle.mw_c_lent.specs.Standing.{seen_from, seen_to}
use Rattle.mw_c_lent.proofs.Stood.{rows_at}
use Rattle.mw_c_lent.specs.Suited.{SuitComposite}
use Rattle.mw_c_lent.proofs.composed.put_composed.Goals as goal

pub put_turn-requires-clause-stands : goal.put_turn-requires-clause-stands
put_turn-requires-clause-stands g c =
    let k = c.args.composer.composition in
    let f = picture_in k.f in
    subst (λ (x : Composite). HasImageRows g.P.Pixel.level (rule_picture (first_made x) f) (seen_from k.reach c.args.strip) (seen_to f.height k.reach c.args.strip) c.args.between.now) c.in-InTurn.is c.requires.stands

pub put_taken_in_turn-requires-clause-stands : goal.put_taken_in_turn-requires-clause-stands
put_taken_in_turn-requires-clause-stands g c =
    let k = c.args.composer.composition in
    let f = picture_in k.f in
    subst (λ (x : Composite). HasImageRows g.P.Pixel.level (rule_picture (first_made x) f) (seen_from k.reach c.args.strip) (seen_to f.height k.reach c.args.strip) c.args.between.now) c.in-Taken.is c.requires.stands

pub put_added_in_turn-requires-clause-stands : goal.put_added_in_turn-requires-clause-stands
put_added_in_turn-requires-clause-stands g c =
    let k = c.args.composer.composition in
    let f = picture_in k.f in
    subst (λ (x : Composite). HasImageRows g.P.Pixel.level (rule_picture (first_made x) f) (seen_from k.reach c.args.strip) (seen_to f.height k.reach c.args.strip) c.args.between.now) c.in-Added.is c.requires.stands

pub put_less_of_rules-requires-clause-stands : goal.put_less_of_rules-requires-clause-stands
put_less_of_rules-requires-clause-stands g c =
    let level = g.P.Pixel.level in
    let k = c.args.composer.composition in
    let f = picture_in k.f in
    let r = c.args.strip in
    let low = c.requires.strip.low in
    let none = subst (λ (x : Composite). LooksWithin k.reach x) c.in-Less.is c.requires.sound.reach in
    rows_at level (rule_picture c.in-Less.lower f) (seen_from k.reach r) (seen_to f.height k.reach r) r.y (r.y + r.height) c.args.between.now (omega (arith, none.0)) (omega (arith, none.1, low))
    (subst (λ (x : Composite). HasImageRows level (rule_picture (first_made x) f) (seen_from k.reach r) (seen_to f.height k.reach r) c.args.between.now) c.in-Less.is c.requires.stands)

pub returns-in-InTurn-clause-taken : goal.returns-in-InTurn-clause-taken
returns-in-InTurn-clause-taken g c = λ fits suit. c.put_turn.ensures.taken (subst (λ (x : Composite). SuitComposite x c.args.strip) c.in-InTurn.is suit).1

pub returns-in-Taken-clause-taken : goal.returns-in-Taken-clause-taken
returns-in-Taken-clause-taken g c = λ fits suit. c.put_taken_in_turn.ensures.taken (subst (λ (x : Composite). SuitComposite x c.args.strip) c.in-Taken.is suit).1

pub returns-in-Added-clause-taken : goal.returns-in-Added-clause-taken
returns-in-Added-clause-taken g c = λ fits suit. c.put_added_in_turn.ensures.taken (subst (λ (x : Composite). SuitComposite x c.args.strip) c.in-Added.is suit).1

pub returns-in-Less-clause-taken : goal.returns-in-Less-clause-taken
returns-in-Less-clause-taken g c = λ fits suit. c.put_less_of_rules.ensures.taken fits (subst (λ (x : Composite). SuitComposite x c.args.strip) c.in-Less.is suit).0
