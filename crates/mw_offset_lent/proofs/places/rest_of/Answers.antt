use Rattle.std.proofs.Common.{ℕ, List, get_or, refl, arith, subst, sym}
use Rattle.std.specs.List.{Contains}
use Rattle.std.proofs.lemmas.List.{take_all}
use Rattle.std.proofs.lemmas.List.Elements.{Contains-get_or}
use Rattle.mw_offset_lent.proofs.Covers.{rest_more, whole_more}
use Rattle.mw_offset_lent.proofs.places.rest_of.Goals as goal

pub loop-place-preserved : goal.loop-place-preserved
loop-place-preserved c =
    let all = c.args.all.now in
    let shared = c.args.shared.now in
    let ahead = c.args.ahead in
    let j = c.loop-place.place-index in
    let place = get_or all j 0 in
    let old = c.loop-place.rest.items in
    let new = c.push_rest.new.rest.items in
    record {
      rest = rest_more shared old new all ahead place (Contains-get_or all j 0 (omega arith)) c.in_ok-push_rest.ensures c.loop-place.invariant.rest;
      whole = whole_more shared old new all ahead j place (omega arith) refl c.in_ok-push_rest.ensures c.loop-place.invariant.whole;
    }

pub returns : goal.returns
returns c =
    let all = c.args.all.now in
    record {
      shared = c.requires.shared;
      rest = c.loop-place.invariant.rest;
      whole = λ p has. c.loop-place.invariant.whole p (subst (λ (t : List ℕ). Contains t p) (sym (take_all c.loop-place.place-index all (omega arith))) has);
    }
