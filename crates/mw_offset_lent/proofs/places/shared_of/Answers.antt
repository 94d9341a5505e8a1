use Rattle.std.proofs.Common.{◌≡◌, ℕ, ◌+◌, get_or, refl, arith, inl, inr}
use Rattle.std.specs.List.{Contains}
use Rattle.std.proofs.lemmas.List.Elements.{Contains-get_or}
use Rattle.mw_offset_lent.proofs.Covers.{each_more}
use Rattle.mw_offset_lent.proofs.places.shared_of.Goals as goal

pub loop-place-preserved : goal.loop-place-preserved
loop-place-preserved c =
    let all = c.args.all.now in
    let ahead = c.args.ahead in
    let place = get_or all c.loop-place.place-index 0 in
    let old = c.loop-place.shared.items in
    let new = c.push_shared.new.shared.items in
    let here = Contains-get_or all c.loop-place.place-index 0 (omega arith) in
    record {
      ahead = each_more (λ p. (q : ℕ) × (Contains all q) × (p ≡ q + ahead)) old new (place + ahead) (elim c.in_ok-push_shared.ensures [ inl same ↦ inl same | inr more ↦ inr ((place, here, refl), more.1) ]) c.loop-place.invariant.ahead;
      within = each_more (Contains all) old new (place + ahead) c.in_ok-push_shared.ensures c.loop-place.invariant.within;
    }
