use Rattle.std.proofs.Common.{◌∙◌, ◌<◌, length, nat_lt, ap, sym, subst, arith}
use Rattle.std.proofs.lemmas.List.{get_or_read}
use Rattle.mw_model.specs.Refusals.{Table}
use Rattle.mw_model.specs.Stands.{is_wanted}
use Rattle.mw_store.specs.Stored.{Stored}
use Rattle.mw_store.proofs.Tracking.{wanted-tells}
use Rattle.mw_store.proofs.columns.Store.is_wanted.Goals as goal

pub returns : goal.returns
returns c =
    let a = c.self.inside in
    let w : Table = record { names = a.names.keys; submissions = a.submissions.items; outcomes = a.outcomes.items } in
    let t = c.args.t in
    let named : t < length a.names.keys = let R : Stored → Type 0 = λ s. t < length s.table.names in subst R (sym c.self.view_is) c.requires in
    let within : t < length a.wanted.items = omega (arith, named, c.self.invariant.0.counted) in
    ap (nat_lt 0) (get_or_read a.wanted.items t c.index.result.now within c.index.ensures 0 ∙ c.self.invariant.0.wanted t)
    ∙ wanted-tells w t c.self.invariant.0.whole.outcomes ∙ ap (λ (s : Stored). is_wanted s.table t) c.self.view_is
