use Rattle.std.proofs.Common.{◌≡◌, ℕ, ◌+◌, ◌<◌, ◌∙◌, List, length, set, take, get_or, refl, ap, sym, subst, arith, None, length-set}
use Rattle.std.proofs.Math.Seq.{take-length}
use Rattle.mw_model.proofs.mw_facts.Alls.{all-get_or}
use Rattle.mw_model.specs.declared.calls.Outcome.TheVariants as outcome
use Rattle.mw_model.specs.Machine.{settled}
use Rattle.mw_model.specs.Stands.{ready_under}
use Rattle.mw_core_ledger.specs.Books.{seen_of}
use Rattle.mw_core_ledger.specs.Counts.{Tally}
use Rattle.mw_core_ledger.proofs.Anew.{AreAnew, anew-more}
use Rattle.mw_core_ledger.proofs.CountLemmas.{counts-settled}
use Rattle.mw_core_ledger.proofs.tally.Counts.settle.Goals as goal

pub loop-u-preserved : goal.loop-u-preserved
loop-u-preserved c =
    let now = c.loop-u.invariant in
    let xs = c.loop-u.self-inside.ready in
    let waiters = c.args.waiters.now in
    let i = c.loop-u.u-index in
    let u = get_or waiters i 0 in
    let g = ready_under (seen_of c.args.ledger.now) in
    let held = c.args.self.now.ready in
    let below : u < length c.args.ledger.now.table.names = all-get_or (λ (k : ℕ). k < length c.args.ledger.now.table.names) waiters i 0 (omega arith) c.requires.below in
    let first : length c.self.inside.ready ≡ length (set held c.args.t (g c.args.t)) = ap (λ (d : Tally). length d.ready) c.self.view_is ∙ ap (λ (l : List ℕ). length l) c.count.ensures.ready in
    let kept : length (set held c.args.t (g c.args.t)) ≡ length held = simp length-set in
    let inside : u < length xs = omega (arith, below, now.anew.long, first, kept, c.requires.count) in
    let is : c.set.new.self ≡ set xs u (g u) = c.set.ensures ∙ ap (set xs u) c.ready_of.ensures.value in
    let more = anew-more g c.self.inside.ready xs waiters i u (omega arith) refl inside now.anew in
    record { anew = subst (λ (l : List ℕ). AreAnew g c.self.inside.ready l (take (i + 1) waiters)) (sym is) more; running = now.running }

pub returns : goal.returns
returns c b d orderly counts settles ticket was wait =
    let now = c.loop-u.invariant in
    let waiters = c.args.waiters.now in
    let t = c.args.t in
    let new = c.args.ledger.now in
    let g = ready_under (seen_of new) in
    let table = settles.table ∙ ap (λ (k : ℕ). settled b.table k outcome.Done) ticket in
    let in_progress = settles.in_progress ∙ ap (λ (k : ℕ). set b.in_progress k None) ticket in
    let all : take c.loop-u.u-index waiters ≡ waiters = ap (λ (k : ℕ). take k waiters) (let e : c.loop-u.u-index ≡ length waiters = omega arith in e) ∙ take-length waiters in
    let anew = subst (λ (l : List ℕ). AreAnew g c.self.inside.ready c.loop-u.self-inside.ready l) all now.anew in
    let middle : c.self.inside.ready ≡ set c.args.self.now.ready t (g t) = ap (λ (k : Tally). k.ready) c.self.view_is ∙ c.count.ensures.ready in
    counts-settled b new c.args.self.now (record { ready = c.loop-u.self-inside.ready; running = c.loop-u.self-inside.running }) t c.args.was c.self.inside.ready waiters
    orderly c.requires.within counts table in_progress was wait middle anew
    (λ le. now.running ∙ ap (λ (k : Tally). k.running) c.self.view_is ∙ c.count.ensures.running le)
