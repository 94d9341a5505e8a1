use Rattle.std.proofs.Common.{◌≡◌, ◌<◌, false, Bool, List, arith, subst, sym}
use Rattle.std.specs.Prelude.{slice_index_or}
use Rattle.std.specs.List.{AllByRecursion}
use Rattle.mw_model.specs.Tasks.{flag, nothing_planned}
use Rattle.mw_c_direct.specs.Kept.{SourceIsMade}
use Rattle.mw_c_direct.proofs.Steps.{left, one_less}
use Rattle.mw_c_direct.proofs.running.Run.provide.Goals as goal

pub steps-smaller : goal.steps-smaller
steps-smaller c =
    let made = c.steps.self.made.items in
    let next = c.in-Some.ensures.some in
    let before = next.before in
    let flags = c.steps.invariant.run.flags in
    let within = c.requires.within in
    subst (λ (fs : List Bool). left fs < left made) (sym c.in_ok-advance.ensures.made)
    (one_less made c.in-Some.j (omega (arith, before, flags, within)) (subst (λ (fs : List Bool). flag fs c.in-Some.j ≡ false) c.deref.ensures.value next.unmade))

pub returns-clause-sources : goal.returns-clause-sources
returns-clause-sources c =
    subst (λ (flags : List Bool). AllByRecursion (SourceIsMade flags) (slice_index_or c.args.plan.now c.args.k nothing_planned).sources) c.deref.ensures.value c.in_default.ensures.none
