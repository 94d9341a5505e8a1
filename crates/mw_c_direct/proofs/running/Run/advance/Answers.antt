use Rattle.std.proofs.Common.{true, Bool, List, ap, subst}
use Rattle.std.specs.Prelude.{slice_index_or, slice_set, IfSome}
use Rattle.std.specs.List.{AllByRecursion}
use Rattle.mw_model.specs.Plans.{Planned, Source, no_picture}
use Rattle.mw_model.specs.Tasks.{nothing_planned}
use Rattle.mw_plan.specs.Seen.{planned}
use Rattle.mw_c_direct.specs.Kept.{IsKeptWanted, IsWanted, KeepsRead, kept_at}
use Rattle.mw_c_direct.specs.Runs.{planes_on}
use Rattle.mw_c_direct.proofs.Dropping.{all_still, keeps_on}
use Rattle.mw_c_direct.proofs.Steps.{CanRun, advanced, number_told, product_true, ready_held}
use Rattle.mw_c_direct.proofs.running.Run.advance.Goals as goal

pub made-requires : goal.made-requires
made-requires c =
    let old = c.args.self.now in
    let can : CanRun c.args.plan.now c.args.image.now old.made.items old.planes.items c.args.k = record { runs = c.requires.runnable; run = c.requires.run; within = c.requires.within; unmade = c.requires.unmade; sources = c.requires.sources } in
    ready_held c.args.plan.now c.args.image.now old.made.items old.planes.items c.deref.result.now c.args.k (planned c.step-step.result.now) can c.step-step.ensures c.deref.ensures.value

pub returns-clause-run : goal.returns-clause-run
returns-clause-run c =
    let plan = c.args.plan.now in
    let image = c.args.image.now in
    let k = c.args.k in
    let old = c.args.self.now in
    let put = c.put-number.new.self.planes.items in
    let spent = c.drop_spent.new.planes.items in
    let new = c.drop_unwanted.new.planes.items in
    let told = slice_set c.put-number.new.self.made.items k true in
    let product = c.in_ok-product.product in
    let can : CanRun plan image old.made.items old.planes.items k = record { runs = c.requires.runnable; run = c.requires.run; within = c.requires.within; unmade = c.requires.unmade; sources = c.requires.sources } in
    let is = product_true plan image old.made.items old.planes.items c.deref.result.now k (planned c.step-step.result.now) product can c.step-step.ensures c.deref.ensures.value c.in_ok-product.ensures in
    let first = subst (λ (flags : List Bool). KeepsRead plan flags put spent) c.deref-2.ensures.value c.drop_spent.ensures.keeps in
    let second = subst (λ (flags : List Bool). KeepsRead plan flags spent new) c.deref-3.ensures.value c.drop_unwanted.ensures.keeps in
    let read =
    subst (λ (ss : List Source). AllByRecursion (IsKeptWanted plan told spent) ss) (ap (λ (s : Planned). s.sources) c.step-step.ensures)
    (subst (λ (flags : List Bool). AllByRecursion (IsKeptWanted plan flags spent) (planned c.step-step.result.now).sources) c.deref-2.ensures.value c.drop_spent.ensures.wanted) in
    advanced plan image old.made.items told old.planes.items put new k product (record { can = can; product = is }) (ap (λ (flags : List Bool). slice_set flags k true) c.put-number.ensures.made) c.put-number.ensures.planes
    (keeps_on plan told put spent new first second) (all_still plan told spent new (slice_index_or plan k nothing_planned).sources second read)
    (subst (λ (flags : List Bool). IfSome (kept_at new k) (λ f. IsWanted plan flags k)) c.deref-3.ensures.value c.drop_unwanted.ensures.wanted)

pub returns-clause-number : goal.returns-clause-number
returns-clause-number c =
    let plan = c.args.plan.now in
    let image = c.args.image.now in
    let k = c.args.k in
    let old = c.args.self.now in
    let product = c.in_ok-product.product in
    let can : CanRun plan image old.made.items old.planes.items k = record { runs = c.requires.runnable; run = c.requires.run; within = c.requires.within; unmade = c.requires.unmade; sources = c.requires.sources } in
    let is = product_true plan image old.made.items old.planes.items c.deref.result.now k (planned c.step-step.result.now) product can c.step-step.ensures c.deref.ensures.value c.in_ok-product.ensures in
    number_told (slice_index_or plan k nothing_planned) (slice_index_or (planes_on plan image) k no_picture) product c.put-number.result c.put-number.ensures.number is
