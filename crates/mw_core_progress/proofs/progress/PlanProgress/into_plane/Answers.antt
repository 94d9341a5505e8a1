use Rattle.std.proofs.Common.{◌≡◌, ℕ, ◌-◌, false, length, get_or, sym, ap, subst, ◌∙◌, arith}
use Rattle.mw_model.specs.Plans.{is_sum}
use Rattle.mw_model.specs.Tasks.{remaining_tasks, nothing_planned}
use Rattle.mw_core_planes.specs.StepPlanes.{form, no_place, place_at}
use Rattle.mw_core_progress.specs.ProgressView.{ProgressView, plane_at}
use Rattle.mw_core_progress.proofs.Ended.{sizes_are, last_form, last_is, not_open, last_plane}
use Rattle.mw_core_progress.proofs.progress.PlanProgress.into_plane.Goals as goal

pub unreachable-requires : goal.unreachable-requires
unreachable-requires c =
    let i = c.self.inside in
    let ps = i.places.items in
    let sizes = sizes_are i.plan i.input i.grid i.ready ps c.self.invariant.0 in
    let len : i.places.len ≡ length i.plan = (let ok = i.places.ok in omega (arith, sizes.0)) in
    let last = c.unwrap-last.result in
    let last-is : last ≡ place_at ps (i.places.len - 1) = last_is ps i.places.len c.pop.result last (c.pop.ensures.value no_place (omega (arith, sizes.0, sizes.1, len))) c.unwrap-last.ensures in
    let done = subst (λ (u : ProgressView). remaining_tasks u.progress ≡ 0) (sym c.self.view_is) c.requires.done in
    let unsummed = subst (λ (u : ProgressView). is_sum (get_or u.progress.plan (length u.progress.plan - 1) nothing_planned).step ≡ false) (sym c.self.view_is) c.requires.plane in
    let one : form (place_at ps (i.places.len - 1)) ≡ 1 = ap (λ (n : ℕ). form (place_at ps (n - 1))) len ∙ last_form i.plan i.input i.grid i.ready ps c.self.invariant.0 c.self.invariant.2 done unsummed in
    not_open (place_at ps (i.places.len - 1)) last last-is one c.in_default.not-Plane

pub returns : goal.returns
returns c =
    let i = c.self.inside in
    let ps = i.places.items in
    let sizes = sizes_are i.plan i.input i.grid i.ready ps c.self.invariant.0 in
    let len : i.places.len ≡ length i.plan = (let ok = i.places.ok in omega (arith, sizes.0)) in
    let last = c.unwrap-last.result in
    let last-is : last ≡ place_at ps (i.places.len - 1) = last_is ps i.places.len c.pop.result last (c.pop.ensures.value no_place (omega (arith, sizes.0, sizes.1, len))) c.unwrap-last.ensures in
    subst (λ (u : ProgressView). c.in-Plane.plane ≡ plane_at u (length u.progress.plan - 1)) c.self.view_is
    (last_plane i.plan i.input i.grid i.ready ps i.places.len last c.in-Plane.plane len last-is c.in-Plane.is)
