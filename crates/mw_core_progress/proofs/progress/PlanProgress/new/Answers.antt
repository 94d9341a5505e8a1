use Rattle.std.proofs.Common.{map, sym, ap, subst, ◌∙◌, arith}
use Rattle.mw_core_planes.specs.declared.step_planes.StepPlane.TheVariants.{Closed}
use Rattle.mw_core_progress.specs.ProgressView.{IsWorkable}
use Rattle.mw_core_progress.proofs.Fresh.{Beginning, begin_whole, begin_fresh, planes_are}
use Rattle.mw_core_progress.proofs.progress.PlanProgress.new.Goals as goal

pub invariant_of-result : goal.invariant_of-result
invariant_of-result c =
    let a = c.args in
    let b : Beginning a.plan c.new-input.result a.grid c.in_ok-ready.ready c.in_ok-places.places.items = record {
      needs = c.in_ok-needs.needs.items;
      workable = subst (IsWorkable a.plan) (sym c.new-input.ensures) c.requires;
      framed = record {
        wide = omega (arith, c.width-width.ensures.value, c.width-width.ensures.some);
        narrow = omega (arith, c.width-width.ensures.value, c.width-width.ensures.small);
        high = omega (arith, c.height-height.ensures.value, c.height-height.ensures.some);
        low = omega (arith, c.height-height.ensures.value, c.height-height.ensures.small);
        least = omega (arith, c.side-side.ensures.value, c.side-side.ensures.some);
        most = omega (arith, c.side-side.ensures.value, c.side-side.ensures.small);
      };
      board = c.in_ok-ready.ensures;
      size = (let ok = c.in_ok-needs.needs.ok in omega (arith, c.in_ok-needs.ensures.size));
      each = c.in_ok-needs.ensures.each;
      places_are = c.in_ok-places.ensures ∙ ap (map Closed) (c.deref.ensures.value ∙ c.in_ok-levels.ensures);
    } in
    let e = begin_whole a.plan c.new-input.result a.grid c.in_ok-ready.ready c.in_ok-places.places.items b in
    (e.0, e.1, e.2, c.in_ok-numbers.ensures.items, omega (arith, c.in_ok-numbers.ensures.exact, c.len.ensures))

pub returns-clause-progress : goal.returns-clause-progress
returns-clause-progress c =
    let a = c.args in
    let b : Beginning a.plan c.new-input.result a.grid c.in_ok-ready.ready c.in_ok-places.places.items = record {
      needs = c.in_ok-needs.needs.items;
      workable = subst (IsWorkable a.plan) (sym c.new-input.ensures) c.requires;
      framed = record {
        wide = omega (arith, c.width-width.ensures.value, c.width-width.ensures.some);
        narrow = omega (arith, c.width-width.ensures.value, c.width-width.ensures.small);
        high = omega (arith, c.height-height.ensures.value, c.height-height.ensures.some);
        low = omega (arith, c.height-height.ensures.value, c.height-height.ensures.small);
        least = omega (arith, c.side-side.ensures.value, c.side-side.ensures.some);
        most = omega (arith, c.side-side.ensures.value, c.side-side.ensures.small);
      };
      board = c.in_ok-ready.ensures;
      size = (let ok = c.in_ok-needs.needs.ok in omega (arith, c.in_ok-needs.ensures.size));
      each = c.in_ok-needs.ensures.each;
      places_are = c.in_ok-places.ensures ∙ ap (map Closed) (c.deref.ensures.value ∙ c.in_ok-levels.ensures);
    } in
    begin_fresh a.plan c.new-input.result a.grid c.in_ok-ready.ready c.in_ok-places.places.items b

pub returns-clause-planes : goal.returns-clause-planes
returns-clause-planes c =
    let a = c.args in
    let b : Beginning a.plan c.new-input.result a.grid c.in_ok-ready.ready c.in_ok-places.places.items = record {
      needs = c.in_ok-needs.needs.items;
      workable = subst (IsWorkable a.plan) (sym c.new-input.ensures) c.requires;
      framed = record {
        wide = omega (arith, c.width-width.ensures.value, c.width-width.ensures.some);
        narrow = omega (arith, c.width-width.ensures.value, c.width-width.ensures.small);
        high = omega (arith, c.height-height.ensures.value, c.height-height.ensures.some);
        low = omega (arith, c.height-height.ensures.value, c.height-height.ensures.small);
        least = omega (arith, c.side-side.ensures.value, c.side-side.ensures.some);
        most = omega (arith, c.side-side.ensures.value, c.side-side.ensures.small);
      };
      board = c.in_ok-ready.ensures;
      size = (let ok = c.in_ok-needs.needs.ok in omega (arith, c.in_ok-needs.ensures.size));
      each = c.in_ok-needs.ensures.each;
      places_are = c.in_ok-places.ensures ∙ ap (map Closed) (c.deref.ensures.value ∙ c.in_ok-levels.ensures);
    } in
    planes_are a.plan c.new-input.result a.grid c.in_ok-ready.ready c.in_ok-places.places.items b

pub returns-clause-whole : goal.returns-clause-whole
returns-clause-whole c =
    let a = c.args in
    let b : Beginning a.plan c.new-input.result a.grid c.in_ok-ready.ready c.in_ok-places.places.items = record {
      needs = c.in_ok-needs.needs.items;
      workable = subst (IsWorkable a.plan) (sym c.new-input.ensures) c.requires;
      framed = record {
        wide = omega (arith, c.width-width.ensures.value, c.width-width.ensures.some);
        narrow = omega (arith, c.width-width.ensures.value, c.width-width.ensures.small);
        high = omega (arith, c.height-height.ensures.value, c.height-height.ensures.some);
        low = omega (arith, c.height-height.ensures.value, c.height-height.ensures.small);
        least = omega (arith, c.side-side.ensures.value, c.side-side.ensures.some);
        most = omega (arith, c.side-side.ensures.value, c.side-side.ensures.small);
      };
      board = c.in_ok-ready.ensures;
      size = (let ok = c.in_ok-needs.needs.ok in omega (arith, c.in_ok-needs.ensures.size));
      each = c.in_ok-needs.ensures.each;
      places_are = c.in_ok-places.ensures ∙ ap (map Closed) (c.deref.ensures.value ∙ c.in_ok-levels.ensures);
    } in
    (begin_whole a.plan c.new-input.result a.grid c.in_ok-ready.ready c.in_ok-places.places.items b).0
