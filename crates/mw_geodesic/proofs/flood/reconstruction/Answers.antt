use Rattle.std.proofs.Common.{◌≡◌, ◌∙◌, ◌∷◌, [], List, length, subst, arith, inl, refl}
use Rattle.mw_geodesic.specs.declared.neighbours.Place.{Place}
use Rattle.mw_geodesic.specs.Floods.{AllWait}
use Rattle.mw_geodesic.proofs.Geodesic.{start}
use Rattle.mw_geodesic.proofs.Raised.{flood_begins, taken_out, one_offered, all_offered, still_between, costs_no_more, flood_ended}
use Rattle.mw_geodesic.proofs.flood.reconstruction.Goals as goal

pub loop-q-init : goal.loop-q-init
loop-q-init c =
    let f = c.in_ok-canvas.canvas in
    let is : f ≡ start c.args.mask.now c.args.marker.now = c.in_ok-canvas.ensures.is ∙ c.in_ok-first.ensures in
    let first = flood_begins c.args.element.now c.args.mask.now c.args.marker.now f is c.in_ok-canvas.ensures.picture in
    record {
      between = c.sweep_up.ensures.stays c.args.marker.now (c.sweep_down.ensures.stays c.args.marker.now first);
      waits = c.in_ok-queue.ensures;
    }

pub loop-i-init : goal.loop-i-init
loop-i-init c =
    let q = c.in-Some.q in
    let rest = c.pop_front.new.self.items in
    let f = c.loop-q.canvas in
    let split : c.loop-q.queue.items ≡ q ∷ rest = c.in-Some.ensures.items in
    let waits : AllWait c.args.element.now c.args.mask.now f (q ∷ rest) = subst (λ (t : List Place). AllWait c.args.element.now c.args.mask.now f t) split c.loop-q.invariant.waits in
    let here = waits.inside q.x q.y (inl (refl, refl)) in
    record {
      between = c.loop-q.invariant.between;
      waits = taken_out c.args.element.now c.args.mask.now f q rest waits;
      column = here.0;
      row = here.1;
      costs = omega arith;
    }

pub loop-i-preserved : goal.loop-i-preserved
loop-i-preserved c =
    let e = c.args.element.now in
    let f = c.loop-i.canvas in
    let queue = c.loop-i.queue.items in
    let g = c.offer.new.canvas in
    let after = c.offer.new.queue.items in
    let i = c.loop-i.i in
    let q = c.in-Some.q in
    let old = c.loop-i.invariant.between in
    let between = still_between e c.args.mask.now f queue q i _ g after (omega arith) c.loop-i.invariant.column c.loop-i.invariant.row c.in_ok-offer.ensures c.args.marker.now old in
    record {
      between = between;
      waits = one_offered e c.args.mask.now f queue q i _ g after (omega arith) old.picture c.loop-i.invariant.waits c.in_ok-offer.ensures;
      column = omega (arith, c.loop-i.invariant.column, old.shape.width, between.shape.width);
      row = omega (arith, c.loop-i.invariant.row, old.shape.height, between.shape.height);
      costs = omega (arith, c.loop-i.invariant.costs, costs_no_more c.args.mask.now f queue _ q g after old.picture between.picture c.in_ok-offer.ensures);
    }

pub loop-q-preserved : goal.loop-q-preserved
loop-q-preserved c = record {
  between = c.loop-i.invariant.between;
  waits = all_offered c.args.element.now c.args.mask.now c.loop-i.canvas c.loop-i.queue.items c.in-Some.q c.loop-i.i (omega arith) c.loop-i.invariant.waits;
}

pub returns : goal.returns
returns c =
    let none : c.loop-q.queue.items ≡ [] = empty c.loop-q.queue.items (omega (arith, c.in_default.ensures.cases)) in
    c.into_image.ensures ∙ flood_ended c.args.element.now c.args.mask.now c.args.marker.now c.loop-q.canvas c.loop-q.queue.items none c.loop-q.invariant.between c.loop-q.invariant.waits
  where
    empty : (xs : List Place) → length xs ≡ 0 → xs ≡ []
    empty [] e = refl
    empty (x ∷ xs) e = absurd (omega arith)
