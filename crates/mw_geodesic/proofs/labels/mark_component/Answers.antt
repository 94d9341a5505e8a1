use Rattle.std.proofs.Common.{◌≡◌, ◌∙◌, ◌+◌, ◌∷◌, ◌++◌, [], List, length, ap, subst, arith, inl, inr, refl}
use Rattle.mw_geodesic.specs.declared.neighbours.Place.{Place}
use Rattle.mw_geodesic.specs.Labels.{label_at}
use Rattle.mw_geodesic.proofs.Markings.{Marking, MarkingWaits, marking_begins, waits_begin, mark_taken_out, mark_one_offered, mark_all_offered, still_marking, still_there, marks_cost, marking_ended}
use Rattle.mw_geodesic.proofs.labels.mark_component.Goals as goal

pub loop-q-init : goal.loop-q-init
loop-q-init c =
    let f = c.args.set.now in
    let p = c.args.seed in
    let e = c.args.element.now in
    let old = c.args.labels.now in
    let n = c.args.count + 1 in
    let wide : c.width.result ≡ f.width = c.width.ensures.is in
    let alone : c.push_back.new.self.items ≡ p ∷ [] = c.in_ok-push_back.ensures.items ∙ ap (λ (t : List Place). t ++ p ∷ []) c.new-queue.ensures.items in
    let marking = marking_begins e f c.args.count n p.x p.y old p refl refl refl c.requires.partly c.requires.place c.requires.in_set c.requires.free in
    let waits = waits_begin e f c.args.count n p.x p.y old p refl refl refl c.requires.partly c.requires.place in
    record { marking = rw (alone, wide) marking; waits = rw (alone, wide) waits }

pub loop-i-init : goal.loop-i-init
loop-i-init c =
    let f = c.args.set.now in
    let p = c.args.seed in
    let e = c.args.element.now in
    let n = c.args.count + 1 in
    let q = c.in-Some.q in
    let rest = c.pop_front.new.self.items in
    let labels = c.loop-q.labels in
    let split : c.loop-q.queue.items ≡ q ∷ rest = c.in-Some.ensures.items in
    let waits : MarkingWaits e f n labels (q ∷ rest) = subst (λ (t : List Place). MarkingWaits e f n labels t) split c.loop-q.invariant.waits in
    let marking : Marking e f n p.x p.y c.args.labels.now labels (q ∷ rest) = subst (λ (t : List Place). Marking e f n p.x p.y c.args.labels.now labels t) split c.loop-q.invariant.marking in
    let here = marking.inside q.x q.y (inl (refl, refl)) in
    record {
      marking = record { size = marking.size; kept = marking.kept; new = marking.new; seed = marking.seed; inside = λ u v h. marking.inside u v (inr h) };
      waits = mark_taken_out e f n labels q rest waits;
      place = here.0;
      label = here.1;
      before = here.2;
      costs = omega arith;
    }

pub loop-q-smaller : goal.loop-q-smaller
loop-q-smaller c =
    let split : c.loop-q.queue.items ≡ c.in-Some.q ∷ c.pop_front.new.self.items = c.in-Some.ensures.items in
    omega (arith, c.loop-i.invariant.costs, ap (λ (t : List Place). length t) split)

pub loop-i-preserved : goal.loop-i-preserved
loop-i-preserved c =
    let f = c.args.set.now in
    let p = c.args.seed in
    let e = c.args.element.now in
    let n = c.args.count + 1 in
    let q = c.in-Some.q in
    let labels = c.loop-i.labels in
    let queue = c.loop-i.queue.items in
    let now = c.mark_by.new.labels in
    let after = c.mark_by.new.queue.items in
    let i = c.loop-i.i in
    let was = c.loop-i.invariant in
    let old = c.args.labels.now in
    let step = c.in_ok-mark_by.ensures in
    let marking = still_marking e f n p.x p.y old labels queue q i _ now after (omega arith) c.requires.place was.place was.label was.before (omega arith) was.marking step in
    let label : label_at f now q.x q.y ≡ n = elim (marking.new q.x q.y was.place was.before) [
      | inr is ↦ is.0
      | inl none ↦ absurd (still_there f _ q n labels queue now after was.place (omega arith) was.marking.size was.label step none)
    ] in
    record {
      marking = marking;
      waits = mark_one_offered e f n labels queue q i _ now after (omega arith) (omega arith) was.marking.size was.waits step;
      place = was.place;
      label = label;
      before = was.before;
      costs = omega (arith, was.costs, marks_cost f _ q n labels queue now after (omega arith) was.marking.size step);
    }

pub loop-q-preserved : goal.loop-q-preserved
loop-q-preserved c =
    let was = c.loop-i.invariant in
    record {
      marking = was.marking;
      waits = mark_all_offered c.args.element.now c.args.set.now (c.args.count + 1) c.loop-i.labels c.loop-i.queue.items c.in-Some.q c.loop-i.i (omega arith) was.waits;
    }

empty_queue : (xs : List Place) → length xs ≡ 0 → xs ≡ []
empty_queue [] e = refl
empty_queue (x ∷ xs) e = absurd (omega arith)

pub returns-clause-partly : goal.returns-clause-partly
returns-clause-partly c =
    let none = empty_queue c.loop-q.queue.items (omega (arith, c.in_default.ensures.cases)) in
    let p = c.args.seed in
    marking_ended c.args.element.now c.args.set.now c.args.count (c.args.count + 1) p.x p.y c.args.labels.now c.loop-q.labels c.loop-q.queue.items none c.requires.symmetric c.requires.set refl c.requires.partly c.requires.place
    c.loop-q.invariant.marking c.loop-q.invariant.waits

pub returns-clause-kept : goal.returns-clause-kept
returns-clause-kept c = λ u v place ne. c.loop-q.invariant.marking.kept u v place ne

pub returns-clause-seed : goal.returns-clause-seed
returns-clause-seed c = c.loop-q.invariant.marking.seed
