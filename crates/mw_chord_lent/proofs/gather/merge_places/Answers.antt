use Rattle.std.proofs.Common.{◌≡◌, ◌+◌, ◌*◌, ◌≤◌, ◌∙◌, ℕ, ap, arith, get_or, length, refl}
use Rattle.std.proofs.lemmas.List.{take_all}
use Rattle.mw_model.proofs.mw_facts.Alls.{all-get_or}
use Rattle.mw_chord_lent.specs.Placed.{gathered_at}
use Rattle.mw_chord_lent.proofs.Gathers.{gathered_more}
use Rattle.mw_chord_lent.proofs.gather.merge_places.Goals as goal

pub loop-place-init : goal.loop-place-init
loop-place-init g c = record { first = λ i lt. c.all-start.ensures i lt; second = λ i lt. c.all-start.ensures i lt }

pub loop-place-preserved : goal.loop-place-preserved
loop-place-preserved g c =
    let f = g.E.Extremum.merge in
    let lane = g.P.Laned.lane in
    let lists = c.args.lists.now in
    let n = c.args.neutral in
    let places = c.args.places.now in
    let from = c.args.from in
    let w = g.P.Laned.WIDTH in
    let j = c.loop-place.place-index in
    let place = get_or places j 0 in
    record {
      first = λ i lt.
          let here : place + from + i ≡ place + (from + i) = omega arith in
          gathered_more f lists n (from + i) j place places n (lane c.loop-place.first i) _ (omega arith) refl (c.loop-place.invariant.first i lt)
          (c.merged-first.ensures i lt ∙ ap (f (lane c.loop-place.first i)) (c.load.ensures i n lt ∙ ap (λ (t : ℕ). get_or lists t n) here));
      second = λ i lt.
          let here : place + from + c.WIDTH.result + i ≡ place + (from + w + i) = omega (arith, c.WIDTH.ensures) in
          gathered_more f lists n (from + w + i) j place places n (lane c.loop-place.second i) _ (omega arith) refl (c.loop-place.invariant.second i lt)
          (c.merged-second.ensures i lt ∙ ap (f (lane c.loop-place.second i)) (c.load-in-loop-place.ensures i n lt ∙ ap (λ (t : ℕ). get_or lists t n) here));
    }

pub load-requires : goal.load-requires
load-requires g c =
    let places = c.args.places.now in
    let fits = all-get_or (λ (p : ℕ). p + (c.args.from + 2 * g.P.Laned.WIDTH) ≤ length c.args.lists.now) places c.loop-place.place-index 0 (omega arith) c.requires in
    omega (arith, fits)

pub load-requires-in-loop-place : goal.load-requires-in-loop-place
load-requires-in-loop-place g c =
    let places = c.args.places.now in
    let fits = all-get_or (λ (p : ℕ). p + (c.args.from + 2 * g.P.Laned.WIDTH) ≤ length c.args.lists.now) places c.loop-place.place-index 0 (omega arith) c.requires in
    omega (arith, fits, c.WIDTH.ensures)

pub returns-clause-first : goal.returns-clause-first
returns-clause-first g c = λ i lt.
    let places = c.args.places.now in
    c.loop-place.invariant.first i lt ∙ ap (gathered_at g.E.Extremum.merge c.args.lists.now c.args.neutral (c.args.from + i) c.args.neutral) (take_all c.loop-place.place-index places (omega arith))

pub returns-clause-second : goal.returns-clause-second
returns-clause-second g c = λ i lt.
    let places = c.args.places.now in
    c.loop-place.invariant.second i lt ∙ ap (gathered_at g.E.Extremum.merge c.args.lists.now c.args.neutral (c.args.from + g.P.Laned.WIDTH + i) c.args.neutral) (take_all c.loop-place.place-index places (omega arith))
