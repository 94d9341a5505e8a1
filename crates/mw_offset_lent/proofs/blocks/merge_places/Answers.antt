use Rattle.std.proofs.Common.{◌≡◌, ◌+◌, ◌*◌, ◌≤◌, ◌∙◌, ℕ, ap, arith, get_or, length, refl}
use Rattle.std.proofs.lemmas.List.{take_all}
use Rattle.mw_model.proofs.mw_facts.Alls.{all-get_or}
use Rattle.mw_offset_lent.specs.Places.{merged_at}
use Rattle.mw_offset_lent.proofs.Merges.{merged_more}
use Rattle.mw_offset_lent.proofs.blocks.merge_places.Goals as goal

pub loop-place-preserved : goal.loop-place-preserved
loop-place-preserved g c =
    let f = g.E.Extremum.merge in
    let lane = g.P.Laned.lane in
    let cells = c.args.cells.now in
    let places = c.args.places.now in
    let at = c.args.at in
    let w = g.P.Laned.WIDTH in
    let j = c.loop-place.place-index in
    let place = get_or places j 0 in
    record {
      first = λ i d lt.
          let here : place + at + i ≡ place + (at + i) = omega arith in
          merged_more f cells d (at + i) j place places (lane c.args.best.0 i) (lane c.loop-place.first i) _ (omega arith) refl (c.loop-place.invariant.first i d lt)
          (c.merged-first.ensures i lt ∙ ap (f (lane c.loop-place.first i)) (c.load.ensures i d lt ∙ ap (λ (t : ℕ). get_or cells t d) here));
      second = λ i d lt.
          let here : place + at + c.WIDTH.result + i ≡ place + (at + w + i) = omega (arith, c.WIDTH.ensures) in
          merged_more f cells d (at + w + i) j place places (lane c.args.best.1 i) (lane c.loop-place.second i) _ (omega arith) refl (c.loop-place.invariant.second i d lt)
          (c.merged-second.ensures i lt ∙ ap (f (lane c.loop-place.second i)) (c.load-in-loop-place.ensures i d lt ∙ ap (λ (t : ℕ). get_or cells t d) here));
    }

pub load-requires : goal.load-requires
load-requires g c =
    let places = c.args.places.now in
    let fits = all-get_or (λ (p : ℕ). p + (c.args.at + 2 * g.P.Laned.WIDTH) ≤ length c.args.cells.now) places c.loop-place.place-index 0 (omega arith) c.requires in
    omega (arith, fits)

pub load-requires-in-loop-place : goal.load-requires-in-loop-place
load-requires-in-loop-place g c =
    let places = c.args.places.now in
    let fits = all-get_or (λ (p : ℕ). p + (c.args.at + 2 * g.P.Laned.WIDTH) ≤ length c.args.cells.now) places c.loop-place.place-index 0 (omega arith) c.requires in
    omega (arith, fits, c.WIDTH.ensures)

pub returns-clause-first : goal.returns-clause-first
returns-clause-first g c = λ i d lt.
    let places = c.args.places.now in
    c.loop-place.invariant.first i d lt ∙ ap (merged_at g.E.Extremum.merge c.args.cells.now d (c.args.at + i) (g.P.Laned.lane c.args.best.0 i)) (take_all c.loop-place.place-index places (omega arith))

pub returns-clause-second : goal.returns-clause-second
returns-clause-second g c = λ i d lt.
    let places = c.args.places.now in
    c.loop-place.invariant.second i d lt ∙ ap (merged_at g.E.Extremum.merge c.args.cells.now d (c.args.at + g.P.Laned.WIDTH + i) (g.P.Laned.lane c.args.best.1 i)) (take_all c.loop-place.place-index places (omega arith))
