use Rattle.std.proofs.Common.{◌≡◌, ◌+◌, ◌*◌, ◌∙◌, ℕ, ap, arith, get_or, refl}
use Rattle.std.proofs.lemmas.List.{take_all}
use Rattle.mw_offset_lent.specs.Places.{merged_at}
use Rattle.mw_offset_lent.proofs.Merges.{merged_more}
use Rattle.mw_offset_lent.proofs.wide.merge_four.Goals as goal

pub loop-i-preserved : goal.loop-i-preserved
loop-i-preserved g c =
    let f = g.E.Extremum.merge in
    let lane = g.P.Laned.lane in
    let cells = c.args.cells.now in
    let places = c.args.places.now in
    let at = c.args.at in
    let w = g.P.Laned.WIDTH in
    let j = c.loop-i.i in
    let place = get_or places j 0 in
    record {
      first = λ i d lt.
          let here : place + at + i ≡ place + (at + i) = omega arith in
          merged_more f cells d (at + i) j place places (lane c.args.best.first i) (lane c.loop-i.first i) _ (omega arith) refl (c.loop-i.invariant.first i d lt)
          (c.merged-first.ensures i lt ∙ ap (f (lane c.loop-i.first i)) (c.load.ensures i d lt ∙ ap (λ (t : ℕ). get_or cells t d) here));
      second = λ i d lt.
          let here : place + at + c.WIDTH.result + i ≡ place + (at + w + i) = omega (arith, c.WIDTH.ensures) in
          merged_more f cells d (at + w + i) j place places (lane c.args.best.second i) (lane c.loop-i.second i) _ (omega arith) refl (c.loop-i.invariant.second i d lt)
          (c.merged-second.ensures i lt ∙ ap (f (lane c.loop-i.second i)) (c.load-in-loop-i.ensures i d lt ∙ ap (λ (t : ℕ). get_or cells t d) here));
      third = λ i d lt.
          let here : place + at + 2 * c.WIDTH-in-loop-i.result + i ≡ place + (at + 2 * w + i) = omega (arith, c.WIDTH-in-loop-i.ensures) in
          merged_more f cells d (at + 2 * w + i) j place places (lane c.args.best.third i) (lane c.loop-i.third i) _ (omega arith) refl (c.loop-i.invariant.third i d lt)
          (c.merged-third.ensures i lt ∙ ap (f (lane c.loop-i.third i)) (c.load-in-loop-i-2.ensures i d lt ∙ ap (λ (t : ℕ). get_or cells t d) here));
      fourth = λ i d lt.
          let here : place + at + 3 * c.WIDTH-in-loop-i-2.result + i ≡ place + (at + 2 * w + w + i) = omega (arith, c.WIDTH-in-loop-i-2.ensures) in
          merged_more f cells d (at + 2 * w + w + i) j place places (lane c.args.best.fourth i) (lane c.loop-i.fourth i) _ (omega arith) refl (c.loop-i.invariant.fourth i d lt)
          (c.merged-fourth.ensures i lt ∙ ap (f (lane c.loop-i.fourth i)) (c.load-in-loop-i-3.ensures i d lt ∙ ap (λ (t : ℕ). get_or cells t d) here));
    }

pub returns-clause-first : goal.returns-clause-first
returns-clause-first g c = λ i d lt.
    let places = c.args.places.now in
    c.loop-i.invariant.first i d lt ∙ ap (merged_at g.E.Extremum.merge c.args.cells.now d (c.args.at + i) (g.P.Laned.lane c.args.best.first i)) (take_all c.loop-i.i places (omega arith))

pub returns-clause-second : goal.returns-clause-second
returns-clause-second g c = λ i d lt.
    let places = c.args.places.now in
    c.loop-i.invariant.second i d lt ∙ ap (merged_at g.E.Extremum.merge c.args.cells.now d (c.args.at + g.P.Laned.WIDTH + i) (g.P.Laned.lane c.args.best.second i)) (take_all c.loop-i.i places (omega arith))

pub returns-clause-third : goal.returns-clause-third
returns-clause-third g c = λ i d lt.
    let places = c.args.places.now in
    c.loop-i.invariant.third i d lt ∙ ap (merged_at g.E.Extremum.merge c.args.cells.now d (c.args.at + 2 * g.P.Laned.WIDTH + i) (g.P.Laned.lane c.args.best.third i)) (take_all c.loop-i.i places (omega arith))

pub returns-clause-fourth : goal.returns-clause-fourth
returns-clause-fourth g c = λ i d lt.
    let places = c.args.places.now in
    c.loop-i.invariant.fourth i d lt ∙ ap (merged_at g.E.Extremum.merge c.args.cells.now d (c.args.at + 2 * g.P.Laned.WIDTH + g.P.Laned.WIDTH + i) (g.P.Laned.lane c.args.best.fourth i)) (take_all c.loop-i.i places (omega arith))
