use Rattle.std.proofs.Common.{◌≡◌, ◌+◌, ◌≤◌, ◌∙◌, ℕ, ap, arith, get_or, length, refl}
use Rattle.std.proofs.lemmas.List.{take_all}
use Rattle.mw_model.proofs.mw_facts.Alls.{all-get_or}
use Rattle.mw_offset_lent.specs.Places.{merged_at}
use Rattle.mw_offset_lent.proofs.Merges.{merged_more}
use Rattle.mw_offset_lent.proofs.blocks.put_vector.Goals as goal

pub loop-place-init : goal.loop-place-init
loop-place-init g c = λ i lt. c.all-best.ensures i lt

pub loop-place-preserved : goal.loop-place-preserved
loop-place-preserved g c = λ i lt.
    let f = g.E.Extremum.merge in
    let lane = g.P.Laned.lane in
    let cells = c.args.cells.now in
    let n = c.args.neutral in
    let places = c.args.places.now in
    let from = c.args.from in
    let j = c.loop-place.place-index in
    let place = get_or places j 0 in
    let here : place + from + i ≡ place + (from + i) = omega arith in
    merged_more f cells n (from + i) j place places n (lane c.loop-place.best i) _ (omega arith) refl (c.loop-place.invariant i lt) (c.merged-best.ensures i lt ∙ ap (f (lane c.loop-place.best i)) (c.load.ensures i n lt ∙ ap (λ (t : ℕ). get_or cells t n) here))

pub load-requires : goal.load-requires
load-requires g c =
    let places = c.args.places.now in
    let fits = all-get_or (λ (p : ℕ). p + (c.args.from + g.P.Laned.WIDTH) ≤ length c.args.cells.now) places c.loop-place.place-index 0 (omega arith) c.requires.inside in
    omega (arith, fits)

pub returns-clause-put : goal.returns-clause-put
returns-clause-put g c = record { size = c.store.ensures.size; before = c.store.ensures.before; behind = c.store.ensures.behind }

pub returns-clause-made : goal.returns-clause-made
returns-clause-made g c = λ i lt.
    let places = c.args.places.now in
    let n = c.args.neutral in
    c.store.ensures.put i n lt ∙ c.loop-place.invariant i lt ∙ ap (merged_at g.E.Extremum.merge c.args.cells.now n (c.args.from + i) n) (take_all c.loop-place.place-index places (omega arith))
