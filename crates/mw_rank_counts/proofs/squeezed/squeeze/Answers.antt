use Rattle.std.proofs.Common.{ℕ, ◌+◌, ◌-◌, arith, get_or, ap, ◌∙◌, take, drop}
use lib.Lanes.{chunk}
use Rattle.std.proofs.lemmas.List.{get_or-take}
use Rattle.mw_rank_counts.specs.Squeezed.{squeezed}
use Rattle.mw_rank_counts.proofs.Lanes.{load_lane, load_size}
use Rattle.mw_rank_counts.proofs.Squeezing.{bytes_more}
use Rattle.mw_rank_counts.proofs.squeezed.squeeze.Goals as goal

pub squeezed_lanes-requires-clause-here : goal.squeezed_lanes-requires-clause-here
squeezed_lanes-requires-clause-here c = load_size c.args.samples.now (get_or c.args.places.now c.loop-q.q 0) (c.requires.inside c.loop-q.q (omega arith))

pub loop-q-preserved : goal.loop-q-preserved
loop-q-preserved c =
    let value = λ (q i : ℕ). squeezed c.args.rest (get_or c.args.found.now i 0) (get_or c.args.samples.now (get_or c.args.places.now q 0 + i) 0) in
    let p = get_or c.args.places.now c.loop-q.q 0 in
    bytes_more value c.loop-q.bytes c.put_lanes.new.bytes c.squeezed_lanes.result c.loop-q.q c.put_lanes.ensures.put c.put_lanes.ensures.others
    (λ i lt.
    c.squeezed_lanes.ensures.lanes i lt
    ∙ ap (λ (v : ℕ). squeezed c.args.rest v (get_or (chunk 0 32 (take (p + 32 - p) (drop p c.args.samples.now))) i 0)) (get_or-take 32 c.args.found.now i 0 lt)
    ∙ ap (squeezed c.args.rest (get_or c.args.found.now i 0)) (load_lane c.args.samples.now p i 0 (c.requires.inside c.loop-q.q (omega arith)) lt)) c.loop-q.invariant
