use Rattle.std.proofs.Common.{ℕ, ◌^◌, arith, sym, ◌∙◌, subst}
use Rattle.std.proofs.lemmas.List.{get_or_default}
use Rattle.mw_rank_counts.specs.Counting.{levels_on, IsBetween}
use Rattle.mw_rank_counts.proofs.Narrow.{lane_begun, lane_narrowed, found_small}
use Rattle.mw_rank_counts.proofs.squeezed.narrow_in.Goals as goal

pub seek-requires-clause-inside : goal.seek-requires-clause-inside
seek-requires-clause-inside c = λ q lt. omega (arith, c.requires.steps q lt)

pub seek-requires-clause-between : goal.seek-requires-clause-between
seek-requires-clause-between c = λ i lt.
    lane_begun c.args.samples.now c.args.places.now c.squeeze.new.bytes c.args.steps.now c.args.found.now c.args.n c.args.rest c.args.bits _ i c.requires.rank lt (c.clear.ensures i (omega arith))
    (record { size = c.requires.size; at = c.requires.steps; room = omega arith; inside = c.requires.inside; whole = c.requires.whole; same = c.squeeze.ensures })
    (c.requires.between i lt)

pub lift-requires-clause-room : goal.lift-requires-clause-room
lift-requires-clause-room c = λ i lt.
    found_small c.args.samples.now c.args.places.now c.args.n (2 ^ c.args.rest) _ i c.requires.rank c.requires.inside (λ j. let fits = (c.type_inv.samples j).fits in omega arith)
    (lane_narrowed c.args.samples.now c.args.places.now c.squeeze.new.bytes c.args.steps.now c.args.found.now c.seek.new.found c.args.n c.args.rest c.args.bits i c.requires.rank c.requires.bits (omega arith) lt
    (record { size = c.requires.size; at = c.requires.steps; room = omega arith; inside = c.requires.inside; whole = c.requires.whole; same = c.squeeze.ensures })
    (c.requires.between i lt) (c.seek.ensures i lt))

pub returns : goal.returns
returns c = λ i lt.
    subst (λ (u : ℕ). IsBetween c.args.n u (2 ^ c.args.rest) (levels_on (λ (s : ℕ). s) 65535 c.args.samples.now c.args.places.now i)) (sym (get_or_default c.lift.new.found i 65535 0 (omega arith) ∙ c.lift.ensures i lt))
    (lane_narrowed c.args.samples.now c.args.places.now c.squeeze.new.bytes c.args.steps.now c.args.found.now c.seek.new.found c.args.n c.args.rest c.args.bits i c.requires.rank c.requires.bits (omega arith) lt
    (record { size = c.requires.size; at = c.requires.steps; room = omega arith; inside = c.requires.inside; whole = c.requires.whole; same = c.squeeze.ensures })
    (c.requires.between i lt) (c.seek.ensures i lt))
