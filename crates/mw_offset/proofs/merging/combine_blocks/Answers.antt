use Rattle.std.proofs.Common.{◌≡◌, ◌+◌, ◌-◌, ◌≤◌, ◌∙◌, ℕ, ap, arith, drop, fold, get_or, length, length-drop, length-take, take}
use Rattle.mw_model.proofs.mw_facts.Alls.{all-weaker}
use Rattle.mw_line.proofs.Folds.{IsExtremum}
use Rattle.mw_offset.specs.MergedAt.{merge_from}
use Rattle.mw_offset.proofs.Parts.{last_done, merged_twice, parts_none}
use Rattle.mw_offset.proofs.merging.combine_blocks.Goals as goal

pub by_block-init : goal.by_block-init
by_block-init g c = parts_none _ c.args.out.now

pub merge_block-requires-clause-room : goal.merge_block-requires-clause-room
merge_block-requires-clause-room g c =
    let size = c.by_block.invariant.size in
    let within = c.by_block.invariant.within in
    all-weaker (λ (p : ℕ). p + (c.args.from + length c.args.out.now) ≤ length c.args.cells.now) (λ (p : ℕ). p + (c.args.from + c.by_block.at + 64) ≤ length c.args.cells.now) c.args.places.now (λ p le. omega arith) c.requires.room

pub returns-then-at-out : goal.returns-then-at-out
returns-then-at-out g c =
    let f = g.E.Extremum.merge in
    let laws : IsExtremum f = record { commutes = g.met.E.Extremum.commutes; associates = g.met.E.Extremum.associates; is_idempotent = g.met.E.Extremum.is_idempotent } in
    let cells = c.args.cells.now in
    let places = c.args.places.now in
    let from = c.args.from in
    let out = c.by_block.out in
    let last = length out - 64 in
    let m = last + 64 - last in
    let part = take m (drop last out) in
    let made = c.merge_block-then-at-out.new.block in
    let size = c.by_block.invariant.size in
    let whole : length part ≡ m = omega (arith, c.requires.block, length-take m (drop last out), length-drop last out) in
    last_done (λ d q best. fold (merge_from f cells d (from + q)) best places) c.by_block.at last m c.args.out.now out made (λ d q best. merged_twice f laws cells d (from + q) best places) (omega arith) (omega arith)
    (omega (arith, c.merge_block-then-at-out.auto.block, whole))
    (λ q d lt.
    let on : from + last + q ≡ from + (last + q) = omega arith in
    c.merge_block-then-at-out.ensures q d (omega arith) ∙ ap (λ (t : ℕ). fold (merge_from f cells d t) (get_or part q d) places) on) c.by_block.invariant
