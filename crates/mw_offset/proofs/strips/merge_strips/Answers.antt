use Rattle.std.proofs.Common.{◌≡◌, ◌+◌, ◌-◌, ◌*◌, ◌≤◌, ℕ, length, drop, fold, flat_map, ap, ◌∙◌, arith, add_assoc, length-take, length-drop}
use Rattle.std.proofs.Math.Nat.{mul-le-mul_left}
use Rattle.mw_model.specs.Rasters.{seen_under}
use Rattle.mw_model.specs.Windows.{seen_at}
use Rattle.mw_element_runs.specs.Runs.{run_offsets}
use Rattle.mw_offset.proofs.StripRows.{strips_more, part_blank}
use Rattle.mw_offset.proofs.strips.merge_strips.Goals as goal

pub strips-init : goal.strips-init
strips-init g c = record { size = c.requires.size; within = omega arith; done = λ x j less row_less. absurd (omega arith); rest = λ p from. c.requires.blank p }

pub slice_bounds-merge_runs-end : goal.slice_bounds-merge_runs-end
slice_bounds-merge_runs-end g c =
    let le : c.strips.y + c.min-height.result ≤ c.args.looked.tile.height = omega arith in
    let fits = mul-le-mul_left c.args.looked.tile.width le in
    omega (arith, fits, c.strips.invariant.size)

pub merge_runs-requires-clause-blank : goal.merge_runs-requires-clause-blank
merge_runs-requires-clause-blank g c =
    let width = c.args.looked.tile.width in
    let y = c.strips.y in
    let k = c.min-height.result in
    part_blank c.args.neutral (y * width) (y * width + k * width - y * width) c.strips.out c.strips.invariant.rest

pub strips-preserved : goal.strips-preserved
strips-preserved g c =
    let f = g.E.Extremum.merge in
    let n = c.args.neutral in
    let tile = c.args.looked.tile in
    let width = tile.width in
    let y = c.strips.y in
    let k = c.min-height.result in
    let m = y * width + k * width - y * width in
    let known = c.strips.invariant in
    let made = c.merge_runs.new.out in
    let under = λ (x down : ℕ). fold f n (seen_under (seen_at c.args.window.now) (flat_map run_offsets c.args.runs.now) (tile.x + x) down) in
    let le : y + k ≤ tile.height = omega arith in
    let fits = mul-le-mul_left width le in
    let size : length made ≡ k * width = omega (arith, c.merge_runs.auto.out, known.size, fits, length-take m (drop (y * width) c.strips.out), length-drop (y * width) c.strips.out) in
    strips_more (λ (x j : ℕ). under x (tile.y + j)) n width tile.height y k m c.strips.out made le (omega arith) size
    (λ x j less row_less. c.in_ok-merge_runs.ensures x j less row_less ∙ ap (under x) (add_assoc tile.y y j)) known

pub returns : goal.returns
returns g c = λ x y less row_less. c.strips.invariant.done x y less (omega arith)
