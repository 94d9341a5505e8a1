use Rattle.std.proofs.Common.{◌≡◌, ℕ, ◌+◌, ◌-◌, ◌*◌, ◌≤◌, fold, length, take, drop, refl, arith, length-take, length-drop}
use Rattle.mw_model.proofs.mw_facts.Alls.{all-weaker}
use Rattle.mw_line.proofs.Rows.{rows_more, rows_fit}
use Rattle.mw_offset.specs.MergedAt.{merge_from}
use Rattle.mw_offset.proofs.Parts.{any_default}
use Rattle.mw_offset.proofs.Rooms.{row_fits}
use Rattle.mw_offset.proofs.merging.combine_rows_at.Goals as goal

pub combine_places-requires-clause-cells : goal.combine_places-requires-clause-cells
combine_places-requires-clause-cells g c =
    let width = c.args.width in
    let y = c.loop-y.y in
    let m = y * width + width - y * width in
    let fits = row_fits y c.args.height c.args.wide width ((c.args.height - 1) * c.args.wide + width) c.loop-y-test.true (omega arith) in
    omega (arith, fits, c.requires.cells, length-take m (drop (y * width) c.loop-y.out))

pub combine_places-requires-clause-room : goal.combine_places-requires-clause-room
combine_places-requires-clause-room g c =
    let width = c.args.width in
    let wide = c.args.wide in
    let y = c.loop-y.y in
    let m = y * width + width - y * width in
    let n = length c.args.cells.now in
    let part = length (take m (drop (y * width) c.loop-y.out)) in
    let last = (c.args.height - 1) * wide + width in
    let fits = row_fits y c.args.height wide width last c.loop-y-test.true (omega arith) in
    let short : part ≤ width = omega (arith, length-take m (drop (y * width) c.loop-y.out)) in
    all-weaker (λ (p : ℕ). p + (last + 63) ≤ n) (λ (p : ℕ). p + (y * wide + part + 63) ≤ n) c.args.places.now (λ p le. omega arith) c.requires.room

pub loop-y-init : goal.loop-y-init
loop-y-init g c = λ d. record { size = c.requires.size; done = λ x j e less row_less. absurd (omega arith); rest = λ p e from. refl }

pub loop-y-preserved : goal.loop-y-preserved
loop-y-preserved g c = λ d.
    let f = g.E.Extremum.merge in
    let cells = c.args.cells.now in
    let places = c.args.places.now in
    let wide = c.args.wide in
    let width = c.args.width in
    let y = c.loop-y.y in
    let m = y * width + width - y * width in
    let out = c.loop-y.out in
    let part = take m (drop (y * width) out) in
    let made = c.combine_places.new.out in
    let before = c.loop-y.invariant d in
    let fits = rows_fit y c.args.height width c.loop-y-test.true in
    let whole : length part ≡ width = omega (arith, length-take m (drop (y * width) out), length-drop (y * width) out, before.size, fits) in
    let size : length made ≡ width = omega (arith, c.combine_places.auto.out, whole) in
    rows_more (λ best x j. fold (merge_from f cells d (j * wide + x)) best places) width c.args.height y m c.args.out.now out made c.loop-y-test.true (omega arith) size
    (λ x e less. any_default (λ (t : g.row.P.Denot). fold (merge_from f cells d (y * wide + x)) t places) made part x d e (omega arith) (omega arith) (c.combine_places.ensures x d (omega arith)))
    before

pub returns : goal.returns
returns g c = λ x y d less row_less. (c.loop-y.invariant d).done x y d less (omega arith)
