use Rattle.std.proofs.Common.{◌≡◌, ◌∙◌, length, drop, arith}
use Rattle.std.proofs.lemmas.List.{take_at}
use Rattle.mw_pixel.specs.Images.{set_of}
use Rattle.mw_geodesic_runs.proofs.Found.{set_is, are_spans}
use Rattle.mw_geodesic_runs.proofs.UnitedRows.{runs_most}
use Rattle.mw_geodesic_runs.proofs.spans.spans_of.Goals as goal

pub overflow_cast-many : goal.overflow_cast-many
overflow_cast-many c =
    let p = c.args.set.now in
    let most = runs_most (set_of p) (set_is p c.width-width.ensures.size c.width-width.ensures.small) in
    let few = c.requires.few in
    omega (arith, c.count_runs-many.ensures)

pub returns : goal.returns
returns c =
    let p = c.args.set.now in
    let len = c.in_ok-numbers.numbers.len in
    let united = c.unite_set.new.parent in
    let new = c.number_classes-count.new.parent in
    let size : length united ≡ len = omega (arith, c.unite_set.auto.parent, c.deref_mut.ensures.len) in
    let size' : length new ≡ len = omega (arith, c.number_classes-count.auto.parent, c.deref_mut-2.ensures.len) in
    let same : c.deref_mut-2.result.now ≡ united = c.deref_mut-2.ensures.value ∙ take_at united (drop (length united) c.in_ok-numbers.numbers.items) len size in
    are_spans c.args.neighbours (set_of p) c.unite_set.new.spans.items c.unite_set.new.starts.items united c.deref_mut-2.result.now new _ c.number_classes-count.result c.reach.result (set_is p c.width-width.ensures.size c.width-width.ensures.small)
    c.unite_set.ensures.held c.reach.ensures same c.unite_set.ensures.united c.number_classes-count.ensures (take_at new (drop (length new) _) len size')
